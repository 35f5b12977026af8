-- The passes over the blocks together say that every block is sound.
use Prim.Native.Nat.{ℕ}
use mathlib.Core.Path.{◌≡◌, ap, ◌∙◌}
use mathlib.Core.Bool.{Bool, ◌&&◌}
use mathlib.Core.List.{List}
use Rattle.spec_base.specs.Folds.{all_below}
use Rattle.spec_base.proofs.Folds.{below_and}
use Rattle.spec_rack.specs.RecordLayout.{block_offset}
use Rattle.record_lanes.specs.Lanes.{sound_lanes, unused_lanes_empty}
use Rattle.record_soundness.specs.Decision.{sound_sums_at, sound_block_at}

module _ (n t : ℕ) (s : List ℕ) (count : ℕ) (mesh : ℕ → ℕ) where
  abbrev sums : Bool
  sums = all_below count (λ b. sound_sums_at n t s (block_offset b) (mesh b))

  abbrev marks : Bool
  marks = all_below count (λ b. sound_lanes s (block_offset b))

  abbrev rooms : Bool
  rooms = all_below count (λ b. unused_lanes_empty n s (block_offset b))

  pub passes : all_below count (λ b. sound_block_at n t s (block_offset b) (mesh b)) ≡ (sums && (marks && rooms))
  unfolding sound_block_at
  passes =
      below_and (λ b. sound_sums_at n t s (block_offset b) (mesh b)) (λ b. sound_lanes s (block_offset b) && unused_lanes_empty n s (block_offset b)) count
      ∙ ap (λ (w : Bool). sums && w) (below_and (λ b. sound_lanes s (block_offset b)) (λ b. unused_lanes_empty n s (block_offset b)) count)
