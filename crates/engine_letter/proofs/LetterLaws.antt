-- The state letter by bytes: a sound record is well-formed, so the cell's figures are read at their places, and the owner's byte is the number of owners.
use Prim.Native.Nat.{ℕ, ◌+◌, ◌≤◌, ◌<◌}
use native.Mathlib.Omega.{arith}
use mathlib.Core.Path.{◌≡◌, refl, sym, ap, ◌∙◌}
use mathlib.Core.Bool.{true, false, ◌||◌}
use mathlib.Core.List.{List}
use borrow.Author.Tests.{ltb-false, leb-false}
use lib.Dec.{eqb, ltb, leb}
use lib.ListN.{get_or}
use Rattle.spec_base.proofs.Tests.{or_l, or_r}
use Rattle.spec_wire.specs.declared.Refusal.TheVariants.{Unsound, OffRack, Home}
use Rattle.std.specs.Prelude.{Ok, Err}
use Rattle.spec_wire.specs.Answers.{Check, no_refusal}
use Rattle.spec_wire.specs.Refusals.{when◌refuse◌else◌}
use Rattle.spec_wire.proofs.RefusalTable.{table}
use Rattle.spec_base.specs.Number.{Bytes}
use Rattle.spec_rack.specs.declared.Letter.{Letter}
use Rattle.spec_rack.specs.Rack.{zeros, cell_at}
use Rattle.spec_rack.specs.Letter.{letter_check, letter_of, lettered, letter, letter_reply}
use Rattle.spec_rack.specs.RecordLayout.{block_offset, owner_offset, dirty_offset, to_cell, cell_at_offset, get, blocks_in, boards_in, tokens_in}
use Rattle.spec_rack.specs.Soundness.{sound_bytes}
use Rattle.spec_rack.proofs.GetPut.{boards_is, tokens_is, blocks_is}
use Rattle.record.proofs.FieldOffsets.{tokens_at}
use Rattle.record_soundness.proofs.SoundnessDecision.{lanes_of}
use Rattle.engine_letter.proofs.LetterCell.{whole}

pub letter_unsound : (s : List ℕ) (c b : ℕ) → sound_bytes s ≡ false → Err Unsound ≡ letter_reply s c b
unfolding letter_reply
letter_unsound s c b e = rw e

module _ (s : List ℕ) (c b : ℕ) (ok : sound_bytes s ≡ true) where
  -- the check, over the record's sizes
  abbrev verdict : Check
  verdict =
      when ltb (boards_in s) c || leb (blocks_in s) b refuse OffRack else
      when eqb c 0 refuse Home else
      no_refusal

  letter_is : (k : Check) → k ≡ verdict → lettered k (letter_of (get s).tokens (cell_at (get s) b c)) ≡ letter_reply s c b
  unfolding letter_reply letter letter_check
  letter_is k e = rw (ok, boards_is s, blocks_is s, e)

  pub letter_off_rack : (ltb (boards_in s) c || leb (blocks_in s) b) ≡ true → Err OffRack ≡ letter_reply s c b
  letter_off_rack h = letter_is (Err OffRack) (search table depth 10)

  module _ (on : (ltb (boards_in s) c || leb (blocks_in s) b) ≡ false) where
    pub on_rack : (b < blocks_in s) × (c ≤ boards_in s)
    on_rack = (leb-false (blocks_in s) b (or_r (ltb (boards_in s) c) (leb (blocks_in s) b) on), ltb-false (boards_in s) c (or_l (ltb (boards_in s) c) (leb (blocks_in s) b) on))

    pub letter_home : c ≡ 0 → Err Home ≡ letter_reply s c b
    letter_home h = letter_is (Err Home) (search table depth 10)

    module _ (bytes : Bytes s) where
      pub letter_mark : get_or s (block_offset b + c + owner_offset) 0 < 2
      letter_mark =
          let e : block_offset b + owner_offset + c ≡ block_offset b + c + owner_offset = omega arith in
          rw e at ((lanes_of s (whole s bytes ok).well_formed b on_rack.0).owners c on_rack.1)

      pub letter_dirty : get_or s (block_offset b + c + dirty_offset) 0 ≤ get_or s (block_offset b + c + owner_offset) 0
      letter_dirty =
          let e : block_offset b + owner_offset + c ≡ block_offset b + c + owner_offset = omega arith in
          let d : block_offset b + dirty_offset + c ≡ block_offset b + c + dirty_offset = omega arith in
          rw (e, d) at ((lanes_of s (whole s bytes ok).well_formed b on_rack.0).dirties c on_rack.1)

      pub letter_read : (x : Letter) → (c ≡ 0 → ⊥) → x ≡ letter_of (tokens_in s) (cell_at_offset s (block_offset b + c)) → Ok x ≡ letter_reply s c b
      letter_read x h ex =
          ap Ok ex
          ∙ (λ i. Ok (letter_of (sym (tokens_is s) i) (to_cell (sym (tokens_at s (whole s bytes ok).well_formed b c on_rack.0 on_rack.1 (block_offset b + c) refl) i, zeros))))
          ∙ letter_is no_refusal (search table depth 10)
