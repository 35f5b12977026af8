-- `record_lanes::all_lanes_sound` meets its contract: the loop stops at the first block whose lanes are not sound.
use Prim.Native.Nat.{ℕ, ◌<◌}
use mathlib.Core.Path.{◌≡◌}
use mathlib.Core.Bool.{true}
use Rattle.spec_rack.specs.RecordLayout.{block_offset}
use Rattle.record_lanes.specs.Lanes.{sound_lanes}
use Rattle.record_lanes.proofs.all_lanes_sound.Given as goal

abbrev pub invariant-loop-b : goal.invariant-loop-b
invariant-loop-b l = (k : ℕ) → k < l.b → sound_lanes l.s (block_offset k) ≡ true
