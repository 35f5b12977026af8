-- `wire_writer::fields::total` meets its contract: the sum of the numbers passed.
use mathlib.Core.Path.{◌≡◌}
use Prim.Native.Nat.{◌*◌, ◌≤◌}
use lib.ListN.{get_or}
use Rattle.spec_base.specs.Folds.{sum_below}
use Rattle.wire_writer.proofs.fields.total.Given as goal

abbrev pub invariant-loop-place : goal.invariant-loop-place
invariant-loop-place l = (l.sum ≤ l.place * 0x1_0000_0000) × (l.sum ≡ sum_below l.place (λ k. get_or l.numbers k 0))
