-- `base::is_zero` meets its contract: the bytes so far have been tested.
use mathlib.Core.Path.{◌≡◌}
use lib.ListN.{get_or}
use lib.Dec.{eqb}
use Rattle.spec_base.specs.Folds.{all_below}
use Rattle.base.proofs.is_zero.Given as goal

abbrev pub invariant-loop-byte : goal.invariant-loop-byte
invariant-loop-byte l = l.clear ≡ all_below l.byte-index (λ i. eqb (get_or l.bytes i 0) 0)
