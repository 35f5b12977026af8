-- `arbiter::sets::lowest` meets its contract: the zeros below the lowest member are its number.
use native.Mathlib.Omega.{arith}
use lib.Count.{leading_le, trailing_le}
use Rattle.arbiter.proofs.SetBits.{trailing_lowest}
use Rattle.arbiter.proofs.sets.lowest.Goals as goal

-- zeros from either end are few, so that an edit of the end fails where the number is told
pub overflow_cast-result : goal.overflow_cast-result
overflow_cast-result c = record { fits = omega (arith, trailing_le 16 c.args.s, leading_le 16 c.args.s) }

pub returns : goal.returns
returns c = trailing_lowest c.args.s
