-- `arbiter::sets::size` meets its contract: the ones are the members.
use native.Mathlib.Omega.{arith}
use lib.Count.{ones-le}
use Rattle.arbiter.proofs.SetBits.{ones_size}
use borrow.Author.Rules.{rules}
use Rattle.arbiter.proofs.sets.size.Goals as goal

pub overflow_cast-result : goal.overflow_cast-result
overflow_cast-result c = record { fits = omega (arith, ones-le 16 c.args.s (search rules)) }

pub returns : goal.returns
returns c = ones_size c.args.s (search rules)
