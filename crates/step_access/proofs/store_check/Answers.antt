-- `step_access::store_check` meets its contract: its tests are those of the table, in order.
use mathlib.Core.Path.{refl}
use Rattle.step_checks.proofs.RackBounds.{on_of, in_cell}
use Rattle.spec_rack.specs.Rules.{check}
use Rattle.spec_rack.proofs.GetPut.{tokens_is}
use Rattle.step_checks.proofs.CheckLaws.{lines}
use native.Mathlib.Omega.{arith}
use borrow.Author.Rules.{rules}
use Rattle.step_access.proofs.store_check.Goals as goal

pub token_state-state-requires : goal.token_state-state-requires
token_state-state-requires c = in_cell _ _ _ refl (search on_of) (search rules)

-- The check finds the verdicts alone. These two stand here so that an edit is refused sooner, and with values at which the verdict is wrong.
pub returns-then-at_home : goal.returns-then-at_home
unfolding check
returns-then-at_home c = grind (arith, lines)

pub returns-then-held-from : goal.returns-then-held-from
unfolding check
returns-then-held-from c = grind (arith, lines, tokens_is)
