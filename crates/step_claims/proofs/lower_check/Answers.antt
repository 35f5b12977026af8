-- `step_claims::lower_check` meets its contract: the first two lines by one check, the rest is the arbiter's.
use mathlib.Core.Path.{refl, ◌∙◌}
use native.Mathlib.Omega.{arith}
use Rattle.spec_wire.specs.Refusals.{when◌refuse◌else◌}
use Rattle.spec_arbiter.specs.Claims.{lower_check}
use Rattle.spec_rack.specs.Rules.{check}
use Rattle.step_checks.specs.Checked.{board_lines}
use Rattle.step_checks.proofs.CheckLaws.{lower_lines, board_on, board_rest}
use Rattle.step_checks.proofs.RackBounds.{board_claims, verdict_here}
use borrow.Author.Rules.{rules}
use Rattle.step_claims.proofs.lower_check.Goals as goal

pub returns-in_err-board_check : goal.returns-in_err-board_check
unfolding check board_lines when◌refuse◌else◌
returns-in_err-board_check c = grind arith

pub lower_check-requires : goal.lower_check-requires
lower_check-requires c = board_claims _ _ _ refl (board_on _ _ _ c.in_ok-board_check.ensures) c.requires _ c.claims_offset.ensures

pub returns : goal.returns
returns c =
    board_rest _ _ _ c.in_ok-board_check.ensures
    (verdict_here _ _ _ refl (board_on _ _ _ c.in_ok-board_check.ensures) c.requires _ c.claims_offset.ensures (search rules) lower_check (λ n l h. c.lower_check.ensures n))
    ∙ lower_lines _ _ _
