-- `step_claims::raise_check` meets its contract: the first two lines by one check, the rest is the arbiter's.
use mathlib.Core.Path.{refl, ◌∙◌}
use native.Mathlib.Omega.{arith}
use Rattle.spec_wire.specs.Refusals.{when◌refuse◌else◌}
use Rattle.spec_arbiter.specs.Claims.{raise_check}
use Rattle.spec_rack.specs.Rules.{check}
use Rattle.step_checks.specs.Checked.{board_lines}
use Rattle.step_checks.proofs.CheckLaws.{raise_lines, board_on, board_away, board_rest}
use Rattle.step_checks.proofs.RackBounds.{board_claims, board_one, verdict_here}
use borrow.Author.Rules.{rules}
use Rattle.step_claims.proofs.raise_check.Goals as goal

pub returns-in_err-board_check : goal.returns-in_err-board_check
unfolding check board_lines when◌refuse◌else◌
returns-in_err-board_check c = grind arith

-- The verdict stands before what the arbiter asks for, so that the claims of another block are refused there first.
pub returns : goal.returns
returns c =
    board_rest _ _ _ c.in_ok-board_check.ensures
    (verdict_here _ _ _ refl (board_on _ _ _ c.in_ok-board_check.ensures) c.requires _ c.claims_offset.ensures (search rules) raise_check c.raise_check.ensures)
    ∙ raise_lines _ _ _

pub raise_check-requires : goal.raise_check-requires
raise_check-requires c =
    let known = board_claims _ _ _ refl (board_on _ _ _ c.in_ok-board_check.ensures) c.requires _ c.claims_offset.ensures in
    (known.0, board_one c.args.component refl (board_away _ _ _ c.in_ok-board_check.ensures), known.1)
