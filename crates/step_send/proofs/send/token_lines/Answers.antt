-- `step_send::send::token_lines` meets its contract: its lines are the table's.
use native.Mathlib.Omega.{arith}
use Rattle.step_send.proofs.send.token_lines.Goals as goal

-- `grind` alone tries every way, so that a line that asks otherwise is refused at the fact.
pub returns : goal.returns
returns c = grind arith
