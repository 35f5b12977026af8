-- `step_send::send::send` meets its contract: the table has the tokens held and room in the mesh.
use native.Mathlib.Omega.{arith}
use Rattle.spec_rack.specs.Rules.{after}
use Rattle.step_checks.proofs.CheckFacts.{send_passed}
use Rattle.step_checks.proofs.StepOutcome.{written_is}
use Rattle.step_send.proofs.send.send.Goals as goal

-- Both are found whatever the calls are named, so that a send whose check is passed over is refused at the bytes.
pub returns-clause-buffer : goal.returns-clause-buffer
unfolding after
returns-clause-buffer c = grind (arith, written_is)

pub send_tokens-requires : goal.send_tokens-requires
send_tokens-requires c = grind (arith, send_passed)
