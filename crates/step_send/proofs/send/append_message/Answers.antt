-- `step_send::send::append_message` meets its contract: the owner as it is marked, and the component's words, or none.
use native.Mathlib.Omega.{arith}
use Rattle.step_send.proofs.send.append_message.Goals as goal

-- `grind` alone tries every way, so that a message with other words is refused at the fact.
pub returns : goal.returns
returns c = grind arith
