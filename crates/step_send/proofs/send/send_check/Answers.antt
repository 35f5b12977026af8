-- `step_send::send::send_check` meets its contract: on the rack its lines are the table's.
use native.Mathlib.Omega.{arith}
use Rattle.spec_wire.proofs.RefusalTable.{stops}
use Rattle.spec_rack.specs.Rules.{check}
use Rattle.spec_rack.proofs.GetPut.{boards_is}
use Rattle.step_checks.proofs.RackBounds.{block_on, in_cell}
use Rattle.step_send.proofs.send.send_check.Goals as goal

pub returns-then-off_rack : goal.returns-then-off_rack
unfolding check
returns-then-off_rack c = grind (arith, stops)

pub returns : goal.returns
unfolding check
returns c = grind (arith, boards_is)

pub token_state-state-requires : goal.token_state-state-requires
token_state-state-requires c = search in_cell

pub waiting_set-boards-requires : goal.waiting_set-boards-requires
waiting_set-boards-requires c = (c.requires, search block_on)
