-- `step_send::forward::forward_check` meets its contract: on the rack its lines are the table's.
use native.Mathlib.Omega.{arith}
use Rattle.spec_wire.proofs.RefusalTable.{stops, goes}
use Rattle.spec_rack.specs.Rules.{check}
use Rattle.step_checks.proofs.RackBounds.{block_on, in_cell}
use Rattle.step_send.proofs.forward.forward_check.Goals as goal

pub returns-then-off_rack : goal.returns-then-off_rack
unfolding check
returns-then-off_rack c = grind (arith, stops)

pub returns : goal.returns
unfolding check
returns c = grind (arith, goes)

pub waiting_set-boards-requires : goal.waiting_set-boards-requires
waiting_set-boards-requires c = (c.requires, search block_on)

pub token_state-requires : goal.token_state-requires
token_state-requires c = search in_cell
