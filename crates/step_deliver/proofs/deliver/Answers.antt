-- `step_deliver::deliver` meets its contract: its test is the table's.
use native.Mathlib.Omega.{arith}
use Rattle.spec_wire.proofs.RefusalTable.{stops, goes}
use Rattle.spec_rack.specs.Rules.{check, rules}
use Rattle.spec_rack.proofs.GetPut.{mesh_is}
use Rattle.step_deliver.proofs.deliver.Goals as goal

pub returns-then-rec-position-clause-reply : goal.returns-then-rec-position-clause-reply
unfolding rules check
returns-then-rec-position-clause-reply c = grind (arith, mesh_is, stops)

pub returns-then-rec-position-clause-buffer : goal.returns-then-rec-position-clause-buffer
unfolding rules check
returns-then-rec-position-clause-buffer c = grind (arith, mesh_is, stops)

pub deliver_message-requires : goal.deliver_message-requires
unfolding check
deliver_message-requires c = grind (arith, mesh_is, goes)
