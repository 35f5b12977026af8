-- `step_deliver::deliver_message` meets its contract: the target is filled, and then the message goes.
use borrow.Author.Rules.{rules}
use Rattle.step_deliver.proofs.DeliveredMessage.{in_mesh_lem, can_fill, served_is, still_laid_out, still_there, message_goes}
use Rattle.step_deliver.proofs.deliver_message.Goals as goal

-- The reply and the bytes are found by search wherever the calls stand, and before what the calls ask for, so that calls in another order are refused at
-- what they get wrong.
pub returns-clause-reply : goal.returns-clause-reply
returns-clause-reply c = search served_is

pub returns-clause-buffer : goal.returns-clause-buffer
returns-clause-buffer c = search message_goes

pub header_at-header-requires : goal.header_at-header-requires
header_at-header-requires c = (search rules, search in_mesh_lem)

pub fill_target-requires : goal.fill_target-requires
fill_target-requires c = search can_fill

pub remove-requires : goal.remove-requires
remove-requires c = (search still_laid_out, search still_there)
