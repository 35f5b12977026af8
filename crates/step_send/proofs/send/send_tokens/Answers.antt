-- `step_send::send::send_tokens` meets its contract: the message is appended, then the tokens are taken from the cell.
use Rattle.step_send.proofs.SentTokens.{still_in_cell, tokens_gone}
use Rattle.step_send.proofs.send.send_tokens.Goals as goal

-- The bytes are found by search wherever the calls stand, and before what the calls ask for, so that a call too few is refused at the bytes.
pub returns : goal.returns
returns c = search tokens_gone

pub set_token_state-requires : goal.set_token_state-requires
set_token_state-requires c = search still_in_cell
