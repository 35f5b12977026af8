-- `step_deliver::fill_target` meets its contract: the words with data, and then the tokens.
use borrow.Author.Rules.{rules}
use Rattle.step_deliver.proofs.DeliveredMessage.{AfterWords, after_copy, without_copy, few, current, lone, tokens_filled}
use Rattle.step_deliver.proofs.fill_target.Goals as goal
use Rattle.step_deliver.proofs.fill_target.Goals.{then-header, else-header}

-- With data the words are copied, without they stay. The two ways are found by search, so that a copy in another case is refused there.
pub token_state-state-requires : goal.token_state-state-requires
token_state-state-requires c =
    let words : AfterWords c.args.rec.now c.args.position c.args.header c.if-header.rec =
    elim c.if-header.branch [ then-header w ↦ search after_copy | else-header w ↦ search without_copy ] in words.in_cell

pub with_tokens-filled-requires : goal.with_tokens-filled-requires
with_tokens-filled-requires c =
    let words : AfterWords c.args.rec.now c.args.position c.args.header c.if-header.rec =
    elim c.if-header.branch [ then-header w ↦ search after_copy | else-header w ↦ search without_copy ] in (
      few c.requires words c.token_state-state.ensures,
      current c.requires words c.token_state-state.ensures,
      lone c.requires words c.token_state-state.ensures,
    )

pub set_token_state-requires : goal.set_token_state-requires
set_token_state-requires c =
    let words : AfterWords c.args.rec.now c.args.position c.args.header c.if-header.rec =
    elim c.if-header.branch [ then-header w ↦ search after_copy | else-header w ↦ search without_copy ] in words.in_cell

pub returns : goal.returns
returns c =
    let words : AfterWords c.args.rec.now c.args.position c.args.header c.if-header.rec =
    elim c.if-header.branch [ then-header w ↦ search after_copy | else-header w ↦ search without_copy ] in
    tokens_filled c.requires (search rules) words c.token_state-state.ensures c.with_tokens-filled.ensures _ c.set_token_state.ensures
