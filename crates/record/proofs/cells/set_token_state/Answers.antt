-- `record::cells::set_token_state` meets its contract: one byte in each of four lanes; every other component keeps its bytes.
use mathlib.Core.Path.{◌∙◌}
use borrow.Author.Rules.{rules}
use Rattle.record.proofs.FieldAccess.{set_marks_is}
use Rattle.record.proofs.cells.set_token_state.Goals as goal

pub returns : goal.returns
returns c = c.put_tokens.ensures
    ∙ set_marks_is c.args.rec.now (λ k. search rules) c.args.block c.args.component c.requires
    c.plain_offset-at.result c.plain_offset-at.ensures c.args.state
