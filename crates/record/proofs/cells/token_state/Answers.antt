-- `record::cells::token_state` meets its contract: one byte of each of four lanes.
use Rattle.record.proofs.FieldAccess.{marks_is}
use Rattle.record.proofs.cells.token_state.Goals as goal

pub returns : goal.returns
returns c = rw c.owner_of.ensures (marks_is c.args.rec.now (λ k. (c.type_inv.rec k).fits) c.args.block c.args.component
    c.requires c.plain_offset-at.result c.plain_offset-at.ensures)
