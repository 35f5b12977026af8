-- `record::cells::words_of` meets its contract: the eight words are read where the layout has them.
use mathlib.Core.Path.{◌∙◌}
use Rattle.record.proofs.FieldAccess.{words_is}
use Rattle.record.proofs.cells.words_of.Goals as goal

pub returns : goal.returns
returns c = c.words_at.ensures
    ∙ words_is c.args.rec.now (λ k. (c.type_inv.rec k).fits) c.args.block c.args.component c.requires
    c.words_offset-at.result c.words_offset-at.ensures
