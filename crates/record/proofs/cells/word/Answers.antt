-- `record::cells::word` meets its contract: a word is read where the layout has it.
use Rattle.record.proofs.FieldAccess.{word_is}
use Rattle.record.proofs.cells.word.Goals as goal

pub returns : goal.returns
returns c = rw (c.read_at.ensures, c.from.ensures)
    (word_is c.args.rec.now (λ k. (c.type_inv.rec k).fits) c.args.block c.args.component c.requires.0
    c.words_offset-at.result c.words_offset-at.ensures c.args.index c.requires.1)
