-- `record::cells::set_word` meets its contract: a word has four bytes of its own, and the mark its byte.
use Rattle.record.proofs.FieldAccess.{set_word_is}
use borrow.Author.Rules.{rules}
use Rattle.record.proofs.cells.set_word.Goals as goal

-- The bytes stand before what the write asks for, so that a word at another place is refused there first.
pub returns : goal.returns
returns c = rw (c.write_at.ensures, c.from.ensures)
    (set_word_is c.args.rec.now (λ k. search rules) c.args.block c.args.component c.requires.0
    c.words_offset-at.result c.words_offset-at.ensures c.args.index c.requires.1 c.plain_offset-plain.result c.plain_offset-plain.ensures c.requires.2 c.args.value)
