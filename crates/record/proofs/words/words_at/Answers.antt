-- `record::words::words_at` meets its contract: each of the eight words is read at its place.
use Rattle.record.proofs.FieldAccess.{words_read}
use borrow.Author.Rules.{rules}
use Rattle.record.proofs.words.words_at.Goals as goal

pub returns : goal.returns
returns c = words_read c.args.s.now c.args.at c.from_fn.result c.from_fn.ensures.items.long (λ k h. search rules)
