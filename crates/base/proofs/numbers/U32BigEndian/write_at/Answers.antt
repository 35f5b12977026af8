-- `write_at` of `base::numbers::BigEndian` at u32 meets its contract: the number's bytes stand in the place of those that were lent.
use borrow.Author.Rules.{rules}
use Rattle.spec_base.proofs.WordBytes.{big_written}
use Rattle.base.proofs.numbers.U32BigEndian.write_at.Goals as goal

pub returns : goal.returns
returns c = big_written _ _ _ _ _ c.requires (search rules)
