-- `arbiter::sets::member` meets its contract: the test is the definition.
use Rattle.spec_arbiter.specs.Boards.{member, bit}
use borrow.Author.Rules.{rules}
use Rattle.arbiter.proofs.sets.member.Goals as goal

pub returns : goal.returns
unfolding member bit
returns c = search rules
