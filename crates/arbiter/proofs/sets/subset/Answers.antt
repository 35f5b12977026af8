-- `arbiter::sets::subset` meets its contract: `a & b` is a exactly where each member of a is one of b.
use Rattle.arbiter.proofs.SetBits.{and_subset}
use borrow.Author.Rules.{rules}
use Rattle.arbiter.proofs.sets.subset.Goals as goal

pub returns : goal.returns
returns c = and_subset c.args.a c.args.b (search rules) (search rules)
