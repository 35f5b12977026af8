-- `arbiter::change::raise_at` meets its contract: the waiting set read, the board added, the set written back.
use Rattle.arbiter.proofs.ClaimsChange.{raise_is}
use borrow.Author.Rules.{rules}
use Rattle.arbiter.proofs.change.raise_at.Goals as goal

pub returns : goal.returns
returns c = λ n f o. raise_is n c.args.at f c.args.rec.now (λ k. search rules) c.requires.0 o c.args.board
    _ _ _ c.read_at-w.ensures c.insert-more.ensures (search rules) c.write_at.ensures
