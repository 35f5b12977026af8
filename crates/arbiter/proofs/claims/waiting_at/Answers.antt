-- `arbiter::claims::waiting_at` meets its contract: the waiting set is the first.
use Rattle.arbiter.proofs.SetBytes.{waiting_is}
use mathlib.Core.Path.{◌∙◌}
use Rattle.arbiter.proofs.claims.waiting_at.Goals as goal

pub returns : goal.returns
returns c = λ n. c.read_at.ensures ∙ waiting_is n c.args.at c.args.rec.now
