-- `arbiter::sets::insert` meets its contract: an `or` with the bit is the insertion.
use Rattle.arbiter.proofs.SetBits.{shl_insert}
use Rattle.arbiter.proofs.sets.insert.Goals as goal

pub returns : goal.returns
returns c = shl_insert c.args.s c.args.i c.requires
