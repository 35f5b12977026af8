-- `record_soundness::block_set::insert_if` meets its contract: a bit of 0 changes nothing, a bit of 1 is the member.
use Rattle.record_soundness.proofs.BlockSets.{or_insert_if}
use Rattle.record_soundness.proofs.block_set.insert_if.Goals as goal

pub returns : goal.returns
returns c = or_insert_if c.args.blocks c.args.b c.args.test c.requires
