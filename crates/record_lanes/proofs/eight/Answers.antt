-- `record_lanes::eight` meets its contract: eight bytes by their weights.
use Rattle.std.proofs.Common.{rules}
use Rattle.record_lanes.proofs.LanePasses.{low_eight}
use Rattle.record_lanes.proofs.eight.Goals as goal

pub returns : goal.returns
returns c = low_eight c.args.s.now c.args.at c.from_le_bytes.result c.unwrap.result (search rules) c.from_le_bytes.ensures
