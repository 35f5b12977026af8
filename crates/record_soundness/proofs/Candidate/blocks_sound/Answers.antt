-- `record_soundness::Candidate::blocks_sound` meets its contract: the passes over the blocks together say that each block is sound.
use Rattle.std.proofs.Common.{arith}
use borrow.Author.Tests.{tests}
use lib.ListN.{get_or}
use Rattle.record_soundness.proofs.BlockPasses.{passes}
use Rattle.record_soundness.proofs.Candidate.blocks_sound.Goals as goal

pub returns-then-all_lanes_sound : goal.returns-then-all_lanes_sound
returns-then-all_lanes_sound c = let whole = passes c.args.self.now.boards c.args.self.now.tokens c.args.self.now.rec.now c.args.self.now.blocks (λ k. get_or c.args.sums.now k 0) in grind (arith, tests, whole)

pub returns-else-all_lanes_sound : goal.returns-else-all_lanes_sound
returns-else-all_lanes_sound c = let whole = passes c.args.self.now.boards c.args.self.now.tokens c.args.self.now.rec.now c.args.self.now.blocks (λ k. get_or c.args.sums.now k 0) in grind (arith, tests, whole)
