-- `record_soundness::Candidate::barred_sound` meets its contract: the loop takes the blocks out of the set one by one; those that are left have been found sound.
use Rattle.spec_rack.specs.RecordLayout.{block_offset}
use Rattle.record_soundness.specs.Decision.{sound_claims_at}
use Rattle.record_soundness.proofs.BlockSets.{SecondPass}
use Rattle.record_soundness.proofs.Candidate.barred_sound.Given as goal

abbrev pub invariant-loop-left : goal.invariant-loop-left
invariant-loop-left l = SecondPass l.barred (λ b. sound_claims_at l.self.boards l.self.rec.now (block_offset b)) l.left

abbrev pub decreases-loop-left : goal.decreases-loop-left
decreases-loop-left l = l.left
