-- `record_soundness::Candidate::sums_sound` meets its contract: the loop stops at the first block whose tokens or claims are not sound.
use lib.ListN.{get_or}
use Rattle.spec_rack.specs.RecordLayout.{block_offset}
use Rattle.record_soundness.specs.Decision.{tokens_total, sound_claims_at}
use Rattle.record_soundness.proofs.BlockSets.{FirstPass}
use Rattle.record_soundness.proofs.Candidate.sums_sound.Given as goal

abbrev pub invariant-loop-b : goal.invariant-loop-b
invariant-loop-b l =
    FirstPass (λ k. tokens_total l.self.tokens l.self.rec.now (block_offset k) (get_or l.sums k 0)) (λ k. sound_claims_at l.self.boards l.self.rec.now (block_offset k)) l.b l.barred
