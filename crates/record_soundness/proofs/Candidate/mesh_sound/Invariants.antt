-- `record_soundness::Candidate::mesh_sound` meets its contract: after i turns the first i messages are sound and each sum has their weight of its block.
use Prim.Native.Nat.{ℕ, ◌<◌}
use mathlib.Core.Path.{◌≡◌}
use mathlib.Core.Bool.{true}
use lib.ListN.{length, get_or}
use Rattle.spec_rack.specs.RecordLayout.{message_offset}
use Rattle.record_message.specs.Messages.{sound_message_at}
use Rattle.record_soundness.specs.Decision.{sum_in_flight}
use Rattle.record_soundness.proofs.Candidate.mesh_sound.Given as goal

abbrev pub invariant-loop-i : goal.invariant-loop-i
invariant-loop-i l = record {
  count : length l.sums ≡ 32;
  sound : (k : ℕ) → k < l.i → sound_message_at l.self.boards l.self.blocks l.self.rec.now (message_offset k) ≡ true;
  weights : (k : ℕ) → k < 32 → get_or l.sums k 0 ≡ sum_in_flight l.self.rec.now l.i k;
}
