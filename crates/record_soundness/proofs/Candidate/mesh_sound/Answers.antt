-- `record_soundness::Candidate::mesh_sound` meets its contract: after i turns the first i messages are sound and each sum has their weight of its block.
use Prim.Native.Nat.{ℕ, ◌+◌, ◌<◌}
use native.Mathlib.Omega.{arith}
use mathlib.Core.Path.{◌≡◌, sym, ap, ◌∙◌}
use mathlib.Core.List.{List}
use lib.ListN.{length, get_or, length-set, length-replicate}
use borrow.Author.Count.{below_more}
use Rattle.std.proofs.Common.{rules}
use Rattle.spec_base.proofs.Tests.{differs}
use Rattle.spec_base.proofs.Folds.{below_of, below_fails}
use Rattle.record_soundness.specs.Decision.{sum_in_flight}
use Rattle.record_soundness.proofs.SoundnessDecision.{sums_start, block_known, flying_most, sums_turn}
use Rattle.record_soundness.proofs.Candidate.mesh_sound.Goals as goal

pub loop-i-init : goal.loop-i-init
loop-i-init c = record {
  count = ap length c.requires ∙ length-replicate {A = ℕ} 32 0;
  sound = λ k l. absurd (omega arith);
  weights = λ k l. ap (λ (t : List ℕ). get_or t k 0) c.requires ∙ sums_start c.args.self.now.rec.now k l;
}

pub returns-then-not-sound_message_at : goal.returns-then-not-sound_message_at
returns-then-not-sound_message_at c = record {
  messages = sym (below_fails _ c.args.self.now.messages c.loop-i.i (omega arith) (sym c.sound_message_at.ensures ∙ c.if-not-sound_message_at.true));
  sums = λ e. differs (sym e);
}

pub bounds-sums-block : goal.bounds-sums-block
bounds-sums-block c = search (rules, block_known)

pub overflow_add-sums : goal.overflow_add-sums
overflow_add-sums c =
    let known : c.from-block.result < 32 = search (rules, block_known) in
    omega (arith, c.token_sum.ensures.1, c.loop-i.invariant.weights c.from-block.result known, flying_most c.args.self.now.rec.now (λ k. (c.type_inv.rec k).fits) c.loop-i.i c.from-block.result)

pub bounds-sums-block-in-loop-i : goal.bounds-sums-block-in-loop-i
bounds-sums-block-in-loop-i c = search (rules, block_known)

pub loop-i-preserved : goal.loop-i-preserved
loop-i-preserved c =
    let known : c.from-block.result < 32 = search (rules, block_known) in
    record {
      count = length-set c.loop-i.sums c.from-block.result (get_or c.loop-i.sums c.from-block.result 0 + c.token_sum.result) ∙ c.loop-i.invariant.count;
      sound = below_more _ c.loop-i.i c.loop-i.invariant.sound (sym c.sound_message_at.ensures ∙ c.if-not-sound_message_at.false);
      weights = sums_turn c.args.self.now.rec.now c.loop-i.sums c.loop-i.i c.from-block.result (get_or c.loop-i.sums c.from-block.result 0 + c.token_sum.result) c.loop-i.invariant.count known c.from-block.ensures
          (omega (arith, c.token_sum.ensures.0)) c.loop-i.invariant.weights;
    }

pub returns : goal.returns
returns c =
    let all : c.loop-i.i ≡ c.args.self.now.messages = omega arith in
    record {
      messages = sym (below_of _ c.args.self.now.messages (λ k l. c.loop-i.invariant.sound k (omega arith)));
      sums = λ e k l. c.loop-i.invariant.weights k l ∙ ap (λ (z : ℕ). sum_in_flight c.args.self.now.rec.now z k) all;
    }
