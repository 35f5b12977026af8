-- `record_soundness::Candidate::barred_sound` meets its contract: the loop takes the blocks out of the set one by one; those that are left have been found sound.
use Prim.Native.Nat.{ℕ}
use native.Mathlib.Omega.{arith}
use mathlib.Core.Path.{sym, ◌∙◌, subst}
use mathlib.Core.Bool.{Bool}
use Rattle.spec_rack.specs.RecordLayout.{block_offset}
use Rattle.record_soundness.specs.Decision.{sound_claims_at}
use Rattle.record_soundness.proofs.BlockSets.{SecondPass, second_start, second_turn, second_end, second_fails, remove_less}
use Rattle.record_soundness.proofs.Candidate.barred_sound.Goals as goal

pub loop-left-init : goal.loop-left-init
loop-left-init c = second_start c.args.barred (λ b. sound_claims_at c.args.self.now.boards c.args.self.now.rec.now (block_offset b))

pub sound_at-requires : goal.sound_at-requires
sound_at-requires c = (omega (arith, c.requires c.choose-b.result (c.loop-left.invariant.inside c.choose-b.result c.choose-b.ensures.1)), omega arith)

pub returns-then-not-sound_at : goal.returns-then-not-sound_at
returns-then-not-sound_at c = sym (second_fails c.args.barred (λ b. sound_claims_at c.args.self.now.boards c.args.self.now.rec.now (block_offset b)) c.loop-left.left c.choose-b.result c.choose-b.ensures.0 c.choose-b.ensures.1 (sym c.sound_at.ensures ∙ c.if-not-sound_at.true) c.loop-left.invariant)

pub loop-left-smaller : goal.loop-left-smaller
loop-left-smaller c = omega (arith, c.remove-left.ensures, remove_less c.loop-left.left c.choose-b.result c.choose-b.ensures.1)

pub loop-left-preserved : goal.loop-left-preserved
loop-left-preserved c = let sound : ℕ → Bool = λ b. sound_claims_at c.args.self.now.boards c.args.self.now.rec.now (block_offset b) in
    subst (SecondPass c.args.barred sound) (sym c.remove-left.ensures)
    (second_turn c.args.barred sound c.loop-left.left c.choose-b.result c.choose-b.ensures.1 (sym c.sound_at.ensures ∙ c.if-not-sound_at.false) c.loop-left.invariant)

pub returns : goal.returns
returns c = sym (second_end c.args.barred (λ b. sound_claims_at c.args.self.now.boards c.args.self.now.rec.now (block_offset b)) c.loop-left.left (omega arith) c.loop-left.invariant)
