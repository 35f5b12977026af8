-- `engine::run::run` meets its contract. The invariant: what is left of the list, given to what there is by now, makes what the whole makes; and soundness is as it was.
use mathlib.Core.Path.{refl, sym, ap, ◌∙◌}
use native.Mathlib.Omega.{arith}
use borrow.Author.Rules.{rules}
use Rattle.std.proofs.lemmas.List.{set-get_or}
use Rattle.spec_rack.specs.Soundness.{sound_bytes}
use Rattle.spec_rack.proofs.ByteLists.{sound_kept}
use Rattle.engine.proofs.RunLaws.{going_start, going_more, going_full, going_read}
use Rattle.engine.proofs.run.run.Goals as goal

pub loop-reply-init : goal.loop-reply-init
loop-reply-init c = record { going = going_start c.args.rec.now c.args.list.now c.args.at.now c.args.replies.now; counted = refl; sound = c.sound-sound.ensures; bytes = λ k. search rules }

pub step_result-requires : goal.step_result-requires
step_result-requires c = c.loop-reply.invariant.sound

pub loop-reply-preserved : goal.loop-reply-preserved
loop-reply-preserved c =
    let invariant = c.loop-reply.invariant in
    record {
      going =
          rw (sym invariant.counted)
          (going_more c.args.rec.now c.args.list.now c.args.at.now c.args.replies.now _ _ _ _ invariant.going (omega (arith, invariant.counted)) c.if-list-place.false
          _ c.frame_end_within-end.ensures.0 _ _ c.step_result.ensures.reply c.step_result.ensures.buffer);
      counted = omega (arith, invariant.counted);
      sound = invariant.sound ∙ sym (ap sound_bytes c.step_result.ensures.buffer ∙ sound_kept c.loop-reply.rec invariant.bytes _);
      bytes = λ k. search rules;
    }

pub returns-after-loop-reply : goal.returns-after-loop-reply
returns-after-loop-reply c = going_full c.args.rec.now c.args.list.now c.args.at.now c.args.replies.now _ _ _ _ c.loop-reply.invariant.going (omega (arith, c.loop-reply.invariant.counted))

pub returns-then-list-place : goal.returns-then-list-place
returns-then-list-place c =
    rw (set-get_or c.loop-reply.replies c.loop-reply.reply-index 0)
    (going_read c.args.rec.now c.args.list.now c.args.at.now c.args.replies.now _ _ _ _ c.loop-reply.invariant.going c.if-list-place.true)
