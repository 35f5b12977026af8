-- `rackrun_text::put_steps` meets its contract: a turn adds the line of the first record that is left.
use Rattle.rackrun_text.proofs.RunText.{going_more, going_end}
use Rattle.rackrun_text.proofs.put_steps.Goals as goal

pub loop-rest-preserved : goal.loop-rest-preserved
loop-rest-preserved c =
    going_more _ _ _ _ _ _ _ _ _ c.loop-rest.invariant (cc) _ c.frame_end.ensures _ _ _ _ _ _ c.split_at.ensures.front c.split_at.ensures.back
    c.step-reply.ensures.reply c.step-reply.ensures.buffer c.put_line-length.ensures.short c.put_line-length.ensures.length c.put_line-length.ensures.text

pub returns-clause-text : goal.returns-clause-text
returns-clause-text c = (going_end _ _ _ _ _ _ _ _ _ c.loop-rest.invariant (cc)).0.1

pub returns-clause-length : goal.returns-clause-length
returns-clause-length c = (going_end _ _ _ _ _ _ _ _ _ c.loop-rest.invariant (cc)).0.0

pub returns-clause-buffer : goal.returns-clause-buffer
returns-clause-buffer c = (going_end _ _ _ _ _ _ _ _ _ c.loop-rest.invariant (cc)).1
