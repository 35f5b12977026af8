-- `rackrun_text::report` meets its contract: the opening's line, and then those of the steps that are used, make the text, which is that of the rules.
use Rattle.std.proofs.Common.{arith, rules, ◌∙◌}
use Rattle.rackrun_text.proofs.RunText.{used_is, steps_inside, text_placed, left}
use Rattle.rackrun_text.proofs.report.Goals as goal

pub slice_bounds-steps-count : goal.slice_bounds-steps-count
slice_bounds-steps-count c = steps_inside _ _ _ _ c.open_from_input-opening.ensures.reply c.steps_offset.ensures

pub slice_bounds-steps-start : goal.slice_bounds-steps-start
slice_bounds-steps-start c = slice_bounds-steps-count c

pub returns-clause-text : goal.returns-clause-text
returns-clause-text c =
    let opening = c.open_from_input-opening.ensures in
    text_placed _ c.args.input.now _ _ _ _ opening.reply opening.buffer c.steps_offset.ensures (used_is c.args.input.now c.min.result (omega arith)) _ _ _ _ _ _
    (λ k. search rules) (search rules) (search rules) (omega (arith, c.put_steps.ensures.fits)) c.put_line-first.ensures.length c.put_line-first.ensures.text
    c.put_steps.ensures.length c.put_steps.ensures.text

pub returns-clause-buffer : goal.returns-clause-buffer
returns-clause-buffer c =
    let opening = c.open_from_input-opening.ensures in
    c.put_steps.ensures.buffer
    ∙ left _ c.args.input.now _ _ _ _ opening.reply opening.buffer c.steps_offset.ensures (used_is c.args.input.now c.min.result (omega arith))
