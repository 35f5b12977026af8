-- `wire_writer::fields::put_fields` meets its contract: a turn of the loop places a field, and those left follow it.
use mathlib.Core.Path.{◌≡◌, sym, ◌∙◌}
use mathlib.Core.List.{[]}
use lib.ListN.{drop, drop_of_length-le}
use Rattle.spec_base.proofs.Placing.{place_none}
use Rattle.wire_writer.proofs.PlacedFields.{turn}
use Rattle.wire_writer.proofs.fields.put_fields.Goals as goal

pub loop-tag-preserved : goal.loop-tag-preserved
loop-tag-preserved c =
    turn _ _ _ _ _ _ c.loop-tag.invariant c.loop-tag-test.true _ _ _ _ c.field_of-field.ensures c.number_of-value.ensures.0 c.put_field-at.ensures.0 c.put_field-at.ensures.1

pub returns : goal.returns
returns c =
    let none_left : drop c.loop-tag.tag-index c.args.tags.now ≡ [] = drop_of_length-le c.args.tags.now c.loop-tag-test.false in
    sym (place_none c.loop-tag.at c.loop-tag.out) ∙ (rw none_left at c.loop-tag.invariant.whole)
