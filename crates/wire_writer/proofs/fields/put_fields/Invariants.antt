-- `wire_writer::fields::put_fields` meets its contract: a turn of the loop places a field, and those left follow it.
use Rattle.wire_writer.proofs.PlacedFields.{Placed}
use Rattle.wire_writer.proofs.fields.put_fields.Given as goal

abbrev pub invariant-loop-tag : goal.invariant-loop-tag
invariant-loop-tag l = Placed l.tags l.numbers l.initial.out l.out l.at l.tag-index
