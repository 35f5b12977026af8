-- `wire_writer::validate::fields_sum_to` meets its contract: the fields left, with the sum so far, make up the total where all of them do.
use mathlib.Core.Path.{◌≡◌}
use Prim.Native.Nat.{◌+◌, ◌*◌, ◌≤◌}
use mathlib.Core.List.{map}
use lib.ListN.{drop}
use Rattle.spec_wire.specs.Kinds.{field_of}
use Rattle.wire_writer.specs.FieldSum.{fields_sum_to}
use Rattle.wire_writer.proofs.validate.fields_sum_to.Given as goal

abbrev pub invariant-loop-tag : goal.invariant-loop-tag
invariant-loop-tag l =
    (l.sum ≤ (l.tag-index + 1) * 0x1_0000_0000)
    × (fields_sum_to (map field_of (drop l.tag-index l.tag-items)) l.sum l.total l.numbers ≡ fields_sum_to (map field_of l.tag-items) l.kind l.total l.numbers)
