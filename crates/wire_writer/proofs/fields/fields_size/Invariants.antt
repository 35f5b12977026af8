-- `wire_writer::fields::fields_size` meets its contract: the sum, and the sizes of the fields left, make the sizes of all.
use mathlib.Core.Path.{◌≡◌}
use Prim.Native.Nat.{◌≤◌, ◌+◌, ◌*◌}
use mathlib.Core.List.{map}
use lib.ListN.{drop}
use Rattle.spec_wire.specs.Kinds.{field_of}
use Rattle.spec_wire.specs.StepRecord.{field_sizes}
use Rattle.wire_writer.proofs.fields.fields_size.Given as goal

abbrev pub invariant-loop-tag : goal.invariant-loop-tag
invariant-loop-tag l = (l.sum ≤ 7 * l.tag-index) × (l.sum + field_sizes (map field_of (drop l.tag-index l.tags)) ≡ field_sizes (map field_of l.tags))
