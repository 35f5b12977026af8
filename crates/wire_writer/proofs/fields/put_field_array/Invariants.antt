-- `wire_writer::fields::put_field_array` meets its contract: the numbers passed stand at the front.
use Rattle.std.proofs.Common.{◌≡◌, ◌++◌, take, drop}
use Rattle.wire_writer.proofs.fields.put_field_array.Given as goal

abbrev pub invariant-loop-place : goal.invariant-loop-place
invariant-loop-place l = l.out ≡ take l.place l.number-items ++ drop l.place l.initial.out
