-- `wire_writer::write` meets its contract: the numbers of the step make its record.
use native.Mathlib.Omega.{arith}
use Rattle.spec_wire.specs.StepRecord.{step_bytes}
use Rattle.spec_wire.proofs.KindTable.{kind_small}
use Rattle.wire_writer.proofs.write.Goals as goal

-- What is written stands before what the call needs: another number for the kind byte is refused here.
pub returns : goal.returns
unfolding step_bytes
returns c =
    rw c.field_array-numbers.ensures at c.put_numbers_at.ensures

pub overflow_cast-numbers : goal.overflow_cast-numbers
overflow_cast-numbers c = rw c.field_array-numbers.ensures (omega (arith, kind_small c.args.step))
