-- `wire_writer::write_numbers` meets its contract: the numbers that tell a step are those of its record, and others are refused.
use mathlib.Core.Path.{◌≡◌, refl, sym}
use Prim.Native.Nat.{ℕ, ◌<◌}
use native.Mathlib.Omega.{arith}
use mathlib.Core.Bool.{Bool, true, false, cond}
use mathlib.Core.List.{List}
use lib.ListN.{take}
use Rattle.spec_wire.specs.declared.Refusal.TheVariants.{Torn}
use Rattle.std.specs.Prelude.{Ok, Err}
use Rattle.spec_wire.specs.Answers.{Written}
use Rattle.spec_wire.specs.Kinds.{kind_in, kind_of}
use Rattle.spec_wire.specs.StepRecord.{body_bytes, record_bytes}
use Rattle.spec_wire.specs.Writer.{written, placed, written_of, placed_of}
use Rattle.spec_wire.specs.FieldArray.{step_of_array}
use Rattle.spec_wire.proofs.FieldArrays.{told_kind, told_bytes}
use Rattle.wire_writer.proofs.write_numbers.Goals as goal

-- the two answers
module _ (ns : List ℕ) (r : Bool) (decided : cond r (Ok ((kind_of (kind_in ns)).step (take 12 ns))) (Err Torn) ≡ step_of_array ns) (at : ℕ) (out : List ℕ) where
  torn : r ≡ false → (Err Torn ≡ written_of (step_of_array ns) at out) × (out ≡ placed_of (step_of_array ns) at out)
  unfolding written_of placed_of
  torn h = rw (← (rw h at decided)) (refl, refl)

  module _ (h : r ≡ true) where
    tells : step_of_array ns ≡ Ok ((kind_of (kind_in ns)).step (take 12 ns))
    tells = sym (rw h at decided)

    small : {k : ℕ} → k ≡ kind_in ns → k < 256
    small e = rw e (told_kind ns _ tells)

    wrote : {k : ℕ} {w : Written} {after : List ℕ} → k ≡ kind_in ns
        → (w ≡ written (record_bytes k (body_bytes (kind_of k).fields ns)) at out) × (after ≡ placed (record_bytes k (body_bytes (kind_of k).fields ns)) at out)
        → (w ≡ written_of (step_of_array ns) at out) × (after ≡ placed_of (step_of_array ns) at out)
    unfolding written_of placed_of
    wrote e p = rw (tells, ← (told_bytes ns _ tells), ← e) p

pub returns-then-not-is_step : goal.returns-then-not-is_step
returns-then-not-is_step c =
    let both = torn c.args.numbers.now c.is_step.result c.is_step.ensures c.args.at c.args.out.now c.if-not-is_step.true in
    record { answer = both.0; buffer = both.1 }

pub overflow_cast-number_of : goal.overflow_cast-number_of
overflow_cast-number_of c =
    omega (arith, small c.args.numbers.now c.is_step.result c.is_step.ensures c.args.at c.args.out.now c.if-not-is_step.false c.number_of.ensures.0)

pub returns : goal.returns
returns c =
    let both = wrote c.args.numbers.now c.is_step.result c.is_step.ensures c.args.at c.args.out.now (assumption) c.number_of.ensures.0 (c.put_numbers_at.ensures.answer, c.put_numbers_at.ensures.buffer) in
    record { answer = both.0; buffer = both.1 }
