-- `wire::written_and_read` meets its contract: the theorem `read_written`, for every step that a program can hold.
use mathlib.Core.Path.{◌≡◌, refl, sym, ap, ◌∙◌}
use Prim.Native.Nat.{ℕ, ◌+◌, ◌≤◌}
use native.Mathlib.Omega.{arith}
use native.Mathlib.Decide.{dec_le}
use mathlib.Core.List.{List}
use lib.ListN.{length, take, drop}
use lib.Seq.{length-take-le, take_at}
use Rattle.spec_wire.specs.declared.Refusal.{Refusal}
use Rattle.spec_wire.specs.declared.Step.{Step}
use Rattle.std.specs.Prelude.{Ok, Err}
use Rattle.spec_wire.specs.StepRecord.{step_bytes}
use Rattle.spec_wire.specs.Reader.{read_record}
use Rattle.spec_base.specs.Placing.{place}
use Rattle.spec_wire.specs.Writer.{written, placed}
use Rattle.spec_base.proofs.Placing.{length_place}
use Rattle.wire_writer.proofs.PlacedRecord.{written_room, written_short, placed_room, refused_count, written_count}
use Rattle.spec_wire.proofs.MachineSteps.{step_fits}
use Rattle.spec_wire.proofs.RecordSizes.{record_length_lem}
use Rattle.spec_wire.proofs.RoundTrip.{read_written}
use Rattle.wire.proofs.written_and_read.Goals as goal

module _ (s : Step) (out : List ℕ) where
  -- a buffer of 27 places has room for every record
  never_short : length out ≡ 27 → {r : Refusal} → Err r ≡ written (step_bytes s) 0 out → ⊥
  never_short room e = refused_count (e ∙ sym (written_room (step_bytes s) 0 out (omega (arith, record_length_lem s))))

  module _ (n : ℕ) (after : List ℕ) (counted : Ok n ≡ written (step_bytes s) 0 out) (said : after ≡ placed (step_bytes s) 0 out) where
    count : n ≡ length (step_bytes s)
    count = written_count (step_bytes s) 0 out n counted

    -- whatever the buffer: what was counted had room
    fits : 0 + length (step_bytes s) ≤ length out
    fits = by_room (dec_le (0 + length (step_bytes s)) (length out))
      where
        by_room : Dec (0 + length (step_bytes s) ≤ length out) → 0 + length (step_bytes s) ≤ length out
        by_room (yes h) = h
        by_room (no h) = absurd (refused_count (written_short (step_bytes s) 0 out (omega (arith, h)) ∙ sym counted))

    there : after ≡ place 0 (step_bytes s) out
    there = said ∙ sym (placed_room (step_bytes s) 0 out fits)

    within : n ≤ length after
    within = omega (arith, fits, count, ap length there, length_place 0 (step_bytes s) out fits)

    taken : take n after ≡ step_bytes s
    unfolding place
    taken = rw there (take_at (step_bytes s) (drop (0 + length (step_bytes s)) out) n (sym count))

pub slice_bounds-out-end : goal.slice_bounds-out-end
slice_bounds-out-end c =
    within c.args.step _ _ _ c.in_ok-count.ensures.answer c.in_ok-count.ensures.buffer

pub slice_bounds-read-end : goal.slice_bounds-read-end
slice_bounds-read-end c =
    sym (length-take-le _ _ (within c.args.step _ _ _ c.in_ok-count.ensures.answer c.in_ok-count.ensures.buffer))

pub returns : goal.returns
returns c =
    let back = taken c.args.step _ _ _ c.in_ok-count.ensures.answer c.in_ok-count.ensures.buffer in
    c.read.ensures ∙ ap read_record back ∙ read_written c.args.step (step_fits c.args.step _ c.well_formed.0)

pub returns-in_err-count : goal.returns-in_err-count
returns-in_err-count c =
    absurd (never_short c.args.step _ refl c.in_err-count.ensures.answer)
