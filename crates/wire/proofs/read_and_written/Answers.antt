-- `wire::read_and_written` meets its contract: the theorem `written_read`, for all bytes.
use mathlib.Core.Path.{◌≡◌, sym}
use mathlib.Core.List.{List}
use Prim.Native.Nat.{ℕ}
use Rattle.spec_base.specs.Number.{Bytes}
use Rattle.spec_wire.specs.declared.Step.{Step}
use Rattle.std.specs.Prelude.{Ok}
use Rattle.spec_wire.specs.Answers.{Written}
use Rattle.spec_wire.specs.StepRecord.{step_bytes}
use Rattle.spec_wire.specs.Reader.{read_record}
use Rattle.spec_wire.specs.RoundTrip.{rewritten, replaced}
use Rattle.spec_wire.specs.Writer.{written, placed}
use Rattle.spec_wire.proofs.RoundTrip.{written_read}
use Rattle.wire.proofs.read_and_written.Goals as goal

-- what was read, written again
again : (bs out : List ℕ) (s : Step) {w : Written} {after : List ℕ} → Bytes bs → Ok s ≡ read_record bs
    → w ≡ written (step_bytes s) 0 out → after ≡ placed (step_bytes s) 0 out → (w ≡ rewritten bs out) × (after ≡ replaced bs out)
again bs out s b e p q =
    let same : step_bytes s ≡ bs = written_read bs s b (sym e) in
    rw (← e) (rw same at p, rw same at q)

pub returns : goal.returns
returns c =
    let both = again c.args.bytes.now c.args.out.now _ (λ k. (c.type_inv.bytes k).fits) c.in_ok-step.ensures c.write.ensures.answer c.write.ensures.buffer in
    record { answer = both.0; buffer = both.1 }
