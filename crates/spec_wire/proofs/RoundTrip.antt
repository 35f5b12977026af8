-- The theorems on step records: reading what was written gives the step, and writing what was read gives the bytes.
use mathlib.Core.Path.{◌≡◌, refl, sym, ap, ◌∙◌, subst}
use Prim.Native.Nat.{ℕ, ◌+◌, ◌*◌, ◌-◌, ◌/◌, ◌%◌, ◌≤◌, ◌<◌}
use native.Mathlib.Omega.{arith}
use mathlib.Core.Bool.{Bool, true, false, cond}
use mathlib.Core.List.{List, [], ◌∷◌}
use lib.ListN.{length, get_or, take, drop}
use lib.Dec.{eqb, leb}
use borrow.Author.Tests.{le-leb, eq-eqb, leb-true, eqb-true}
use Rattle.spec_base.proofs.Tests.{and_l, and_r}
use Rattle.spec_base.specs.Number.{Bytes, number}
use Rattle.spec_base.proofs.Parts.{bytes_drop}
use Rattle.spec_wire.specs.declared.Refusal.{Refusal}
use Rattle.spec_wire.specs.declared.Refusal.TheVariants.{Torn}
use Rattle.spec_wire.specs.declared.Step.{Step}
use Rattle.std.specs.Prelude.{Ok, Err}
use Rattle.spec_wire.specs.Kinds.{load_kind, forward_kind, kind_of, field_array, kind_in, step_in_bounds}
use Rattle.spec_wire.specs.StepRecord.{record_bytes, step_bytes}
use Rattle.spec_wire.specs.Reader.{body_parses, parsed_array, read_body, framed, read_record, ReadFits, OnlyKinds}
use Rattle.spec_wire.specs.RoundTrip.{RoundTrips}
use Rattle.spec_wire.proofs.KindTable.{fields_sound, of_fit, kind_known}
use Rattle.spec_wire.proofs.RecordSizes.{body, body_length, record_length_lem}
use Rattle.spec_wire.proofs.FieldTrips.{body_read, body_written}
use Rattle.spec_wire.proofs.BodyTrips.{found, step_found, step_body, gathered_fits}

pub refused_read : {r : Refusal} {s : Step} → Err r ≡ Ok s → ⊥
refused_read e = let z : ◌≡◌ {A = ℕ} 0 1 = cc in omega arith

-- ---- written and read

frame_read : (k : ℕ) (bs : List ℕ) → length bs < 65536 → read_record (record_bytes k bs) ≡ read_body k bs
unfolding read_record record_bytes
frame_read k bs h =
    let whole : List ℕ = record_bytes k bs in
    rw (le-leb 3 (length whole) (omega arith), eq-eqb (number (take 2 (drop 1 whole))) (length whole - 3) (omega arith))

-- Reading the record of a step gives the step.
pub read_written : (s : Step) → step_in_bounds s ≡ true → read_record (step_bytes s) ≡ Ok s
unfolding step_bytes
read_written s h =
    let k : ℕ = kind_in (field_array s) in
    let r = body_read (kind_of k).fields (field_array s) (fields_sound k) (of_fit _ _ h) in
    frame_read k (body s) (omega (arith, body_length s))
    ∙ sym (step_body k (body s) r.0)
    ∙ ap Ok (step_found s (body s) r.1)

-- ---- read and written

-- what accepted bytes show
record Accepted (bs : List ℕ) (s : Step) : Type 0 where
  frame : framed bs ≡ true
  filled : body_parses (kind_of (get_or bs 0 0)).fields (drop 3 bs) ≡ true
  step : (kind_of (get_or bs 0 0)).step (parsed_array (get_or bs 0 0) (kind_of (get_or bs 0 0)).fields (drop 3 bs)) ≡ s

accepted : (bs : List ℕ) (s : Step) → read_record bs ≡ Ok s → Accepted bs s
unfolding read_record read_body
accepted bs s e = by_frame (framed bs) refl e
  where
    k : ℕ
    k = get_or bs 0 0

    by_fill : framed bs ≡ true → (t : Bool) → body_parses (kind_of k).fields (drop 3 bs) ≡ t
        → cond t (Ok ((kind_of k).step (parsed_array k (kind_of k).fields (drop 3 bs)))) (Err Torn) ≡ Ok s → Accepted bs s
    by_fill f true q r = record { frame = f; filled = q; step = cc }
    by_fill f false q r = absurd (refused_read r)

    by_frame : (t : Bool) → framed bs ≡ t → cond t (read_body k (drop 3 bs)) (Err Torn) ≡ Ok s → Accepted bs s
    by_frame true q r = by_fill q (body_parses (kind_of k).fields (drop 3 bs)) refl r
    by_frame false q r = absurd (refused_read r)

frame_facts : (bs : List ℕ) → framed bs ≡ true → (3 ≤ length bs) × (number (take 2 (drop 1 bs)) ≡ length bs - 3)
frame_facts bs q =
    let long : Bool = leb 3 (length bs) in
    let counted : Bool = eqb (number (take 2 (drop 1 bs))) (length bs - 3) in
    (leb-true _ _ (and_l long counted q), eqb-true _ _ (and_r long counted q))

frame_written : (bs : List ℕ) → Bytes bs → framed bs ≡ true → record_bytes (get_or bs 0 0) (drop 3 bs) ≡ bs
unfolding record_bytes
frame_written [] h q = absurd (omega (arith, (frame_facts [] q).0))
frame_written (a ∷ []) h q = absurd (omega (arith, (frame_facts (a ∷ []) q).0))
frame_written (a ∷ b ∷ []) h q = absurd (omega (arith, (frame_facts (a ∷ b ∷ []) q).0))
frame_written (a ∷ b ∷ c ∷ r) h q =
    let counted : (b * 256) + c ≡ length r = omega (arith, (frame_facts (a ∷ b ∷ c ∷ r) q).1) in
    let high : length r / 256 % 256 ≡ b = omega (arith, counted, h 1, h 2) in
    let low : length r % 256 ≡ c = omega (arith, counted, h 1, h 2) in
    rw (high, low)

-- the numbers of the step that was read
read_places : (bs : List ℕ) (s : Step) (a : Accepted bs s) → field_array s ≡ parsed_array (get_or bs 0 0) (kind_of (get_or bs 0 0)).fields (drop 3 bs)
read_places bs s a = rw (← a.step) (found (drop 3 bs) (get_or bs 0 0) a.filled).back

-- Accepted bytes are the record of the step that was read.
pub written_read : (bs : List ℕ) (s : Step) → Bytes bs → read_record bs ≡ Ok s → step_bytes s ≡ bs
unfolding step_bytes
written_read bs s h e =
    let a = accepted bs s e in
    let k : ℕ = get_or bs 0 0 in
    let f = found (drop 3 bs) k a.filled in
    rw (read_places bs s a, f.kind, body_written (kind_of k).fields (parsed_array k (kind_of k).fields (drop 3 bs)) (drop 3 bs) (bytes_drop 3 bs h) a.filled f.holds)
    (frame_written bs h a.frame)

-- Different bytes are never read as the same step.
pub read_injective : (xs ys : List ℕ) (s : Step) → Bytes xs → Bytes ys → read_record xs ≡ Ok s → read_record ys ≡ Ok s → xs ≡ ys
read_injective xs ys s h k e f = sym (written_read xs s h e) ∙ written_read ys s k f

-- Two steps never have the same record.
written_injective : (s t : Step) → step_in_bounds s ≡ true → step_in_bounds t ≡ true → step_bytes s ≡ step_bytes t → s ≡ t
written_injective s t h k e = let same : Ok s ≡ Ok t = sym (read_written s h) ∙ ap read_record e ∙ read_written t k in cc

pub round_trips : RoundTrips
round_trips =
    record {
      written_and_read = read_written;
      read_and_written = written_read;
      one_step = written_injective;
      one_record = read_injective;
      longest = record_length_lem;
    }

-- The numbers of a step that was read fit their fields.
pub read_fits : ReadFits
read_fits bs s e =
    let a = accepted bs s e in
    let k : ℕ = get_or bs 0 0 in
    rw (read_places bs s a, (found (drop 3 bs) k a.filled).kind) (gathered_fits k (drop 3 bs) a.filled)

-- The kind byte is that of the step that was read.
pub only_kinds : OnlyKinds
only_kinds bs s e =
    let a = accepted bs s e in
    let same : kind_in (field_array s) ≡ get_or bs 0 0 = ap kind_in (read_places bs s a) ∙ (found (drop 3 bs) (get_or bs 0 0) a.filled).kind in
    subst (λ (k : ℕ). (load_kind ≤ k) × (k ≤ forward_kind)) same (kind_known s)
