-- Laws of reading a body, by the kinds: what the numbers that were gathered tell, and the two answers.
use mathlib.Core.Path.{◌≡◌, refl}
use Prim.Native.Nat.{ℕ}
use native.Mathlib.Omega.{arith}
use mathlib.Core.Bool.{true, false}
use mathlib.Core.List.{List, [], ◌∷◌}
use Rattle.spec_base.proofs.Tests.{one_eqb, eqb_one}
use Rattle.spec_wire.specs.declared.Refusal.TheVariants.{Torn}
use Rattle.spec_wire.specs.declared.Step.{Step}
use Rattle.spec_wire.specs.declared.Step.TheVariants.{Load, Store, Send, Deliver, Raise, Lower, Forward}
use Rattle.std.specs.Prelude.{Ok, Err}
use Rattle.spec_wire.specs.Kinds.{Kind, no_field, kind_of, field_array, kind_in, in_bounds}
use Rattle.spec_wire.specs.Reader.{body_parses, parsed_array, read_body}
use Rattle.spec_wire.proofs.KindTable.{kind_elim, fit_of}
use Rattle.spec_wire.proofs.Fields.{filled}
use Rattle.spec_wire.proofs.FieldTrips.{Holds, body_fits}

-- what a body that a kind's fields fill shows of the numbers gathered from it
pub record Found (k : ℕ) (x : Kind) (body : List ℕ) : Type 0 where
  pub kind : kind_in (parsed_array k x.fields body) ≡ k
  pub holds : Holds x.fields (parsed_array k x.fields body) body
  pub back : field_array (x.step (parsed_array k x.fields body)) ≡ parsed_array k x.fields body

pub no_field_lem : (body : List ℕ) → body_parses (no_field ∷ []) body ≡ true → ⊥
no_field_lem body e = omega (arith, (filled no_field [] body e).value)

-- of a send, yes and no are read from 0 or 1
send_found : (body : List ℕ) → body_parses (kind_of 0x12).fields body ≡ true → Found 0x12 (kind_of 0x12) body
unfolding field_array kind_of
send_found body e =
    let holds : Holds (kind_of 0x12).fields (parsed_array 0x12 (kind_of 0x12).fields body) body = (refl, (refl, (refl, (refl, (refl, (refl, tt)))))) in
    let small = body_fits (kind_of 0x12).fields (parsed_array 0x12 (kind_of 0x12).fields body) body e holds in
    record { kind = refl; holds = holds; back = rw (eqb_one _ small.1.1.1.1.0, eqb_one _ small.1.1.1.1.1.0) }

pub found : (body : List ℕ) (k : ℕ) → body_parses (kind_of k).fields body ≡ true → Found k (kind_of k) body
unfolding field_array kind_of
found body = kind_elim (λ k x. body_parses x.fields body ≡ true → Found k x body) (λ k e. absurd (no_field_lem body e)) (
  λ e. record { kind = refl; holds = (refl, (refl, (refl, tt))); back = refl },
  (
    λ e. record { kind = refl; holds = (refl, (refl, (refl, (refl, tt)))); back = refl },
    (
      send_found body,
      (
        λ e. record { kind = refl; holds = (refl, tt); back = refl },
        (
          λ e. record { kind = refl; holds = (refl, (refl, tt)); back = refl },
          (
            λ e. record { kind = refl; holds = (refl, (refl, tt)); back = refl },
            (
              λ e. record { kind = refl; holds = (refl, (refl, tt)); back = refl },
              tt,
            ),
          ),
        ),
      ),
    ),
  ),
)

-- the numbers of a step that are found in a body tell the step
pub step_found : (s : Step) (body : List ℕ) → Holds (kind_of (kind_in (field_array s))).fields (field_array s) body
    → (kind_of (kind_in (field_array s))).step (parsed_array (kind_in (field_array s)) (kind_of (kind_in (field_array s))).fields body) ≡ s
unfolding field_array kind_of
step_found (Load c b w) body h = cc
step_found (Store c b w v) body h = cc
step_found (Send c b t p o d) body h =
    let marks = h.1.1.1.1 in
    rw (← h.0, ← h.1.0, ← h.1.1.0, ← h.1.1.1.0, ← marks.0, ← marks.1.0, one_eqb o, one_eqb d)
step_found (Deliver i) body h = cc
step_found (Raise c b) body h = cc
step_found (Lower c b) body h = cc
step_found (Forward c b) body h = cc

-- what is read, by whether the fields fill the body
module _ (k : ℕ) (body : List ℕ) where
  pub torn_body : body_parses (kind_of k).fields body ≡ false → Err Torn ≡ read_body k body
  unfolding read_body
  torn_body e = rw e

  pub step_body : body_parses (kind_of k).fields body ≡ true → Ok ((kind_of k).step (parsed_array k (kind_of k).fields body)) ≡ read_body k body
  unfolding read_body
  step_body e = rw e

  pub gathered_fits : body_parses (kind_of k).fields body ≡ true → in_bounds (kind_of k).fields (parsed_array k (kind_of k).fields body) ≡ true
  gathered_fits e = fit_of _ _ (body_fits (kind_of k).fields (parsed_array k (kind_of k).fields body) body e (found body k e).holds)
