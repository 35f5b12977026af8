-- How long the bytes of fields and records are, by the sizes of their fields.
use mathlib.Core.Path.{◌≡◌, refl, ◌∙◌}
use Prim.Native.Nat.{ℕ, ◌+◌, ◌≤◌}
use native.Mathlib.Omega.{arith}
use mathlib.Core.List.{List, [], ◌∷◌}
use lib.ListN.{length, length-append}
use Rattle.spec_base.proofs.Numbers.{length_digits}
use Rattle.spec_wire.specs.declared.Field.{Field}
use Rattle.spec_wire.specs.declared.Step.{Step}
use Rattle.spec_wire.specs.Kinds.{kind_of, field_array, kind_in, value_of}
use Rattle.spec_wire.specs.StepRecord.{field_size, field_sizes, field_bytes, body_bytes, record_bytes, step_bytes}
use Rattle.spec_wire.proofs.KindTable.{fields_size}

-- a field takes as many bytes as its size says, and fields as many as theirs
pub length_field : (f : Field) (v : ℕ) → length (field_bytes f v) ≡ field_size f
unfolding field_bytes
length_field f v = omega (arith, length_digits f.width v)

pub length_body : (fs : List Field) (p : List ℕ) → length (body_bytes fs p) ≡ field_sizes fs
length_body [] p = refl
length_body (f ∷ fs) p = length-append (field_bytes f (value_of f p)) (body_bytes fs p) ∙ omega (arith, length_field f (value_of f p), length_body fs p)

pub length_record : (kind : ℕ) (body : List ℕ) → length (record_bytes kind body) ≡ 3 + length body
unfolding record_bytes
length_record kind body = omega arith

-- the body of a step's record
abbrev pub body : Step → List ℕ
body s = body_bytes (kind_of (kind_in (field_array s))).fields (field_array s)

pub body_length : (s : Step) → length (body s) ≤ 24
body_length s = omega (arith, length_body (kind_of (kind_in (field_array s))).fields (field_array s), fields_size (kind_in (field_array s)))

-- The longest record has 27 bytes.
pub record_length_lem : (s : Step) → length (step_bytes s) ≤ 27
unfolding step_bytes
record_length_lem s = omega (arith, length_record (kind_in (field_array s)) (body s), body_length s)
