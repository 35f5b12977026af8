-- Bodies written and read again, and read and written again, for any list of fields: by induction on the list.
use mathlib.Core.Path.{◌≡◌, refl, sym, ◌∙◌}
use Prim.Native.Nat.{ℕ, ◌/◌, ◌%◌, ◌<◌}
use native.Mathlib.Omega.{arith}
use mathlib.Core.Bool.{true}
use mathlib.Core.List.{List, [], ◌∷◌, ◌++◌}
use lib.ListN.{length, take, drop, length-append, take-append-drop}
use lib.Seq.{length-take-le, take_at, drop_at, drop-drop}
use borrow.Author.Tests.{eqb-true, lt-ltb}
use Rattle.spec_base.specs.Folds.{All}
use Rattle.spec_base.proofs.Tests.{and_of}
use Rattle.spec_base.specs.Number.{Bytes, number, digits}
use Rattle.spec_base.proofs.Numbers.{length_digits, number_digits, digits_number}
use Rattle.spec_base.proofs.Parts.{bytes_take, bytes_drop}
use Rattle.spec_wire.specs.declared.Field.{Field}
use Rattle.spec_wire.specs.Kinds.{value_of}
use Rattle.spec_wire.specs.StepRecord.{field_size, field_bytes, body_bytes}
use Rattle.spec_wire.specs.Reader.{value_at, field_parses, body_parses}
use Rattle.spec_wire.proofs.KindTable.{Sound}
use Rattle.spec_wire.proofs.Fields.{Headed, headed_true, filled}

-- the numbers have the values of the fields that stand one after the other
abbrev pub Holds : List Field → List ℕ → List ℕ → Type 0
Holds [] p bs = Unit {0}
Holds (f ∷ fs) p bs = (value_of f p ≡ value_at f bs) × Holds fs p (drop (field_size f) bs)

-- ---- written and read

module _ (f : Field) (v : ℕ) (rest : List ℕ) (sound : Sound f) (bound : v < f.limit) where
  field_value : value_at f (field_bytes f v ++ rest) ≡ v
  unfolding field_bytes
  field_value = rw (take_at (digits f.width v) rest f.width (length_digits f.width v)) (number_digits f.width v (omega (arith, sound.0)))

  field_rest : drop (field_size f) (field_bytes f v ++ rest) ≡ rest
  unfolding field_bytes
  field_rest = sym (drop-drop f.width 3 (field_bytes f v ++ rest)) ∙ drop_at (digits f.width v) rest f.width (length_digits f.width v)

  field_headed : Headed f (field_bytes f v ++ rest)
  unfolding field_bytes
  field_headed = record {
    long = omega (arith, length-append (digits f.width v) rest, length_digits f.width v);
    tag = refl;
    width = omega (arith, sound.1);
  }

  field_stands : field_parses f (field_bytes f v ++ rest) ≡ true
  field_stands = and_of _ _ (headed_true f (field_bytes f v ++ rest) field_headed) (rw field_value (lt-ltb v f.limit bound))

pub body_read : (fs : List Field) (p : List ℕ) → All Sound fs → All (λ f. value_of f p < f.limit) fs
    → (body_parses fs (body_bytes fs p) ≡ true) × Holds fs p (body_bytes fs p)
body_read [] p s h = (refl, tt)
body_read (f ∷ fs) p s h =
    let rest : List ℕ = body_bytes fs p in
    let left = body_read fs p s.1 h.1 in
    let stood = field_stands f (value_of f p) rest s.0 h.0 in
    let after = field_rest f (value_of f p) rest s.0 h.0 in
    (rw (stood, after) left.0, (sym (field_value f (value_of f p) rest s.0 h.0), rw after left.1))

-- ---- read and written

field_written : (f : Field) (bs : List ℕ) → Bytes bs → Headed f bs → field_bytes f (value_at f bs) ++ drop (field_size f) bs ≡ bs
unfolding field_bytes
field_written f [] h s = absurd (omega (arith, s.long))
field_written f (a ∷ []) h s = absurd (omega (arith, s.long))
field_written f (a ∷ b ∷ []) h s = absurd (omega (arith, s.long))
field_written f (a ∷ b ∷ c ∷ r) h s =
    let high : f.width / 256 % 256 ≡ b = omega (arith, s.width, h 1, h 2) in
    let low : f.width % 256 ≡ c = omega (arith, s.width, h 1, h 2) in
    let long : length (take f.width r) ≡ f.width = length-take-le f.width r (omega (arith, s.long)) in
    let value : digits f.width (number (take f.width r)) ≡ take f.width r = rw long at (digits_number (take f.width r) (bytes_take f.width r (bytes_drop 3 (a ∷ b ∷ c ∷ r) h))) in
    let after : drop (field_size f) (a ∷ b ∷ c ∷ r) ≡ drop f.width r = sym (drop-drop f.width 3 (a ∷ b ∷ c ∷ r)) in
    rw (high, low, value, after, take-append-drop f.width r, ← s.tag)

pub body_written : (fs : List Field) (p bs : List ℕ) → Bytes bs → body_parses fs bs ≡ true → Holds fs p bs → body_bytes fs p ≡ bs
body_written [] p [] h e k = refl
body_written [] p (b ∷ bs) h e k = absurd (omega (arith, eqb-true (length (b ∷ bs)) 0 e))
body_written (f ∷ fs) p bs h e k =
    let first = filled f fs bs e in
    rw (k.0, body_written fs p (drop (field_size f) bs) (bytes_drop (field_size f) bs h) first.rest k.1) (field_written f bs h first.head)

pub body_fits : (fs : List Field) (p bs : List ℕ) → body_parses fs bs ≡ true → Holds fs p bs → All (λ f. value_of f p < f.limit) fs
body_fits [] p bs e k = tt
body_fits (f ∷ fs) p bs e k =
    let first = filled f fs bs e in
    (rw k.0 first.value, body_fits fs p (drop (field_size f) bs) first.rest k.1)
