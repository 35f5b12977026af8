-- Document 01, "Step records": what the parser's parts say of a field and of a body.
use Rattle.std.specs.Prelude.{ℕ, ◌+◌, ◌≤◌, ◌≡◌, Bool, List, ◌⊎◌, eqb, length, Option}
use Rattle.std.specs.Bool.{then_some}
use Rattle.std.specs.Option.{ok_or}
use Rattle.spec_wire.specs.declared.Refusal.TheVariants.{Torn}
use Rattle.spec_wire.specs.declared.Field.{Field}
use Rattle.spec_wire.specs.Answers.{Reading}
use Rattle.spec_wire.specs.declared.Step.{Step}
use Rattle.spec_wire.specs.Kinds.{component, position}
use Rattle.spec_wire.specs.StepRecord.{field_size}
use Rattle.spec_wire.specs.Reader.{field_parses, value_at}

-- t says whether a byte is this tag, which is one of the table: the component's is the lowest, the position's the highest
abbrev pub TagSeen : ℕ → ℕ → Bool → Type 0
TagSeen tag byte t = component.tag ≤ tag → tag ≤ position.tag → t ≡ eqb byte tag

-- the bytes have room for the field at `at`, and its value is one byte or four
abbrev pub FieldRoom : Field → ℕ → List ℕ → Type 0
FieldRoom f at bs = (at + field_size f ≤ length bs) × ((f.width ≡ 1) ⊎ (f.width ≡ 4))

-- the value of the field that `bs` starts with, if it does
abbrev pub field_read : Field → List ℕ → Option ℕ
field_read f bs = then_some (field_parses f bs) (value_at f bs)

-- what a body reads as, by the step that was made of it
abbrev pub reading_of : Option Step → Reading
reading_of r = ok_or r Torn
