-- Document 01, "Step records": the bytes of a step record.
use Rattle.std.specs.Prelude.{ℕ, ◌+◌, List, [], ◌∷◌, ◌++◌, length}
use Rattle.spec_base.specs.Number.{digits}
use Rattle.spec_wire.specs.declared.Field.{Field}
use Rattle.spec_wire.specs.declared.Step.{Step}
use Rattle.spec_wire.specs.Kinds.{field_array, kind_in, value_of, kind_of}

-- a field: its tag, a two-byte length, its value
unfoldable pub field_bytes : Field → ℕ → List ℕ
field_bytes f v = f.tag ∷ (digits 2 f.width ++ digits f.width v)

-- a body: fields one after the other
abbrev pub body_bytes : List Field → List ℕ → List ℕ
body_bytes [] p = []
body_bytes (f ∷ fs) p = field_bytes f (value_of f p) ++ body_bytes fs p

-- a step record: its kind byte, a two-byte length, its body
unfoldable pub record_bytes : ℕ → List ℕ → List ℕ
record_bytes kind body = kind ∷ (digits 2 (length body) ++ body)

-- the step record of a step
unfoldable pub step_bytes : Step → List ℕ
step_bytes s = record_bytes (kind_in (field_array s)) (body_bytes (kind_of (kind_in (field_array s))).fields (field_array s))

-- the count of bytes of a field, and of several
abbrev pub field_size : Field → ℕ
field_size f = 3 + f.width

abbrev pub field_sizes : List Field → ℕ
field_sizes [] = 0
field_sizes (f ∷ fs) = field_size f + field_sizes fs
