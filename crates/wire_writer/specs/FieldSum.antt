-- Document 01, "Step records": how the writer for C validates an array.
use Rattle.std.specs.Prelude.{ℕ, ◌+◌, List, [], ◌∷◌, Bool, ◌&&◌, eqb, ltb}
use Rattle.spec_wire.specs.declared.Field.{Field}
use Rattle.spec_wire.specs.Kinds.{value_of}

-- every field is in bounds, and n plus the fields' values is `total`
unfoldable pub fields_sum_to : List Field → ℕ → ℕ → List ℕ → Bool
fields_sum_to [] n total p = eqb n total
fields_sum_to (f ∷ fs) n total p = ltb (value_of f p) f.limit && fields_sum_to fs (n + value_of f p) total p
