-- Document 01, "Step records": the fields of a kind, as the writer's code has them.
use Rattle.std.specs.Prelude.{ℕ, List, ◌≤◌, ◌≡◌, map, length}
use Rattle.spec_wire.specs.Kinds.{field_of, kind_of}

-- the code's tags of a kind's fields
pub record TagsOf (kind : ℕ) (tags : List ℕ) : Type 0 where
  pub few : length tags ≤ 6
  pub fields : map field_of tags ≡ (kind_of kind).fields
