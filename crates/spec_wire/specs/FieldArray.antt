-- Document 01, "Step records", as C has them: a step as an array of twelve numbers, and the reader and the writer over such arrays.
use Rattle.std.specs.Prelude.{ℕ, List, Bool, ◌&&◌, cond, length, get_or, take, eqb, leb, Ok, Err}
use Rattle.spec_base.specs.Folds.{all_below}
use Rattle.spec_wire.specs.declared.Refusal.TheVariants.{Torn, ShortBuffer}
use Rattle.spec_wire.specs.Answers.{Reading, Written}
use Rattle.spec_wire.specs.Kinds.{field_array, kind_in, kind_of, in_bounds}
use Rattle.spec_wire.specs.Results.{done, refused}
use Rattle.spec_base.specs.Placing.{room_for}
use Rattle.spec_wire.specs.Writer.{placed}

-- twelve numbers are the same
unfoldable pub same : List ℕ → List ℕ → Bool
same p q = all_below 12 (λ i. eqb (get_or p i 0) (get_or q i 0))

-- the step that an array of twelve encodes: its fields are in bounds, and every unused entry is 0
unfoldable pub step_of_twelve : List ℕ → Reading
step_of_twelve p =
    cond (in_bounds (kind_of (kind_in p)).fields p && same (field_array ((kind_of (kind_in p)).step p)) p) (Ok ((kind_of (kind_in p)).step p))
    (Err Torn)

-- the same of a longer list, by its first twelve numbers
unfoldable pub step_of_array : List ℕ → Reading
step_of_array ns = cond (leb 12 (length ns)) (step_of_twelve (take 12 ns)) (Err Torn)

-- Reading, where a step's array goes to the front of `out`: the result, and `out` afterwards.
unfoldable pub read_result : Reading → List ℕ → ℕ
read_result (Ok s) out = cond (room_for (field_array s) 0 out) (done 0) (refused ShortBuffer)
read_result (Err r) out = refused r

unfoldable pub read_after : Reading → List ℕ → List ℕ
read_after (Ok s) out = placed (field_array s) 0 out
read_after (Err r) out = out

-- Writing the step that an array encodes: the writer's answer as one number.
abbrev pub write_result : Written → ℕ
write_result (Ok n) = done n
write_result (Err r) = refused r
