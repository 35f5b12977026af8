-- `wire_writer::validate::fields_sum_to` meets its contract: the fields left, with the sum so far, make up the total where all of them do.
use mathlib.Core.Path.{◌≡◌, sym, ◌∙◌}
use Prim.Native.Nat.{ℕ, ◌+◌, ◌≤◌, ◌<◌}
use native.Mathlib.Omega.{arith}
use mathlib.Core.Bool.{Bool, false, ◌&&◌}
use mathlib.Core.List.{List, map}
use lib.ListN.{length, get_or, drop, drop_of_length-le}
use lib.Dec.{eqb, ltb}
use borrow.Author.Tests.{lt-ltb, le-ltb}
use Rattle.spec_wire.specs.declared.Field.{Field}
use Rattle.spec_wire.specs.Kinds.{field_of, value_of}
use Rattle.spec_base.proofs.Lists.{map_next}
use Rattle.wire_writer.specs.FieldSum.{fields_sum_to}
use Rattle.wire_writer.proofs.validate.fields_sum_to.Goals as goal

-- the field at i, and those left
module _ (tags p : List ℕ) (total i n : ℕ) where
  abbrev Left : ℕ → ℕ → Bool
  Left j m = fields_sum_to (map field_of (drop j tags)) m total p

  module _ (more : i < length tags) (f : Field) (is : f ≡ field_of (get_or tags i 0)) (v : ℕ) (read : v ≡ value_of f p) where
    next : Left i n ≡ (ltb v f.limit && Left (i + 1) (n + v))
    unfolding fields_sum_to
    next = rw (read, map_next field_of tags i more, is)

    over : f.limit ≤ v → {all : Bool} → Left i n ≡ all → false ≡ all
    over h e = rw (le-ltb v f.limit h) at (sym next ∙ e)

    under : v < f.limit → {all : Bool} → Left i n ≡ all → Left (i + 1) (n + v) ≡ all
    under h e = rw (lt-ltb v f.limit h) at (sym next ∙ e)

  done : length tags ≤ i → {all : Bool} → Left i n ≡ all → eqb n total ≡ all
  unfolding fields_sum_to
  done h e = rw (drop_of_length-le tags h) at e

pub returns-then-number-field : goal.returns-then-number-field
returns-then-number-field c =
    rw (← c.tags_of-tag-items.ensures.fields) (over _ _ _ c.loop-tag.tag-index c.loop-tag.sum c.loop-tag-test.true _ c.field_of-field.ensures _ c.number_of-number.ensures.0 c.if-number-field.true c.loop-tag.invariant.1)

pub loop-tag-preserved : goal.loop-tag-preserved
loop-tag-preserved c =
    (omega (arith, c.number_of-number.ensures.1), under _ _ _ c.loop-tag.tag-index c.loop-tag.sum c.loop-tag-test.true _ c.field_of-field.ensures _ c.number_of-number.ensures.0 c.if-number-field.false c.loop-tag.invariant.1)

pub returns : goal.returns
returns c =
    rw (← c.tags_of-tag-items.ensures.fields) (done _ _ _ c.loop-tag.tag-index c.loop-tag.sum c.loop-tag-test.false c.loop-tag.invariant.1)
