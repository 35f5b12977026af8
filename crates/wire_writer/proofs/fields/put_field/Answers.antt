-- `wire_writer::fields::put_field` meets its contract: the tag, the length and the value are placed one after the other.
use native.Mathlib.Nat.{add-sub_cancel_left}
use Rattle.spec_wire.specs.declared.Field.{Field}
use mathlib.Core.Path.{◌≡◌, refl, ap, ◌∙◌}
use Prim.Native.Nat.{ℕ, ◌-◌, ◌≤◌}
use native.Mathlib.Omega.{arith}
use mathlib.Core.List.{List, [], ◌∷◌}
use lib.ListN.{length, take, drop, set}
use borrow.Rule.Slice.PartMut.{put_mid}
use Rattle.spec_base.specs.Number.{digits}
use Rattle.spec_wire.specs.StepRecord.{field_size, field_bytes}
use Rattle.spec_base.specs.Placing.{place}
use Rattle.spec_base.proofs.Numbers.{length_digits}
use Rattle.wire_writer.proofs.FieldOrder.{length_head, place_number, place_head, place_framed}
use Rattle.wire_writer.proofs.fields.put_field.Goals as goal

-- the buffer after the three runs of bytes
finished : (f : Field) (v : ℕ) (out a b : List ℕ) → field_size f ≤ length out
    → a ≡ digits (length (take 2 (drop 1 (set out 0 f.tag)))) f.width
    → b ≡ digits (length (take (field_size f - 3) (drop 3 (put_mid 1 2 (set out 0 f.tag) a)))) v
    → put_mid 3 (field_size f - 3) (put_mid 1 2 (set out 0 f.tag) a) b ≡ place 0 (field_bytes f v) out
unfolding field_bytes
finished f v out a b h p q =
    let width : field_size f - 3 ≡ f.width = add-sub_cancel_left 3 f.width in
    let head : put_mid 1 2 (set out 0 f.tag) a ≡ place 1 (digits 2 f.width) (place 0 (f.tag ∷ []) out) = place_head f.tag f.width out a (omega arith) p in
    let long : length (put_mid 1 2 (set out 0 f.tag) a) ≡ length out = ap length head ∙ length_head f.tag f.width out (omega arith) in
    place_number 3 (field_size f) v (put_mid 1 2 (set out 0 f.tag) a) b (omega arith) q
    ∙ rw (width, head) (place_framed f.tag f.width (digits f.width v) out (omega (arith, length_digits f.width v)))

pub returns : goal.returns
returns c =
    (refl, finished c.args.field c.args.value c.args.out.now _ _ c.requires c.put_number.ensures c.put_number-2.ensures)
