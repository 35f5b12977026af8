-- `wire_writer::put_record` meets its contract: the kind, the length and the fields are placed one after the other.
use Rattle.spec_base.specs.Placing.{place}
use Rattle.spec_wire.specs.Writer.{placed}
use mathlib.Core.Path.{◌≡◌, sym, ap, ◌∙◌}
use Prim.Native.Nat.{ℕ, ◌+◌, ◌-◌, ◌≤◌}
use native.Mathlib.Omega.{arith}
use mathlib.Core.List.{List, [], ◌∷◌, map}
use lib.ListN.{length, take, drop, set}
use borrow.Rule.Slice.PartMut.{put_mid}
use Rattle.spec_base.specs.Number.{digits}
use Rattle.spec_wire.specs.Kinds.{field_of}
use Rattle.spec_wire.specs.StepRecord.{field_sizes, body_bytes, record_bytes}
use Rattle.spec_wire.proofs.RecordSizes.{length_body, length_record}
use Rattle.spec_base.proofs.Placing.{place_rest}
use Rattle.wire_writer.proofs.FieldOrder.{length_head, place_head, place_framed}
use Rattle.wire_writer.proofs.PlacedRecord.{placed_room}
use Rattle.wire_writer.proofs.put_record.Goals as goal

-- the record's length, and the buffer after its head and its fields
module _ (kind : ℕ) (out tags p : List ℕ) (n : ℕ) (sized : n ≡ field_sizes (map field_of tags)) where
  abbrev body : List ℕ
  body = body_bytes (map field_of tags) p

  count : n ≡ length body
  count = sized ∙ sym (length_body (map field_of tags) p)

  finished : (a b : List ℕ) → 3 + n ≤ length out
      → a ≡ digits (length (take 2 (drop 1 (set out 0 kind)))) n
      → b ≡ place 0 body (take (length (put_mid 1 2 (set out 0 kind) a) - 3) (drop 3 (put_mid 1 2 (set out 0 kind) a)))
      → put_mid 3 (length (put_mid 1 2 (set out 0 kind) a) - 3) (put_mid 1 2 (set out 0 kind) a) b ≡ place 0 (record_bytes kind body) out
  unfolding record_bytes
  finished a b h e q =
      let head : put_mid 1 2 (set out 0 kind) a ≡ place 1 (digits 2 n) (place 0 (kind ∷ []) out) = place_head kind n out a (omega arith) e in
      let long : length (put_mid 1 2 (set out 0 kind) a) ≡ length out = ap length head ∙ length_head kind n out (omega arith) in
      rw q (place_rest 3 body (put_mid 1 2 (set out 0 kind) a) (omega (arith, count)))
      ∙ ap (λ (l : List ℕ). place 3 body l) head
      ∙ rw (← count) (place_framed kind n body out (omega (arith, count)))

  written_whole : {after : List ℕ} → 3 + n ≤ length out → after ≡ place 0 (record_bytes kind body) out → after ≡ placed (record_bytes kind body) 0 out
  written_whole h e = e ∙ placed_room (record_bytes kind body) 0 out (omega (arith, length_record kind body, count))

pub returns-clause-buffer : goal.returns-clause-buffer
returns-clause-buffer c =
    let sized = c.fields_size-body.ensures in
    written_whole c.args.kind c.args.out.now c.args.tags.now c.args.numbers.now _ sized (omega arith)
    (finished c.args.kind c.args.out.now c.args.tags.now c.args.numbers.now _ sized _ _ (omega arith) c.put_number.ensures c.put_fields.ensures)
