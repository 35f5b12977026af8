-- Reading fields at their places: what is read of each of a kind's fields decides what the body reads as, by induction on the fields.
use Prim.Native.Nat.{ℕ, ◌+◌, ◌*◌, ◌≤◌, ◌<◌}
use native.Mathlib.Omega.{arith}
use mathlib.Core.Path.{◌≡◌, refl, sym, ap, ◌∙◌, subst}
use mathlib.Core.Bool.{Bool, true, false, cond, ◌&&◌}
use mathlib.Core.List.{List, [], ◌∷◌}
use lib.Dec.{eqb, ltb}
use lib.ListN.{length, get_or, set, take, drop, length-drop}
use lib.Seq.{drop-drop}
use mir.Val.{Fits}
use mir.Syntax.{w8}
use borrow.Author.Tests.{eq-eqb, eqb-true, le-ltb, le-leb}
use mathlib.Core.Logic.{⊎_elim}
use Rattle.spec_base.proofs.Tests.{either, lt_or_le, same_test}
use Rattle.spec_base.specs.Number.{Bytes, number}
use Rattle.spec_base.proofs.Lists.{each_at}
use Rattle.spec_base.proofs.Numbers.{four}
use Rattle.spec_wire.specs.declared.Refusal.TheVariants.{Torn}
use Rattle.spec_wire.specs.declared.Field.{Field}
use Rattle.spec_wire.specs.declared.Step.{Step}
use Rattle.spec_wire.specs.Kinds.{kind_of, field_of, no_field}
use Rattle.spec_wire.specs.StepRecord.{field_size, field_sizes}
use Rattle.spec_wire.specs.Reader.{has_header, value_at, field_parses, body_parses, field_values, parsed_array, read_body}
use Rattle.std.specs.Prelude.{Option, None, Some, Ok, Err}
use Rattle.std.specs.Bool.{then_some}
use Rattle.std.specs.Option.{option_and_then}
use Rattle.wire_reader.specs.Parsing.{TagSeen, FieldRoom, field_read, reading_of}
use Rattle.spec_wire.proofs.KindTable.{tag_unknown, one_or_four}
use Rattle.spec_wire.proofs.Fields.{filled}
use Rattle.spec_wire.proofs.BodyTrips.{torn_body}
use Rattle.spec_base.specs.Layout.{slice, big}
use Rattle.spec_base.proofs.WordBytes.{big_read}

-- ---- one field

-- its tag, and its length low byte first
header_seen : (f : Field) (s : List ℕ) (at : ℕ) → FieldRoom f at s → Bytes s
    → (eqb (get_or s at 0) f.tag && eqb (get_or s (at + 1) 0 + get_or s (at + 2) 0 * 256) (f.width * 256)) ≡ has_header f (drop at s)
unfolding has_header
header_seen f s at r bytes =
    let least : 1 ≤ f.width = ⊎_elim (λ w. omega (arith, w)) (λ w. omega (arith, w)) r.1 in
    let most : f.width ≤ 4 = ⊎_elim (λ w. omega (arith, w)) (λ w. omega (arith, w)) r.1 in
    let room : at + 4 ≤ length s = omega (arith, r.0, least) in
    let long : field_size f ≤ length (drop at s) = omega (arith, length-drop at s, r.0) in
    let first : get_or (drop at s) 0 0 ≡ get_or s at 0 = ap (λ (l : List ℕ). get_or l 0 0) (four at s room) in
    let two : number (take 2 (drop 1 (drop at s))) ≡ get_or s (at + 1) 0 * 256 + get_or s (at + 2) 0 =
    ap (λ (l : List ℕ). number (take 2 (drop 1 l))) (four at s room) ∙ omega arith in
    let low : ℕ = get_or s (at + 1) 0 + get_or s (at + 2) 0 * 256 in
    let high : ℕ = number (take 2 (drop 1 (drop at s))) in
    let width : eqb low (f.width * 256) ≡ eqb high f.width =
    same_test (eqb low (f.width * 256)) (eqb high f.width)
    (λ h. eq-eqb high f.width (omega (arith, two, eqb-true low (f.width * 256) h, bytes (at + 1), bytes (at + 2), most)))
    (λ h. eq-eqb low (f.width * 256) (omega (arith, two, eqb-true high f.width h, bytes (at + 1), bytes (at + 2), most))) in
    rw (le-leb (field_size f) (length (drop at s)) long, first) (ap (λ (t : Bool). eqb (get_or s at 0) f.tag && t) width)

-- a value of four bytes
pub value_four : (w at : ℕ) (s : List ℕ) → w ≡ 4 → number (take w (drop 3 (drop at s))) ≡ (big 4).read (slice (at + 3) 4 s)
value_four w at s e = ap (λ (n : ℕ). number (take n (drop 3 (drop at s)))) e ∙ ap (λ (l : List ℕ). number (take 4 l)) (drop-drop 3 at s) ∙ sym (big_read 4 (at + 3) s)

-- a field of the table has room where its size does
pub field_room : (f : Field) (tag at : ℕ) (s : List ℕ) → f ≡ field_of tag → at + field_size (field_of tag) ≤ length s → FieldRoom f at s
field_room f tag at s e l = rw e (l, one_or_four tag)

-- where no value is below the limit, nothing is read
none_seen : (bs : List ℕ) (h : Bool) (v : ℕ) → then_some (h && ltb v 0) v ≡ field_read no_field bs
none_seen bs h v = ap (λ (t : Bool). then_some t v) (never h v) ∙ sym (ap (λ (t : Bool). then_some t (value_at no_field bs)) (never (has_header no_field bs) (value_at no_field bs)))
  where
    never : (t : Bool) (n : ℕ) → (t && ltb n 0) ≡ false
    never true n = le-ltb n 0 (omega arith)
    never false n = refl

-- the field of a tag of the table has this tag
tag_own : (t : ℕ) → 1 ≤ t → t ≤ 9 → (field_of t).tag ≡ t
unfolding field_of
tag_own t l h = each_at (λ k. (field_of k).tag ≡ k) 1 9 (((((((((tt, refl), refl), refl), refl), refl), refl), refl), refl), refl) t l (omega arith)

-- what code reads of a field of the table, by what it has seen of its tag, then of its length low byte first, and then of its value
module _ (f : Field) (tag at : ℕ) (s : List ℕ) (ef : f ≡ field_of tag) (room : FieldRoom f at s) (bytes : (k : ℕ) → Fits w8 (get_or s k 0))
    (turn : Bool) (et : TagSeen tag (get_or s at 0) turn) where
  header_decides : (h : Bool) (v : ℕ) → (turn && eqb (get_or s (at + 1) 0 + get_or s (at + 2) 0 * 256) (f.width * 256)) ≡ h → v ≡ value_at f (drop at s)
      → then_some (h && ltb v f.limit) v ≡ field_read (field_of tag) (drop at s)
  header_decides h v eh ev =
      ⊎_elim (λ (l : tag < 1). unknown (λ k a b q. omega arith))
      (λ (l : 1 ≤ tag). ⊎_elim (λ (m : 9 < tag). unknown (λ k a b q. omega arith)) (λ (m : tag ≤ 9). known l m) (lt_or_le 9 tag)) (lt_or_le tag 1)
      ∙ ap (λ (g : Field). field_read g (drop at s)) ef
    where
      known : 1 ≤ tag → tag ≤ 9 → then_some (h && ltb v f.limit) v ≡ field_read f (drop at s)
      known l m =
          let own : tag ≡ f.tag = sym (ap (λ (g : Field). g.tag) ef ∙ tag_own tag l m) in
          let header : h ≡ has_header f (drop at s) =
          sym eh
          ∙ ap (λ (t : Bool). t && eqb (get_or s (at + 1) 0 + get_or s (at + 2) 0 * 256) (f.width * 256)) (et l m ∙ ap (eqb (get_or s at 0)) own)
          ∙ header_seen f s at room (λ k. (bytes k).fits) in
          λ i. then_some (header i && ltb (ev i) f.limit) (ev i)

      unknown : ((k : ℕ) → 1 ≤ k → k ≤ 9 → tag ≡ k → ⊥) → then_some (h && ltb v f.limit) v ≡ field_read f (drop at s)
      unknown out = subst (λ (g : Field). then_some (h && ltb v g.limit) v ≡ field_read g (drop at s)) (sym (ef ∙ tag_unknown tag out)) (none_seen (drop at s) h v)

  pub other_tag : turn ≡ false → None ≡ field_read (field_of tag) (drop at s)
  other_tag h = header_decides false _ (ap (λ (t : Bool). t && eqb (get_or s (at + 1) 0 + get_or s (at + 2) 0 * 256) (f.width * 256)) h) refl

  module _ (h : turn ≡ true) (long : Bool) (el : long ≡ eqb (get_or s (at + 1) 0 + get_or s (at + 2) 0 * 256) (f.width * 256)) where
    pub other_length : long ≡ false → None ≡ field_read (field_of tag) (drop at s)
    other_length e = header_decides false _ (λ i. h i && (sym el ∙ e) i) refl

    pub value_read : (v w : ℕ) (r : Option ℕ) → long ≡ true → v ≡ value_at f (drop at s) → w ≡ v → r ≡ then_some (ltb w f.limit) v → r ≡ field_read (field_of tag) (drop at s)
    value_read v w r e ev ew er = er ∙ ap (λ (n : ℕ). then_some (ltb n f.limit) v) ew ∙ header_decides true v (λ i. h i && (sym el ∙ e) i) ev

-- ---- fields at their places

module _ {A : Type 0} (make : List ℕ → A) where
  -- what is made of the array with the values of fields, one after the other from a place on, if all are read
  abbrev pub fields_read : List Field → ℕ → List ℕ → List ℕ → Option A
  fields_read [] at s p = Some (make p)
  fields_read (f ∷ fs) at s p = option_and_then (λ v. fields_read fs (at + field_size f) s (set p f.tag v)) (field_read f (drop at s))

  next_read : (f : Field) (fs : List Field) (bs p : List ℕ) (rest : ℕ → Option A)
      → ((v : ℕ) → rest v ≡ then_some (body_parses fs (drop (field_size f) bs)) (make (field_values fs (drop (field_size f) bs) (set p f.tag v))))
      → option_and_then rest (field_read f bs) ≡ then_some (body_parses (f ∷ fs) bs) (make (field_values (f ∷ fs) bs p))
  next_read f fs bs p rest e = by_test (field_parses f bs)
    where
      by_test : (b : Bool) → option_and_then rest (then_some b (value_at f bs))
          ≡ then_some (b && body_parses fs (drop (field_size f) bs)) (make (field_values fs (drop (field_size f) bs) (set p f.tag (value_at f bs))))
      by_test true = e (value_at f bs)
      by_test false = refl

  fields_parsed : (fs : List Field) (at : ℕ) (s p : List ℕ) → length s ≡ at + field_sizes fs
      → fields_read fs at s p ≡ then_some (body_parses fs (drop at s)) (make (field_values fs (drop at s) p))
  fields_parsed [] at s p l = ap (λ (t : Bool). then_some t (make p)) (sym (eq-eqb (length (drop at s)) 0 (length-drop at s ∙ omega arith)))
  fields_parsed (f ∷ fs) at s p l =
      next_read f fs (drop at s) p _ (λ v.
      fields_parsed fs (at + field_size f) s (set p f.tag v) (omega arith)
      ∙ ap (λ (r : List ℕ). then_some (body_parses fs r) (make (field_values fs r (set p f.tag v)))) (sym (drop-drop (field_size f) at s)))

-- ---- a body

-- a body of another length than its fields take
pub length_filled : (fs : List Field) (bs : List ℕ) → body_parses fs bs ≡ true → length bs ≡ field_sizes fs
length_filled [] bs e = eqb-true _ _ e
length_filled (f ∷ fs) bs e =
    let k = filled f fs bs e in
    omega (arith, length_filled fs (drop (field_size f) bs) k.rest, length-drop (field_size f) bs, k.head.long)

module _ (k : ℕ) (s : List ℕ) where
  pub not_filled : (length s ≡ field_sizes (kind_of k).fields → ⊥) → Err Torn ≡ read_body k s
  not_filled n = torn_body k s (⊎_elim (λ h. absurd (n (length_filled (kind_of k).fields s h))) (λ h. h) (either (body_parses (kind_of k).fields s)))

  -- a body that its fields fill
  pub kind_reads : length s ≡ field_sizes (kind_of k).fields
      → read_body k s ≡ reading_of (fields_read (kind_of k).step (kind_of k).fields 0 s (k ∷ 0 ∷ 0 ∷ 0 ∷ 0 ∷ 0 ∷ 0 ∷ 0 ∷ 0 ∷ 0 ∷ 0 ∷ 0 ∷ []))
  unfolding read_body
  kind_reads l =
      by_test (body_parses (kind_of k).fields s) (parsed_array k (kind_of k).fields s)
      ∙ sym (ap (λ (r : Option Step). reading_of r) (fields_parsed (kind_of k).step (kind_of k).fields 0 s _ (l ∙ omega arith)))
    where
      by_test : (b : Bool) (p : List ℕ) → cond b (Ok ((kind_of k).step p)) (Err Torn) ≡ reading_of (then_some b ((kind_of k).step p))
      by_test true p = refl
      by_test false p = refl

pub ruleset bodies = (not_filled, kind_reads)
