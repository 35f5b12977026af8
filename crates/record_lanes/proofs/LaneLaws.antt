-- The lanes of a block against its cells: a place of the lanes is fine where its cell is well-formed and sound, and the places above the last component where they are 0.
use Prim.Native.Nat.{ℕ, suc, ◌+◌, ◌*◌, ◌≤◌, ◌<◌}
use native.Mathlib.Omega.{arith}
use mathlib.Core.Path.{◌≡◌, refl, sym, ap, ◌∙◌}
use mathlib.Core.Logic.{⊎_elim}
use mathlib.Core.Bool.{Bool, true, false, not, ◌&&◌}
use mathlib.Core.List.{List}
use lib.ListN.{length, get_or, drop}
use lib.Seq.{get_or-take, get_or-drop}
use lib.Dec.{eqb, leb, ltb}
use borrow.Author.Tests.{eq-eqb, ne_eqb, eqb-true, le-leb, leb-true, ltb-true, lt-ltb}
use Rattle.spec_base.specs.Folds.{toℕ, all, implies, all_below}
use Rattle.spec_base.specs.Layout.{slice, byte, flag, lane, zipped}
use Rattle.spec_base.proofs.Tests.{and_l, and_r, and_of, same_test, lt_or_le, implied, implies_of, eqb_one}
use Rattle.spec_base.proofs.Folds.{below_at, below_of, below_same, every_below}
use Rattle.spec_base.proofs.Forms.{formed_pair}
use Rattle.spec_base.proofs.Lanes.{lane_of, lane_each, lane_rest}
use Rattle.spec_rack.specs.Soundness.{sound_cell}
use Rattle.spec_rack.specs.RecordLayout.{owner_of, dirty_has_owner, byte_lanes, token_lanes, lanes_size, lane_size, owner_offset, valid_offset, dirty_offset}
use Rattle.spec_rack.proofs.GetPut.{bytes_length, bytes_spread}
use Rattle.record.proofs.FieldBytes.{flag_formed, present_is, dirty_most, dirty_only}
use Rattle.record_lanes.specs.Lanes.{plain_at, owner_at, valid_at, dirty_at, holds_token, sound_lane, sound_lanes, unused_lanes_empty}

-- ---- one place of the lanes

-- 1 where a number is not 0
some_one : (x : ℕ) → 0 < x → toℕ (not (eqb x 0)) ≡ 1
some_one x l = ap (λ (t : Bool). toℕ (not t)) (ne_eqb x 0 (λ e. omega arith))

some_le : (x : ℕ) → toℕ (not (eqb x 0)) ≤ x
some_le x =
    ⊎_elim (λ (l : 0 < x). omega (arith, some_one x l)) (λ (l : x ≤ 0). omega (arith, ap (λ (t : Bool). toℕ (not t)) (eq-eqb x 0 (omega arith))))
    (lt_or_le 0 x)

-- of a cell with marks of 0 or 1 and eight words
pub lane_cell : (p o v d : ℕ) (ws : List ℕ) → o < 2 → v < 2 → d ≤ o → length ws ≡ 8
    → sound_cell (record { plain = p; owner = owner_of (eqb o 1) (eqb d 1); valid = eqb v 1; words = ws })
    ≡ (leb d o && leb o v && leb v (toℕ (not (eqb (p + o) 0))))
lane_cell p o v d ws ho hv hd e =
    (λ i.
    eqb (length ws) 8 && implies (eqb v 1) (ltb 0 (p + toℕ (present_is (eqb o 1) (eqb d 1) i))) && implies (present_is (eqb o 1) (eqb d 1) i) (eqb v 1))
    ∙ same_test (eqb (length ws) 8 && implies (eqb v 1) (ltb 0 (p + toℕ (eqb o 1))) && implies (eqb o 1) (eqb v 1)) (leb o v && leb v (toℕ (not (eqb (p + o) 0))))
    (λ q.
    let held : implies (eqb v 1) (ltb 0 (p + toℕ (eqb o 1))) ≡ true = search (and_l, and_r) in
    let beside : implies (eqb o 1) (eqb v 1) ≡ true = search (and_l, and_r) in
    and_of (leb o v) (leb v (toℕ (not (eqb (p + o) 0))))
    (le-leb o v (⊎_elim (λ z. omega arith) (λ z. omega (arith, eqb-true v 1 (implied (eqb o 1) (eqb v 1) beside (eq-eqb o 1 (omega arith))))) (lt_or_le o 1)))
    (le-leb v (toℕ (not (eqb (p + o) 0)))
    (⊎_elim (λ z. omega arith)
    (λ z. omega (arith, some_one (p + o) (omega (arith, eqb_one o ho, ltb-true 0 (p + toℕ (eqb o 1)) (implied (eqb v 1) (ltb 0 (p + toℕ (eqb o 1))) held (eq-eqb v 1 (omega arith)))))))
    (lt_or_le v 1))))
    (λ q.
    let a : o ≤ v = leb-true o v (and_l (leb o v) (leb v (toℕ (not (eqb (p + o) 0)))) q) in
    let b : v ≤ toℕ (not (eqb (p + o) 0)) = leb-true v (toℕ (not (eqb (p + o) 0))) (and_r (leb o v) (leb v (toℕ (not (eqb (p + o) 0)))) q) in
    and_of (eqb (length ws) 8 && implies (eqb v 1) (ltb 0 (p + toℕ (eqb o 1)))) (implies (eqb o 1) (eqb v 1))
    (and_of (eqb (length ws) 8) (implies (eqb v 1) (ltb 0 (p + toℕ (eqb o 1)))) (eq-eqb (length ws) 8 e)
    (implies_of (eqb v 1) (ltb 0 (p + toℕ (eqb o 1))) (λ z. lt-ltb 0 (p + toℕ (eqb o 1)) (omega (arith, eqb_one o ho, eqb-true v 1 z, some_le (p + o))))))
    (implies_of (eqb o 1) (eqb v 1) (λ z. eq-eqb v 1 (omega (arith, eqb-true o 1 z)))))
    ∙ (λ i. sym (le-leb d o hd) i && leb o v && leb v (toℕ (not (eqb (p + o) 0))))

-- ---- the lanes of a block

module _ (n at : ℕ) (s : List ℕ) (h : n ≤ 15) where
  -- what their form says
  pub record Lanes : Type 0 where
    pub owners : (i : ℕ) → i ≤ n → owner_at s at i < 2
    pub valids : (i : ℕ) → i ≤ n → valid_at s at i < 2
    pub dirties : (i : ℕ) → i ≤ n → dirty_at s at i ≤ owner_at s at i
    pub no_plain : (i : ℕ) → n < i → i < lane_size → plain_at s at i ≡ 0
    pub no_owner : (i : ℕ) → n < i → i < lane_size → owner_at s at i ≡ 0
    pub no_valid : (i : ℕ) → n < i → i < lane_size → valid_at s at i ≡ 0
    pub no_dirty : (i : ℕ) → n < i → i < lane_size → dirty_at s at i ≡ 0

  abbrev few : suc n ≤ lane_size
  few = omega arith

  abbrev plain_form : Bool
  plain_form = (lane byte (suc n)).well_formed (slice at lane_size s)

  abbrev owner_form : Bool
  owner_form = (lane flag (suc n)).well_formed (slice (at + owner_offset) lane_size s)

  abbrev valid_form : Bool
  valid_form = (lane flag (suc n)).well_formed (slice (at + owner_offset + lane_size) lane_size s)

  abbrev dirty_form : Bool
  dirty_form = (lane flag (suc n)).well_formed (slice (at + owner_offset + lane_size + lane_size) lane_size s)

  abbrev beside_form : Bool
  beside_form = all_below (suc n) (λ i. implies (eqb (dirty_at s at i) 1) (eqb (owner_at s at i) 1))

  -- a byte of the lanes
  there : (i j : ℕ) → i < lanes_size → at + i ≡ j → get_or (slice at lanes_size s) i 0 ≡ get_or s j 0
  there i j l e = get_or-take lanes_size (drop at s) i 0 l ∙ get_or-drop at s i 0 ∙ ap (λ (k : ℕ). get_or s k 0) e

  -- no mark without the owner, place by place
  beside_is : all dirty_has_owner ((byte_lanes n).read (slice at lanes_size s)) ≡ beside_form
  beside_is =
      let t : List ℕ = slice at lanes_size s in
      every_below (0, (false, (false, false))) dirty_has_owner ((byte_lanes n).read t)
      ∙ ap (λ (k : ℕ). all_below k (λ i. dirty_has_owner (get_or ((byte_lanes n).read t) i (0, (false, (false, false)))))) (bytes_length n t)
      ∙ below_same (λ i. dirty_has_owner (get_or ((byte_lanes n).read t) i (0, (false, (false, false))))) (λ i. implies (eqb (dirty_at s at i) 1) (eqb (owner_at s at i) 1)) (suc n)
      (λ i l.
      ap dirty_has_owner ((bytes_spread n h i (omega arith)).looks t)
      ∙ (λ j.
      implies (eqb (there (i + dirty_offset) (at + dirty_offset + i) (omega arith) (omega arith) j) 1) (eqb (there (i + owner_offset) (at + owner_offset + i) (omega arith) (omega arith) j) 1)))

  lanes_are : (byte_lanes n).well_formed (slice at lanes_size s) ≡ (plain_form && (owner_form && (valid_form && dirty_form)))
  unfolding byte_lanes
  lanes_are =
      formed_pair (lane byte (suc n)) (zipped (lane flag (suc n)) (zipped (lane flag (suc n)) (lane flag (suc n)))) at s
      ∙ ap (λ (t : Bool). plain_form && t)
      (formed_pair (lane flag (suc n)) (zipped (lane flag (suc n)) (lane flag (suc n))) (at + owner_offset) s
      ∙ ap (λ (t : Bool). owner_form && t) (formed_pair (lane flag (suc n)) (lane flag (suc n)) (at + owner_offset + lane_size) s))

  form_is : (token_lanes n).well_formed (slice at lanes_size s) ≡ ((plain_form && (owner_form && (valid_form && dirty_form))) && beside_form)
  unfolding token_lanes
  form_is = λ i. lanes_are i && beside_is i

  -- a mark of a lane at p
  mark : (p i : ℕ) → (lane flag (suc n)).well_formed (slice p lane_size s) ≡ true → i ≤ n → get_or s (p + i) 0 < 2
  mark p i e l = ltb-true (get_or s (p + i) 0) 2 (sym (flag_formed s (p + 1 * i) (p + i) (omega arith)) ∙ lane_each flag (suc n) few p s e i (omega arith))

  far : (i : ℕ) → at + owner_offset + lane_size + i ≡ at + valid_offset + i
  far i = omega arith

  further : (i : ℕ) → at + owner_offset + lane_size + lane_size + i ≡ at + dirty_offset + i
  further i = omega arith

  pub lanes_facts : (token_lanes n).well_formed (slice at lanes_size s) ≡ true → Lanes
  lanes_facts e =
      let q : ((plain_form && (owner_form && (valid_form && dirty_form))) && beside_form) ≡ true = sym form_is ∙ e in
      let p : (plain_form && (owner_form && (valid_form && dirty_form))) ≡ true = and_l (plain_form && (owner_form && (valid_form && dirty_form))) beside_form q in
      let a : plain_form ≡ true = and_l plain_form (owner_form && (valid_form && dirty_form)) p in
      let r : (owner_form && (valid_form && dirty_form)) ≡ true = and_r plain_form (owner_form && (valid_form && dirty_form)) p in
      let b : owner_form ≡ true = and_l owner_form (valid_form && dirty_form) r in
      let c : valid_form ≡ true = and_l valid_form dirty_form (and_r owner_form (valid_form && dirty_form) r) in
      let d : dirty_form ≡ true = and_r valid_form dirty_form (and_r owner_form (valid_form && dirty_form) r) in
      let f : beside_form ≡ true = and_r (plain_form && (owner_form && (valid_form && dirty_form))) beside_form q in
      record {
        owners = λ i l. mark (at + owner_offset) i b l;
        valids = λ i l. rw (far i) at (mark (at + owner_offset + lane_size) i c l);
        dirties = λ i l.
            dirty_most (owner_at s at i) (dirty_at s at i) (rw (further i) at (mark (at + owner_offset + lane_size + lane_size) i d l))
            (below_at (λ j. implies (eqb (dirty_at s at j) 1) (eqb (owner_at s at j) 1)) (suc n) f i (omega arith));
        no_plain = λ i l u. lane_rest byte (suc n) few at s a i (omega arith) (omega arith);
        no_owner = λ i l u. lane_rest flag (suc n) few (at + owner_offset) s b i (omega arith) (omega arith);
        no_valid = λ i l u. ap (λ (k : ℕ). get_or s k 0) (sym (far i)) ∙ lane_rest flag (suc n) few (at + owner_offset + lane_size) s c i (omega arith) (omega arith);
        no_dirty = λ i l u.
            ap (λ (k : ℕ). get_or s k 0) (sym (further i)) ∙ lane_rest flag (suc n) few (at + owner_offset + lane_size + lane_size) s d i (omega arith) (omega arith);
      }

  pub lanes_form : Lanes → (token_lanes n).well_formed (slice at lanes_size s) ≡ true
  lanes_form f =
      form_is
      ∙ and_of (plain_form && (owner_form && (valid_form && dirty_form))) beside_form
      (and_of plain_form (owner_form && (valid_form && dirty_form))
      (lane_of byte (suc n) few at s (λ i l. refl) (λ i l u. f.no_plain i (omega arith) (omega arith)))
      (and_of owner_form (valid_form && dirty_form)
      (lane_of flag (suc n) few (at + owner_offset) s
      (λ i l. flag_formed s (at + owner_offset + 1 * i) (at + owner_offset + i) (omega arith) ∙ lt-ltb (get_or s (at + owner_offset + i) 0) 2 (f.owners i (omega arith)))
      (λ i l u. f.no_owner i (omega arith) (omega arith)))
      (and_of valid_form dirty_form
      (lane_of flag (suc n) few (at + owner_offset + lane_size) s
      (λ i l. flag_formed s (at + owner_offset + lane_size + 1 * i) (at + valid_offset + i) (omega arith) ∙ lt-ltb (get_or s (at + valid_offset + i) 0) 2 (f.valids i (omega arith)))
      (λ i l u. ap (λ (k : ℕ). get_or s k 0) (far i) ∙ f.no_valid i (omega arith) (omega arith)))
      (lane_of flag (suc n) few (at + owner_offset + lane_size + lane_size) s
      (λ i l.
      flag_formed s (at + owner_offset + lane_size + lane_size + 1 * i) (at + dirty_offset + i) (omega arith)
      ∙ lt-ltb (get_or s (at + dirty_offset + i) 0) 2 (omega (arith, f.dirties i (omega arith), f.owners i (omega arith))))
      (λ i l u. ap (λ (k : ℕ). get_or s k 0) (further i) ∙ f.no_dirty i (omega arith) (omega arith))))))
      (below_of (λ i. implies (eqb (dirty_at s at i) 1) (eqb (owner_at s at i) 1)) (suc n)
      (λ i l. dirty_only (owner_at s at i) (dirty_at s at i) (f.owners i (omega arith)) (f.dirties i (omega arith))))

  -- ---- all places that are fine are as the layout has them

  module _ (a : sound_lanes s at ≡ true) (b : unused_lanes_empty n s at ≡ true) where
    fine_dirty : (i : ℕ) → i < lane_size → dirty_at s at i ≤ owner_at s at i
    unfolding sound_lanes
    fine_dirty i l = let q = below_at (sound_lane s at) lane_size a i l in leb-true (dirty_at s at i) (owner_at s at i) (search (and_l, and_r))

    fine_order : (i : ℕ) → i < lane_size → owner_at s at i ≤ valid_at s at i
    unfolding sound_lanes
    fine_order i l = let q = below_at (sound_lane s at) lane_size a i l in leb-true (owner_at s at i) (valid_at s at i) (search (and_l, and_r))

    fine_held : (i : ℕ) → i < lane_size → valid_at s at i ≤ toℕ (holds_token s at i)
    unfolding sound_lanes
    fine_held i l = let q = below_at (sound_lane s at) lane_size a i l in leb-true (valid_at s at i) (toℕ (holds_token s at i)) (search (and_l, and_r))

    fine_mark : (i : ℕ) → i < lane_size → valid_at s at i < 2
    fine_mark i l = omega (arith, fine_held i l, one_most (holds_token s at i))
      where
        one_most : (t : Bool) → toℕ t ≤ 1
        one_most true = omega arith
        one_most false = omega arith

    fine_empty : (i : ℕ) → n < i → i < lane_size → plain_at s at i + owner_at s at i ≡ 0
    unfolding unused_lanes_empty
    fine_empty i l u =
        eqb-true (plain_at s at i + owner_at s at i) 0
        (back (eqb (plain_at s at i + owner_at s at i) 0)
        (implied (ltb n i) (not (holds_token s at i)) (below_at (λ j. implies (ltb n j) (not (holds_token s at j))) lane_size b i u) (lt-ltb n i l)))
      where
        back : (t : Bool) → not (not t) ≡ true → t ≡ true
        back true e = refl
        back false e = e

    pub lanes_fine : Lanes
    lanes_fine =
        record {
          owners = λ i l. omega (arith, fine_order i (omega arith), fine_mark i (omega arith));
          valids = λ i l. fine_mark i (omega arith);
          dirties = λ i l. fine_dirty i (omega arith);
          no_plain = λ i l u. omega (arith, fine_empty i l u);
          no_owner = λ i l u. omega (arith, fine_empty i l u);
          no_valid = λ i l u. omega (arith, fine_empty i l u, fine_held i u, some_le (plain_at s at i + owner_at s at i));
          no_dirty = λ i l u. omega (arith, fine_empty i l u, fine_dirty i u);
        }

  -- of lanes that are as the layout has them, the first n + 1 places decide
  pub lanes_same : Lanes → all_below (suc n) (sound_lane s at) ≡ (sound_lanes s at && unused_lanes_empty n s at)
  unfolding sound_lanes unused_lanes_empty
  lanes_same f =
      same_test (all_below (suc n) (sound_lane s at)) (all_below lane_size (sound_lane s at) && all_below lane_size (λ i. implies (ltb n i) (not (holds_token s at i))))
      (λ q. and_of (all_below lane_size (sound_lane s at)) (all_below lane_size (λ i. implies (ltb n i) (not (holds_token s at i))))
      (below_of (sound_lane s at) lane_size (λ i u. ⊎_elim (λ (l : n < i). above i l u) (λ (l : i ≤ n). below_at (sound_lane s at) (suc n) q i (omega arith)) (lt_or_le n i)))
      (below_of (λ i. implies (ltb n i) (not (holds_token s at i))) lane_size (λ i u. implies_of (ltb n i) (not (holds_token s at i)) (λ e. nothing i (ltb-true n i e) u))))
      (λ q. below_of (sound_lane s at) (suc n) (λ i l. below_at (sound_lane s at) lane_size (and_l (all_below lane_size (sound_lane s at)) (all_below lane_size (λ j. implies (ltb n j) (not (holds_token s at j)))) q) i (omega arith)))
    where
      nothing : (i : ℕ) → n < i → i < lane_size → not (holds_token s at i) ≡ true
      nothing i l u =
          ap (λ (t : Bool). not (not t)) (eq-eqb (plain_at s at i + owner_at s at i) 0 (omega (arith, f.no_plain i l u, f.no_owner i l u)))

      above : (i : ℕ) → n < i → i < lane_size → sound_lane s at i ≡ true
      above i l u =
          and_of (leb (dirty_at s at i) (owner_at s at i) && leb (owner_at s at i) (valid_at s at i)) (leb (valid_at s at i) (toℕ (holds_token s at i)))
          (and_of (leb (dirty_at s at i) (owner_at s at i)) (leb (owner_at s at i) (valid_at s at i)) (le-leb (dirty_at s at i) (owner_at s at i) (omega (arith, f.no_dirty i l u)))
          (le-leb (owner_at s at i) (valid_at s at i) (omega (arith, f.no_owner i l u))))
          (le-leb (valid_at s at i) (toℕ (holds_token s at i)) (omega (arith, f.no_valid i l u)))
