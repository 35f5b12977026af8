-- The claims in the record's bytes: to write one set is to change the claims at its number alone.
use mathlib.Core.Path.{◌≡◌, refl, sym, ap, ◌∙◌, subst}
use mathlib.Core.Bool.{true}
use mathlib.Core.List.{List, [], ◌∷◌, ◌++◌, map}
use Prim.Native.Nat.{ℕ, suc, ◌+◌, ◌*◌, ◌≤◌, ◌<◌}
use native.Mathlib.Nat.{le_of_eq}
use native.Mathlib.Numerals.{add-one}
use native.Mathlib.Omega.{arith}
use lib.ListN.{length, set, take, drop, length-set}
use Rattle.spec_base.proofs.Folds.{all_set}
use Rattle.spec_base.specs.Number.{Bytes}
use Rattle.spec_base.specs.Layout.{slice, modify_at, big}
use Rattle.spec_base.proofs.Parts.{bytes_take, bytes_drop, length_part, part_part}
use Rattle.spec_base.proofs.Laws.{Stands, Lawful, cut, cut_second, cuts_length, written}
use Rattle.spec_base.proofs.Places.{over_in}
use Rattle.spec_arbiter.specs.Boards.{board_room, empty, insert, remove}
use Rattle.spec_arbiter.specs.Claims.{Claims, waiting, barring, raised, lowered}
use Rattle.spec_rack.specs.RecordLayout.{claims, set_offset, claims_at_offset, put_claims, claims_size, waiting_offset}
use Rattle.spec_base.proofs.Maps.{map_first, map_first_none, map_first_more, map_first_all}
use Rattle.spec_rack.proofs.LayoutParts.{ClaimsFit, claims_size_lem, claims_lawful}
use Rattle.arbiter.proofs.SetBytes.{set_offset_lem, set_place, length_claims, waiting_is}

-- ---- claims stored in a record

-- as many sets as the rack has places, each of sixteen bits
abbrev pub Fit : ℕ → Claims → Type 0
Fit n c = ClaimsFit n c

lawful : (n : ℕ) → n < board_room → Lawful (claims n) (Fit n)
lawful n fits = claims_lawful n (omega arith)

-- the record s is the record s₀ with the claims c in its bytes from a place on
pub record Stored (n at : ℕ) (s₀ : List ℕ) (c : Claims) (s : List ℕ) : Type 0 where
  pub fit : Fit n c
  pub is : s ≡ put_claims n at c s₀

module _ (n at : ℕ) (fits : n < board_room) (s₀ : List ℕ) (bytes : Bytes s₀) (room : at + claims_size ≤ length s₀) (form : (claims n).well_formed (slice at claims_size s₀) ≡ true) where
  here : List ℕ
  here = slice at claims_size s₀

  bytes_here : Bytes here
  unfolding here
  bytes_here = bytes_take claims_size (drop at s₀) (bytes_drop at s₀ bytes)

  length_here : length here ≡ claims_size
  unfolding here
  length_here = length_part at claims_size s₀ room

  whole : (claims n).size ≤ length here
  whole = rw (claims_size_lem n) (le_of_eq (sym length_here))

  inside : (i : ℕ) → i ≤ n → set_offset i + 2 ≤ claims_size
  inside i l = rw (claims_size_lem n) at (set_place n fits i l).inside

  stands : Stands (claims n) here
  unfolding here
  stands = record { bytes = bytes_here; well_formed = form; room = whole }

  pub stored_start : Stored n at s₀ (claims_at_offset n at s₀) s₀
  unfolding here
  stored_start =
      record {
        fit = (lawful n fits).holds here bytes_here;
        is = sym (ap (λ (r : List ℕ). take at s₀ ++ (r ++ drop (at + claims_size) s₀)) ((lawful n fits).unchanged here stands) ∙ cut at claims_size s₀);
      }

  module _ (c : Claims) (s : List ℕ) (h : Stored n at s₀ c s) where
    kept : length ((claims n).write c here) ≡ length here
    kept = (lawful n fits).keeps c here

    pub stored_length : length s ≡ length s₀
    unfolding here
    stored_length = ap length h.is ∙ cuts_length at claims_size (take at s₀) ((claims n).write c here) s₀ refl kept

    part_stored : slice at claims_size s ≡ (claims n).write c here
    unfolding here
    part_stored = ap (slice at claims_size) h.is ∙ cut_second at claims_size (take at s₀) ((claims n).write c here) s₀ refl kept room

    pub stored_read : (i : ℕ) → i ≤ n → (big 2).read (slice (at + set_offset i) 2 s) ≡ barring c i
    stored_read i l =
        ap (big 2).read (sym (part_part at claims_size (set_offset i) 2 s (inside i l)) ∙ ap (slice (set_offset i) 2) part_stored)
        ∙ sym ((set_place n fits i l).looks ((claims n).write c here))
        ∙ ap (λ (d : Claims). barring d i) ((lawful n fits).back c here h.fit whole)

    pub stored_write : (i v : ℕ) → i ≤ n → v < 65536 → Stored n at s₀ (set c i v) (modify_at (at + set_offset i) 2 ((big 2).write v) s)
    unfolding here
    stored_write i v l small =
        record {
          fit = more;
          is =
              ap (modify_at (at + set_offset i) 2 ((big 2).write v)) h.is
              ∙ over_in ((big 2).write v) ((claims n).write c) at claims_size (set_offset i) 2 s₀ kept room (inside i l)
              ∙ ap (λ (r : List ℕ). take at s₀ ++ (r ++ drop (at + claims_size) s₀))
              (sym ((set_place n fits i l).changes v ((claims n).write c here) (written (claims n) (lawful n fits) c here h.fit bytes_here whole))
              ∙ ap (λ (d : Claims). (claims n).write (set d i v) ((claims n).write c here)) ((lawful n fits).back c here h.fit whole)
              ∙ (lawful n fits).again (set c i v) c here more h.fit whole);
        }
      where
        more : Fit n (set c i v)
        more = (length-set c i v ∙ h.fit.0, all_set (λ w. w < 65536) c i v h.fit.1 small)

-- ---- raise and lower, as the code makes them

-- the claims before, and those of which board i has left the first k barring sets
module _ (n at : ℕ) (s₀ : List ℕ) where
  abbrev pub before : Claims
  before = claims_at_offset n at s₀

  abbrev pub left_first : ℕ → ℕ → Claims
  left_first i k = waiting before ∷ map_first (λ (s : ℕ). remove s i) k (drop 1 before)

  -- the record at turn k of a lower
  pub record Lowering (i k : ℕ) (s : List ℕ) : Type 0 where
    pub same : length s ≡ length s₀
    pub stored : Stored n at s₀ (left_first i k) s

cons_back : (n : ℕ) (c : Claims) → length c ≡ suc n → waiting c ∷ drop 1 c ≡ c
cons_back n [] e = absurd (omega arith)
cons_back n (w ∷ c) e = refl

rest_length : (n : ℕ) (c : Claims) → length c ≡ suc n → length (drop 1 c) ≡ n
rest_length n [] e = absurd (omega arith)
rest_length n (w ∷ c) e = omega arith

module _ (n at : ℕ) (fits : n < board_room) (s₀ : List ℕ) (bytes : Bytes s₀) (room : at + claims_size ≤ length s₀) (form : (claims n).well_formed (slice at claims_size s₀) ≡ true) (i : ℕ) where
  abbrev c₀ : Claims
  c₀ = before n at s₀

  abbrev left : ℕ → Claims
  left k = left_first n at s₀ i k

  pub raise_is : (w v : ℕ) (s : List ℕ) → w ≡ (big 2).read (slice (at + waiting_offset) 2 s₀) → v ≡ insert w i → v < 65536 → s ≡ modify_at (at + waiting_offset) 2 ((big 2).write v) s₀
      → s ≡ put_claims n at (raised c₀ i) s₀
  unfolding raised
  raise_is w v s ew ev small es =
      es ∙ (stored_write n at fits s₀ bytes room form c₀ s₀ (stored_start n at fits s₀ bytes room form) 0 v (omega arith) small).is
      ∙ ap (λ (k : ℕ). put_claims n at (set c₀ 0 k) s₀) (ev ∙ ap (λ (k : ℕ). insert k i) (ew ∙ waiting_is n at s₀))

  lowering : (k : ℕ) (c : Claims) (s : List ℕ) → left k ≡ c → Stored n at s₀ c s → Lowering n at s₀ i k s
  lowering k c s e h = record { same = stored_length n at fits s₀ bytes room form c s h; stored = subst (λ (d : Claims). Stored n at s₀ d s) (sym e) h }

  pub lower_none : Lowering n at s₀ i 0 s₀
  lower_none =
      lowering 0 c₀ s₀ (ap (λ (l : Claims). waiting c₀ ∷ l) (map_first_none (λ (s : ℕ). remove s i) (drop 1 c₀)) ∙ cons_back n c₀ (length_claims n at s₀)) (stored_start n at fits s₀ bytes room form)

  -- the turn of board suc k, at the set of number j; r is the set that is read, v the set that is written
  pub lower_more : (k m j r v : ℕ) (s s' : List ℕ) → m ≡ suc k → j ≡ suc k → k < n → Lowering n at s₀ i k s → r ≡ (big 2).read (slice (at + 2 * j) 2 s) → v ≡ remove r i → v < 65536
      → s' ≡ modify_at (at + 2 * j) 2 ((big 2).write v) s → Lowering n at s₀ i m s'
  lower_more k m j r v s s' next turn below h er ev small es =
      let there : at + 2 * j ≡ at + set_offset (suc k) = omega arith in
      rw (next, sym (add-one k))
      (lowering (k + 1) (set (left k) (suc k) v) s'
      (sym (ap (λ (x : ℕ). set (left k) (suc k) x)
      (ev ∙ ap (λ (x : ℕ). remove x i) (er ∙ ap (λ (p : ℕ). (big 2).read (slice p 2 s)) there ∙ stored_read n at fits s₀ bytes room form (left k) s h.stored (suc k) below))
      ∙ ap (λ (m : Claims). waiting c₀ ∷ m) (map_first_more (λ (x : ℕ). remove x i) k (drop 1 c₀) empty (omega (arith, rest_length n c₀ (length_claims n at s₀))))))
      (subst (Stored n at s₀ (set (left k) (suc k) v)) (sym (es ∙ ap (λ (p : ℕ). modify_at p 2 ((big 2).write v) s) there)) (stored_write n at fits s₀ bytes room form (left k) s h.stored (suc k) v below small)))

  -- w is the waiting set; r is what is written over it, and q over the board's own barring set
  pub lower_is : (w r q : ℕ) (s s₁ s₂ : List ℕ) → 1 ≤ i → i ≤ n → Lowering n at s₀ i n s → w ≡ (big 2).read (slice (at + waiting_offset) 2 s) → r ≡ remove w i → r < 65536 → q ≡ remove w i
      → s₁ ≡ modify_at (at + waiting_offset) 2 ((big 2).write r) s → s₂ ≡ modify_at (at + 2 * i) 2 ((big 2).write q) s₁ → s₂ ≡ put_claims n at (lowered c₀ i) s₀
  unfolding lowered
  lower_is w r q s s₁ s₂ low high h ew er small eq e₁ e₂ =
      let first : Stored n at s₀ (set (left n) 0 r) s₁ = subst (Stored n at s₀ (set (left n) 0 r)) (sym e₁) (stored_write n at fits s₀ bytes room form (left n) s h.stored 0 r (omega arith) small) in
      let rest : r ≡ remove (waiting c₀) i = er ∙ ap (λ (k : ℕ). remove k i) (ew ∙ stored_read n at fits s₀ bytes room form (left n) s h.stored 0 (omega arith)) in
      e₂ ∙ ap (λ (k : ℕ). modify_at (at + 2 * i) 2 ((big 2).write k) s₁) (eq ∙ sym er)
      ∙ ap (λ (k : ℕ). modify_at (at + k) 2 ((big 2).write r) s₁) (sym (set_offset_lem i low))
      ∙ (stored_write n at fits s₀ bytes room form (set (left n) 0 r) s₁ first i r high small).is
      ∙ (λ j. put_claims n at (set (rest j ∷ map_first_all (λ (x : ℕ). remove x i) n (drop 1 c₀) (le_of_eq (rest_length n c₀ (length_claims n at s₀))) j) i (rest j)) s₀)
      ∙ ap (λ (c : Claims). put_claims n at (set (map (λ (x : ℕ). remove x i) c) i (remove (waiting c₀) i)) s₀) (cons_back n c₀ (length_claims n at s₀))
