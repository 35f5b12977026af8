-- The claims in the record's bytes: a set is two bytes, at its own place.
use mathlib.Core.Path.{◌≡◌, refl, sym, ap, ◌∙◌, subst}
use mathlib.Core.Bool.{true, ◌&&◌}
use mathlib.Core.List.{List}
use Prim.Native.Nat.{ℕ, zero, suc, ◌+◌, ◌*◌, ◌-◌, ◌≤◌, ◌<◌}
use native.Mathlib.Nat.{le_refl}
use native.Mathlib.Omega.{arith}
use lib.Dec.{eqb}
use lib.ListN.{length, get_or, set}
use Rattle.spec_base.specs.Folds.{all_below}
use Rattle.spec_base.specs.Layout.{slice, big, pair, items, well_formed_items, zeroed}
use Rattle.spec_base.proofs.Tests.{and_true, and_known}
use Rattle.spec_base.proofs.Folds.{below_of}
use Rattle.spec_base.proofs.Parts.{part_part}
use Rattle.spec_base.proofs.Laws.{Lawful, big_lawful, pair_lawful, items_lawful, length_read_items}
use Rattle.spec_base.proofs.Places.{Place, within, first, second, item, formed_below}
use Rattle.spec_base.proofs.Forms.{formed_pair}
use Rattle.spec_base.proofs.Padded.{zeroed_lawful, padded_place, zeros_formed, formed_zeroed}
use Rattle.spec_base.proofs.Lanes.{place_iso}
use Rattle.spec_arbiter.specs.Boards.{board_room, empty}
use Rattle.spec_arbiter.specs.Claims.{waiting, barring}
use Rattle.spec_rack.specs.RecordLayout.{barring_sets, to_claims, from_claims, claims, set_offset, claims_at_offset, claims_size, waiting_offset}
use Rattle.spec_rack.proofs.LayoutParts.{claims_size_lem, sets_lawful}

-- ---- a set among the claims

abbrev pub set_lawful : Lawful (big 2) (λ v. v < 65536)
set_lawful = big_lawful 2

pub set_offset_lem : (i : ℕ) → 1 ≤ i → set_offset i ≡ 2 * i
set_offset_lem zero l = absurd (omega arith)
set_offset_lem (suc i) l = refl

module _ (n : ℕ) (fits : n < board_room) where
  few : n ≤ 15
  few = omega arith

  -- the waiting set, and the barring set of board suc i
  waiting_place : Place (claims n) (big 2) waiting_offset (λ c. waiting c) (λ v c. set c 0 v)
  unfolding claims barring_sets
  waiting_place =
      place_iso
      (within (second (zeroed 2) (pair (barring_sets n) (big 2)) (zeroed_lawful 2) (pair_lawful (barring_sets n) (big 2) (sets_lawful n few) set_lawful))
      (second (barring_sets n) (big 2) (sets_lawful n few) set_lawful))
      to_claims from_claims (λ c. waiting c) (λ v c. set c 0 v) (λ s. refl) (λ v s. refl)

  barring_place : (i : ℕ) → i < n → Place (claims n) (big 2) (2 * suc i) (λ c. barring c (suc i)) (λ v c. set c (suc i) v)
  unfolding claims barring_sets
  barring_place i l =
      subst (λ (p : ℕ). Place (claims n) (big 2) p (λ c. barring c (suc i)) (λ v c. set c (suc i) v)) (let e : 2 + (0 + (0 + i * 2)) ≡ 2 * suc i = omega arith in e)
      (place_iso
      (within (second (zeroed 2) (pair (barring_sets n) (big 2)) (zeroed_lawful 2) (pair_lawful (barring_sets n) (big 2) (sets_lawful n few) set_lawful))
      (within (first (barring_sets n) (big 2) (sets_lawful n few) set_lawful)
      (within (padded_place zeroed (λ k. refl) zeroed_lawful 30 (items (big 2) n n) (items_lawful (big 2) set_lawful n n (le_refl n)) (omega arith))
      (item (big 2) set_lawful empty n n i (le_refl n) l))))
      to_claims from_claims (λ c. barring c (suc i)) (λ v c. set c (suc i) v) (λ s. refl) (λ v s. refl))

  pub set_place : (i : ℕ) → i ≤ n → Place (claims n) (big 2) (set_offset i) (λ c. barring c i) (λ v c. set c i v)
  set_place zero l = waiting_place
  set_place (suc i) l = barring_place i l

  -- the set of number i at a place of the record
  pub set_is : (at i : ℕ) (s : List ℕ) → i ≤ n → (big 2).read (slice (at + set_offset i) 2 s) ≡ barring (claims_at_offset n at s) i
  set_is at i s l =
      let in34 : set_offset i + 2 ≤ claims_size = rw (claims_size_lem n) at (set_place i l).inside in
      ap (big 2).read (sym (part_part at claims_size (set_offset i) 2 s in34))
      ∙ sym ((set_place i l).looks (slice at claims_size s))

pub length_claims : (n at : ℕ) (s : List ℕ) → length (claims_at_offset n at s) ≡ suc n
unfolding claims barring_sets
length_claims n at s = ap suc (length_read_items (big 2) n _)

-- the waiting set, whatever the number of boards
pub waiting_is : (n at : ℕ) (s : List ℕ) → (big 2).read (slice (at + waiting_offset) 2 s) ≡ waiting (claims_at_offset n at s)
unfolding claims barring_sets
waiting_is n at s =
    ap (big 2).read
    (sym (part_part 2 32 30 2 (slice at claims_size s) (omega arith) ∙ part_part at claims_size waiting_offset 2 s (omega arith)))

-- the barring set of board i
pub barring_is : (n at i : ℕ) (s : List ℕ) → n < board_room → 1 ≤ i → i ≤ n → (big 2).read (slice (at + 2 * i) 2 s) ≡ barring (claims_at_offset n at s) i
barring_is n at i s fits low l = ap (λ (k : ℕ). (big 2).read (slice (at + k) 2 s)) (sym (set_offset_lem i low)) ∙ set_is n fits at i s l

-- the claims are of their form where the places without a set are 0
pub claims_formed : (n at : ℕ) (s : List ℕ) → n < board_room
    → (claims n).well_formed (slice at claims_size s) ≡ (all_below 2 (λ i. eqb (get_or s (at + i) 0) 0) && all_below (30 - n * 2) (λ i. eqb (get_or s (at + 2 + n * 2 + i) 0) 0))
unfolding claims barring_sets
claims_formed n at s fits =
    formed_pair (zeroed 2) (pair (barring_sets n) (big 2)) at s
    ∙ (λ i. zeros_formed 2 at s i && (formed_pair (barring_sets n) (big 2) (at + 2) s ∙ and_true ((barring_sets n).well_formed (slice (at + 2) 30 s)) ∙ formed_zeroed 30 (items (big 2) n n) (omega arith) (at + 2) s
    ∙ and_known (well_formed_items (big 2) n (slice (at + 2) (n * 2) s)) (all_below (30 - n * 2) (λ j. eqb (get_or s (at + 2 + n * 2 + j) 0) 0)) (sets_formed n (slice (at + 2) (n * 2) s))) i)
  where
    sets_formed : (k : ℕ) (t : List ℕ) → well_formed_items (big 2) k t ≡ true
    sets_formed k t = formed_below (big 2) k t ∙ below_of (λ i. true) k (λ i l. refl)
