-- The tests of the code decide whether claims are sound: a barring set within a waiting set of boards has boards only,
-- and where no board is barred the waiting set decides.
use mathlib.Core.Path.{◌≡◌, refl, sym, ap, ◌∙◌}
use mathlib.Core.Bool.{Bool, true, false, ◌&&◌}
use mathlib.Core.List.{List}
use Prim.Native.Nat.{ℕ, zero, suc, ◌+◌, ◌*◌, ◌-◌, ◌^◌, ◌≤◌, ◌<◌}
use native.Mathlib.Omega.{arith}
use borrow.Author.Tests.{eq-eqb, eqb-true}
use lib.Dec.{eqb}
use lib.ListN.{length, get_or}
use Rattle.spec_base.specs.Folds.{all_below, implies}
use Rattle.spec_base.specs.Layout.{slice}
use Rattle.spec_base.proofs.Tests.{same_test, and_l, and_r, and_of, and_left, and_right, and_true, implies_of}
use Rattle.spec_base.proofs.Folds.{below_at, below_of, below_fails}
use Rattle.spec_arbiter.specs.Boards.{board_room, member, empty, subset, boards_only}
use Rattle.spec_arbiter.specs.Claims.{Claims, waiting, barring, sound_barring, sound_claims}
use Rattle.spec_rack.specs.RecordLayout.{claims, claims_at_offset, claims_size, waiting_offset}
use Rattle.spec_arbiter.proofs.Boards.{subset_empty, boards_empty, boards_subset}
use Rattle.arbiter.proofs.SetBytes.{length_claims, barring_is, claims_formed}
use Rattle.spec_base.proofs.WordBytes.{read_two}

-- b is the barring set of board i, and w the waiting set
pub bars_waiting : (w i b : ℕ) → member w i ≡ true → (subset b w && implies (member w i) (eqb b empty)) ≡ eqb b empty
bars_waiting w i b m =
    rw m
    (same_test (subset b w && eqb b empty) (eqb b empty) (and_r (subset b w) (eqb b empty))
    (λ e. and_of (subset b w) (eqb b empty) (rw (eqb-true b empty e) (subset_empty w)) e))

pub bars_none : (w i b : ℕ) → b ≡ 0 → (subset b w && implies (member w i) (eqb b empty)) ≡ true
bars_none w i b e =
    and_of (subset b w) (implies (member w i) (eqb b empty)) (ap (λ (x : ℕ). subset x w) e ∙ subset_empty w) (implies_of (member w i) (eqb b empty) (λ m. eq-eqb b empty e))

pub bars_idle : (w i b : ℕ) → member w i ≡ false → (subset b w && implies (member w i) (eqb b empty)) ≡ subset b w
bars_idle w i b m = rw m (and_true (subset b w))

-- a barring set within a waiting set of boards has boards only
barring_same : (n : ℕ) (c : Claims) (i : ℕ) → boards_only n (waiting c) ≡ true → barring c i < 2 ^ board_room
    → (subset (barring c i) (waiting c) && implies (member (waiting c) i) (eqb (barring c i) empty)) ≡ sound_barring n c i
unfolding sound_barring
barring_same n c i w small =
    same_test (inside && none) (boards && inside && none)
    (λ h. let p : inside ≡ true = and_l inside none h in
    and_of (boards && inside) none (and_of boards inside (boards_subset n (barring c i) (waiting c) small p w) p) (and_r inside none h))
    (λ h. and_of inside none (search (and_l, and_r)) (search (and_l, and_r)))
  where
    boards : Bool
    boards = boards_only n (barring c i)

    inside : Bool
    inside = subset (barring c i) (waiting c)

    none : Bool
    none = implies (member (waiting c) i) (eqb (barring c i) empty)

module _ (n : ℕ) (c : Claims) where
  -- s is the barring set of board i as it was read, w the waiting set, and t the test of s
  pub barring_test : (i w s : ℕ) (t : Bool) → boards_only n w ≡ true → s < 2 ^ board_room → w ≡ waiting c → s ≡ barring c i
      → t ≡ (subset s w && implies (member w i) (eqb s empty)) → t ≡ sound_barring n c i
  barring_test i w s t boards small ew es et = et ∙ rw (ew, es) (barring_same n c i (rw ew at boards) (rw es at small))

  -- a barring set that fails its test
  pub sound_fails : (i : ℕ) → 1 ≤ i → i ≤ n → sound_barring n c i ≡ false → false ≡ sound_claims n c
  unfolding sound_claims
  sound_fails zero low l e = absurd (omega arith)
  sound_fails (suc k) low l e =
      sym (and_right (eqb (length c) (suc n) && boards_only n (waiting c)) _ (below_fails (λ i. sound_barring n c (suc i)) n k (omega arith) e))

  pub sound_boards : boards_only n (waiting c) ≡ false → false ≡ sound_claims n c
  unfolding sound_claims
  sound_boards h = sym (and_left (eqb (length c) (suc n) && boards_only n (waiting c)) _ (and_right (eqb (length c) (suc n)) (boards_only n (waiting c)) h))

  pub sound_all : length c ≡ suc n → boards_only n (waiting c) ≡ true → ((i : ℕ) → i < n + 1 → 1 ≤ i → sound_barring n c i ≡ true) → true ≡ sound_claims n c
  unfolding sound_claims
  sound_all l h each = rw (h, eq-eqb (length c) (suc n) l) (sym (below_of (λ i. sound_barring n c (suc i)) n (λ i k. each (suc i) (omega arith) (omega arith))))

-- where the bytes of the barring sets are all 0 the claims are of their form, no board is barred, and the waiting set decides
module _ (n at : ℕ) (s : List ℕ) (fits : n < board_room) (room : at + claims_size ≤ length s) (h : all_below waiting_offset (λ i. eqb (get_or s (at + i) 0) 0) ≡ true) where
  zero_at : (k : ℕ) → k < waiting_offset → get_or s (at + k) 0 ≡ 0
  zero_at k l = eqb-true _ _ (below_at (λ i. eqb (get_or s (at + i) 0) 0) waiting_offset h k l)

  none : (i : ℕ) → i < n → barring (claims_at_offset n at s) (suc i) ≡ empty
  none i l =
      let high : get_or s (at + 2 * suc i) 0 ≡ 0 = zero_at (2 * suc i) (omega (arith, fits)) in
      let low : get_or s (at + 2 * suc i + 1) 0 ≡ 0 = ap (λ (k : ℕ). get_or s k 0) (let e : at + 2 * suc i + 1 ≡ at + (2 * suc i + 1) = omega arith in e) ∙ zero_at (2 * suc i + 1) (omega (arith, fits)) in
      sym (barring_is n at (suc i) s fits (omega arith) (omega arith)) ∙ read_two (at + 2 * suc i) s (omega (arith, fits)) ∙ omega (arith, low, high)

  free : (i : ℕ) → i < n → sound_barring n (claims_at_offset n at s) (suc i) ≡ true
  unfolding sound_barring
  free i l = rw (none i l, boards_empty n, subset_empty (waiting (claims_at_offset n at s))) (implies_of (member (waiting (claims_at_offset n at s)) (suc i)) true (λ e. refl))

  well_formed : (claims n).well_formed (slice at claims_size s) ≡ true
  well_formed =
      claims_formed n at s fits
      ∙ and_of (all_below 2 (λ i. eqb (get_or s (at + i) 0) 0)) (all_below (30 - n * 2) (λ i. eqb (get_or s (at + 2 + n * 2 + i) 0) 0))
      (below_of (λ i. eqb (get_or s (at + i) 0) 0) 2 (λ i l. eq-eqb (get_or s (at + i) 0) 0 (zero_at i (omega arith))))
      (below_of (λ i. eqb (get_or s (at + 2 + n * 2 + i) 0) 0) (30 - n * 2)
      (λ i l. eq-eqb (get_or s (at + 2 + n * 2 + i) 0) 0
      (ap (λ (k : ℕ). get_or s k 0) (let e : at + 2 + n * 2 + i ≡ at + (2 + n * 2 + i) = omega arith in e) ∙ zero_at (2 + n * 2 + i) (omega arith))))

  pub unbarred : boards_only n (waiting (claims_at_offset n at s)) ≡ ((claims n).well_formed (slice at claims_size s) && sound_claims n (claims_at_offset n at s))
  unfolding sound_claims
  unbarred =
      rw (well_formed, eq-eqb (length (claims_at_offset n at s)) (suc n) (length_claims n at s), below_of (λ i. sound_barring n (claims_at_offset n at s) (suc i)) n free)
      (sym (and_true (boards_only n (waiting (claims_at_offset n at s)))))

-- claims in which another number than a board waits are not sound
pub others_wait : (n at : ℕ) (s : List ℕ) → boards_only n (waiting (claims_at_offset n at s)) ≡ false → ((claims n).well_formed (slice at claims_size s) && sound_claims n (claims_at_offset n at s)) ≡ false
others_wait n at s h = and_right ((claims n).well_formed (slice at claims_size s)) (sound_claims n (claims_at_offset n at s)) (sym (sound_boards n (claims_at_offset n at s) h))
