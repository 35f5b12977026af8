-- Laws of layouts at a place of a longer list: a pair and items are of their form where each part is, at its own place,
-- and numbers are all 0 where all their bytes are.
use Prim.Native.Nat.{ℕ, zero, suc, ◌+◌, ◌*◌, ◌-◌, ◌≤◌, ◌<◌}
use native.Mathlib.Nat.{le_refl, le_trans, mul-le-mul_right, mul_comm, not-suc-le-zero}
use native.Mathlib.Omega.{arith}
use mathlib.Core.Path.{◌≡◌, refl, sym, ap, ◌∙◌, subst}
use mathlib.Core.Logic.{⊎_elim}
use mathlib.Core.Bool.{◌&&◌}
use mathlib.Core.List.{List, [], ◌∷◌}
use lib.ListN.{get_or, take, drop}
use lib.Seq.{take-take, get_or-drop}
use lib.Dec.{eqb}
use borrow.Author.Tests.{eq-eqb, eqb-true}
use Rattle.spec_base.specs.Folds.{all_below, all, All}
use Rattle.spec_base.proofs.Tests.{lt_or_le, same_test}
use Rattle.spec_base.proofs.Folds.{below_at, below_of, below_same, all_every, every_all}
use Rattle.spec_base.specs.Number.{number_from}
use Rattle.spec_base.specs.Layout.{Layout, slice, big, pair, read_items, well_formed_items}
use Rattle.spec_base.proofs.Parts.{part_part}
use Rattle.spec_base.proofs.Places.{formed_below}

-- ---- the form of two values and of items

module _ {A B : Type 0} (L : Layout A) (M : Layout B) (p : ℕ) (s : List ℕ) where
  pub formed_pair : (pair L M).well_formed (slice p (L.size + M.size) s) ≡ (L.well_formed (slice p L.size s) && M.well_formed (slice (p + L.size) M.size s))
  formed_pair = λ i.
      L.well_formed (take-take L.size (L.size + M.size) (drop p s) (omega arith) i)
      && M.well_formed (part_part p (L.size + M.size) L.size M.size s (le_refl (L.size + M.size)) i)

-- items of z bytes
pub formed_items : {A : Type 0} (L : Layout A) (z : ℕ) → L.size ≡ z → (room n p : ℕ) (s : List ℕ) → n ≤ room
    → well_formed_items L n (slice p (room * L.size) s) ≡ all_below n (λ i. L.well_formed (slice (p + z * i) z s))
formed_items L z e room n p s h =
    formed_below L n (slice p (room * L.size) s)
    ∙ below_same (λ i. L.well_formed (slice (i * L.size) L.size (slice p (room * L.size) s))) (λ i. L.well_formed (slice (p + z * i) z s)) n
    (λ i l.
    let q : suc i * L.size ≤ room * L.size = mul-le-mul_right L.size (le_trans l h) in
    ap L.well_formed (part_part p (room * L.size) (i * L.size) L.size s (omega arith))
    ∙ (λ j. L.well_formed (slice (p + i * e j) (e j) s))
    ∙ ap (λ (k : ℕ). L.well_formed (slice (p + k) z s)) (mul_comm i z))

-- ---- numbers that are 0

-- the first n bytes are 0
abbrev Clear : ℕ → List ℕ → Type 0
Clear n s = (i : ℕ) → i < n → get_or s i 0 ≡ 0

clear_of : (k a : ℕ) (s : List ℕ) → number_from a (take k s) ≡ 0 → (a ≡ 0) × Clear k s
clear_of zero a s h = (h, λ i l. absurd (not-suc-le-zero l))
clear_of (suc k) a [] h = (h, λ i l. refl)
clear_of (suc k) a (b ∷ s) h = let r = clear_of k (a * 256 + b) s h in (omega (arith, r.0), each r.0 r.1)
  where
    each : a * 256 + b ≡ 0 → Clear k s → Clear (suc k) (b ∷ s)
    each e f zero l = omega arith
    each e f (suc i) l = f i (omega arith)

of_clear : (k : ℕ) (s : List ℕ) → Clear k s → number_from 0 (take k s) ≡ 0
of_clear zero s h = refl
of_clear (suc k) [] h = refl
of_clear (suc k) (b ∷ s) h = ap (λ (n : ℕ). number_from (0 * 256 + n) (take k s)) (h 0 (omega arith)) ∙ of_clear k s (λ i l. h (suc i) (omega arith))

-- n numbers of k bytes
module _ (k : ℕ) where
  numbers_clear : (n : ℕ) (s : List ℕ) → All (λ v. v ≡ 0) (read_items (big k) n s) → Clear (n * k) s
  numbers_clear zero s h i l = absurd (omega arith)
  numbers_clear (suc n) s h i l =
      ⊎_elim (λ (a : i < k). (clear_of k 0 s (subst (λ (t : List ℕ). number_from 0 t ≡ 0) (take-take k k s (le_refl k)) h.0)).1 i a)
      (λ (a : k ≤ i).
      let e : k + (i - k) ≡ i = omega arith in
      subst (λ (j : ℕ). get_or s j 0 ≡ 0) e (sym (get_or-drop k s (i - k) 0) ∙ numbers_clear n (drop k s) h.1 (i - k) (omega arith)))
      (lt_or_le i k)

  clear_numbers : (n : ℕ) (s : List ℕ) → Clear (n * k) s → All (λ v. v ≡ 0) (read_items (big k) n s)
  clear_numbers zero s h = tt
  clear_numbers (suc n) s h = (
    ap (number_from 0) (take-take k k s (le_refl k)) ∙ of_clear k s (λ i l. h i (omega arith)),
    clear_numbers n (drop k s) (λ i l. get_or-drop k s i 0 ∙ h (k + i) (omega arith)),
  )

  pub numbers_zero : (n : ℕ) (s : List ℕ) → all (eqb 0) (read_items (big k) n s) ≡ all_below (n * k) (λ i. eqb (get_or s i 0) 0)
  numbers_zero n s =
      same_test (all (eqb 0) (read_items (big k) n s)) (all_below (n * k) (λ i. eqb (get_or s i 0) 0))
      (λ h. below_of (λ i. eqb (get_or s i 0) 0) (n * k) (λ i l. eq-eqb (get_or s i 0) 0
      (numbers_clear n s (all_every (λ v. v ≡ 0) (eqb 0) (read_items (big k) n s) (λ v e. sym (eqb-true 0 v e)) h) i l)))
      (λ h. every_all (λ v. v ≡ 0) (eqb 0) (read_items (big k) n s) (λ v e. eq-eqb 0 v (sym e))
      (clear_numbers n s (λ i l. eqb-true (get_or s i 0) 0 (below_at (λ j. eqb (get_or s j 0) 0) (n * k) h i l))))
