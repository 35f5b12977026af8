-- Twelve numbers tell a step where the kind and the numbers of its fields make up their sum: none of the step's numbers is above its own.
use mathlib.Core.Path.{◌≡◌, refl, sym, ap, ◌∙◌}
use Prim.Native.Nat.{ℕ, zero, suc, ◌+◌, ◌≤◌, ◌<◌}
use native.Mathlib.Nat.{add_assoc, add-zero}
use native.Mathlib.Omega.{arith}
use mathlib.Core.Bool.{Bool, true, ◌&&◌, cond, and_assoc}
use mathlib.Core.List.{List, [], ◌∷◌}
use lib.ListN.{length, get_or, take}
use lib.Seq.{get_or-take}
use lib.Dec.{eqb, ltb}
use borrow.Author.Tests.{eq-eqb, eqb-true, le-leb, lt-leb}
use Rattle.spec_base.specs.Folds.{All, all_below, sum, sum_below}
use Rattle.spec_base.proofs.Folds.{sum_same}
use Rattle.spec_base.proofs.Lists.{Each, each_at}
use Rattle.spec_base.proofs.Tests.{and_l, and_r, and_of, and_under, same_test, eqb_one}
use Rattle.spec_wire.specs.declared.Refusal.TheVariants.{Torn}
use Rattle.spec_wire.specs.declared.Field.{Field}
use Rattle.std.specs.Prelude.{Ok, Err}
use Rattle.spec_wire.specs.Kinds.{Kind, no_kind, kind_of, field_array, kind_in, value_of, in_bounds}
use Rattle.spec_wire.proofs.KindTable.{kind_elim, of_fit, tags_small, get_first}
use Rattle.wire_writer.specs.FieldSum.{fields_sum_to}
use Rattle.spec_wire.specs.FieldArray.{same, step_of_twelve, step_of_array}

-- ---- numbers that are none above others are the same where their sums are

module _ (f g : ℕ → ℕ) where
  sums_le : (n : ℕ) → ((i : ℕ) → i < n → f i ≤ g i) → sum_below n f ≤ sum_below n g
  unfolding sum_below
  sums_le zero h = omega arith
  sums_le (suc n) h = omega (arith, h n (omega arith), sums_le n (λ i l. h i (omega arith)))

  agree : (n : ℕ) → ((i : ℕ) → i < n → f i ≤ g i) → all_below n (λ i. eqb (f i) (g i)) ≡ eqb (sum_below n f) (sum_below n g)
  unfolding all_below sum_below
  agree zero h = refl
  agree (suc n) h = let rest = agree n less in same_test _ _ (there rest) (back rest)
    where
      less : (i : ℕ) → i < n → f i ≤ g i
      less i l = h i (omega arith)

      there : all_below n (λ i. eqb (f i) (g i)) ≡ eqb (sum_below n f) (sum_below n g)
          → (eqb (f n) (g n) && all_below n (λ i. eqb (f i) (g i))) ≡ true → eqb (f n + sum_below n f) (g n + sum_below n g) ≡ true
      there r e =
          eq-eqb (f n + sum_below n f) (g n + sum_below n g) (omega (arith, eqb-true (f n) (g n) (and_l _ _ e), eqb-true (sum_below n f) (sum_below n g) (sym r ∙ and_r (eqb (f n) (g n)) _ e)))

      back : all_below n (λ i. eqb (f i) (g i)) ≡ eqb (sum_below n f) (sum_below n g)
          → eqb (f n + sum_below n f) (g n + sum_below n g) ≡ true → (eqb (f n) (g n) && all_below n (λ i. eqb (f i) (g i))) ≡ true
      back r e =
          let sums = eqb-true (f n + sum_below n f) (g n + sum_below n g) e in
          and_of _ _ (eq-eqb (f n) (g n) (omega (arith, sums, h n (omega arith), sums_le n less)))
          (r ∙ eq-eqb (sum_below n f) (sum_below n g) (omega (arith, sums, h n (omega arith), sums_le n less)))

-- ---- the step that numbers tell has their sum where the other places are 0

module _ (p : List ℕ) where
  abbrev Sums : ℕ → Kind → Type 0
  Sums k x =
      kind_in p ≡ k → in_bounds x.fields p ≡ true → same (field_array (x.step p)) p ≡ eqb (k + sum (λ f. value_of f p) x.fields) (sum_below 12 (λ i. get_or p i 0))

  of_sums : (q : List ℕ) (n : ℕ) → Each (λ i. get_or q i 0 ≤ get_or p i 0) 12 × (sum_below 12 (λ i. get_or q i 0) ≡ n)
      → same q p ≡ eqb n (sum_below 12 (λ i. get_or p i 0))
  unfolding same
  of_sums q n h =
      agree (λ i. get_or q i 0) (λ i. get_or p i 0) 12 (λ i l. each_at (λ j. get_or q j 0 ≤ get_or p j 0) 0 12 h.0 i (omega arith) l)
      ∙ ap (λ (m : ℕ). eqb m (sum_below 12 (λ i. get_or p i 0))) h.1

  no_kind_fits : (k : ℕ) → Sums k no_kind
  no_kind_fits k e h = absurd (omega (arith, of_fit no_kind.fields p h))

  -- of a send, yes and no are 0 or 1
  send_sums : Sums 0x12 (kind_of 0x12)
  unfolding field_array kind_of sum_below
  send_sums e h =
      let small = (of_fit (kind_of 0x12).fields p h).1.1.1.1 in
      of_sums _ _ (omega (arith, e, eqb_one (get_or p 7 0) small.0, eqb_one (get_or p 8 0) small.1.0))

  same_sums : (k : ℕ) → Sums k (kind_of k)
  unfolding field_array kind_of sum_below
  same_sums = kind_elim Sums no_kind_fits (
    λ e h. of_sums _ _ (omega (arith, e)),
    (
      λ e h. of_sums _ _ (omega (arith, e)),
      (
        send_sums,
        (
          λ e h. of_sums _ _ (omega (arith, e)),
          (λ e h. of_sums _ _ (omega (arith, e)), (λ e h. of_sums _ _ (omega (arith, e)), (λ e h. of_sums _ _ (omega (arith, e)), tt))),
        ),
      ),
    ),
  )

-- ---- what the code decides

module _ (total : ℕ) where
  made_up : (fs : List Field) (n : ℕ) (p : List ℕ) → fields_sum_to fs n total p ≡ (in_bounds fs p && eqb (n + sum (λ f. value_of f p) fs) total)
  unfolding fields_sum_to in_bounds
  made_up [] n p = rw add-zero refl
  made_up (f ∷ fs) n p = rw (made_up fs (n + value_of f p) p, add_assoc n (value_of f p) (sum (λ f. value_of f p) fs)) (sym (and_assoc (ltb (value_of f p) f.limit) (in_bounds fs p) (eqb (n + sum (λ f. value_of f p) (f ∷ fs)) total)))

  first_made : (ns : List ℕ) (fs : List Field) → All (λ f. f.tag < 12) fs → (n : ℕ) → fields_sum_to fs n total ns ≡ fields_sum_to fs n total (take 12 ns)
  unfolding fields_sum_to
  first_made ns [] h n = refl
  first_made ns (f ∷ fs) h n = rw (← (first_made ns fs h.1 (n + value_of f (take 12 ns))), get_first ns f h.0)

module _ (ns : List ℕ) where
  pub few : length ns < 12 → Err Torn ≡ step_of_array ns
  unfolding step_of_array
  few h = rw (lt-leb 12 (length ns) h)

  pub tells : 12 ≤ length ns → (total : ℕ) → total ≡ sum_below 12 (λ i. get_or ns i 0) → (r : Bool) → r ≡ fields_sum_to (kind_of (kind_in ns)).fields (kind_in ns) total ns
      → cond r (Ok ((kind_of (kind_in ns)).step (take 12 ns))) (Err Torn) ≡ step_of_array ns
  unfolding step_of_array step_of_twelve
  tells long total sums r e = rw (le-leb 12 (length ns) long, e, decided, first)
    where
      fields : List Field
      fields = (kind_of (kind_in ns)).fields

      first : kind_in (take 12 ns) ≡ kind_in ns
      first = get_or-take 12 ns 0 0 (omega arith)

      summed : total ≡ sum_below 12 (λ i. get_or (take 12 ns) i 0)
      summed = sums ∙ sum_same (λ i. get_or ns i 0) (λ i. get_or (take 12 ns) i 0) 12 (λ i l. sym (get_or-take 12 ns i 0 l))

      test : Bool
      test = eqb (kind_in ns + sum (λ f. value_of f (take 12 ns)) fields) total

      agrees : Bool
      agrees = same (field_array ((kind_of (kind_in ns)).step (take 12 ns))) (take 12 ns)

      by_sums : in_bounds fields (take 12 ns) ≡ true → test ≡ agrees
      by_sums h = rw summed (sym (same_sums (take 12 ns) (kind_in ns) first h))

      decided : fields_sum_to fields (kind_in ns) total ns ≡ (in_bounds fields (take 12 ns) && agrees)
      decided =
          first_made total ns fields (tags_small (kind_in ns)) (kind_in ns) ∙ made_up total fields (kind_in ns) (take 12 ns)
          ∙ and_under (in_bounds fields (take 12 ns)) test agrees by_sums
