-- A list of which the first elements have been replaced by what a function makes of them: a loop's way to `map`.
use mathlib.Core.Path.{◌≡◌, refl, sym, ap, ◌∙◌}
use mathlib.Core.List.{List, [], ◌∷◌, map}
use Prim.Native.Nat.{ℕ, zero, suc, ◌+◌, ◌<◌, ◌≤◌}
use native.Mathlib.Nat.{le_of_suc-le-suc}
use native.Mathlib.Numerals.{add-one}
use native.Mathlib.Omega.{arith}
use lib.ListN.{length, get_or, set}

module _ {A : Type 0} (f : A → A) where
  -- f at the first n elements of l
  unfoldable pub map_first : ℕ → List A → List A
  map_first zero l = l
  map_first (suc n) [] = []
  map_first (suc n) (x ∷ xs) = f x ∷ map_first n xs

  pub map_first_none : (l : List A) → map_first 0 l ≡ l
  unfolding map_first
  map_first_none l = refl

  pub map_first_all : (n : ℕ) (l : List A) → length l ≤ n → map_first n l ≡ map f l
  unfolding map_first
  map_first_all zero [] h = refl
  map_first_all zero (x ∷ xs) h = absurd (omega arith)
  map_first_all (suc n) [] h = refl
  map_first_all (suc n) (x ∷ xs) h = ap {B = List A} (λ r. f x ∷ r) (map_first_all n xs (le_of_suc-le-suc h))

  -- the elements from n on are as they were
  pub get_d_map_first : (n i : ℕ) (l : List A) (d : A) → n ≤ i → get_or (map_first n l) i d ≡ get_or l i d
  unfolding map_first
  get_d_map_first zero i l d h = refl
  get_d_map_first (suc n) i [] d h = refl
  get_d_map_first (suc n) zero (x ∷ xs) d h = absurd (omega arith)
  get_d_map_first (suc n) (suc i) (x ∷ xs) d h = get_d_map_first n i xs d (le_of_suc-le-suc h)

  more : (n : ℕ) (l : List A) (d : A) → n < length l → set (map_first n l) n (f (get_or l n d)) ≡ map_first (suc n) l
  unfolding map_first
  more n [] d h = absurd (omega arith)
  more zero (x ∷ xs) d h = refl
  more (suc n) (x ∷ xs) d h = ap {B = List A} (λ r. f x ∷ r) (more n xs d (le_of_suc-le-suc h))

  -- one element more
  pub map_first_more : (n : ℕ) (l : List A) (d : A) → n < length l → set (map_first n l) n (f (get_or (map_first n l) n d)) ≡ map_first (n + 1) l
  map_first_more n l d h =
      ap (λ (x : A). set (map_first n l) n (f x)) (get_d_map_first n n l d (omega arith))
      ∙ more n l d h ∙ ap (λ (k : ℕ). map_first k l) (sym (add-one n))
