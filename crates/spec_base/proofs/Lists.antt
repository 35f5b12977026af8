-- Laws of lists, and of what holds of each number in a range: by induction on the list or the count.
use mathlib.Core.Path.{◌≡◌}
use Prim.Native.Nat.{ℕ, zero, suc, ◌+◌, ◌-◌, ◌≤◌, ◌<◌}
use native.Mathlib.Numerals.{add-one}
use native.Mathlib.Omega.{arith}
use native.Mathlib.Decide.{ℕ_discrete}
use mathlib.Core.List.{List, ◌∷◌, map}
use lib.ListN.{length, take, drop, get_or, length-drop}
use lib.Seq.{drop-cons, take_all}

-- what holds of each number below n, one by one
abbrev pub Each : (ℕ → Type 0) → ℕ → Type 0
Each P zero = Unit
Each P (suc n) = Each P n × P n

-- what holds of lo and the n - 1 numbers after it holds of each number in that range
pub each_at : (P : ℕ → Type 0) (lo n : ℕ) → Each (λ k. P (lo + k)) n → (t : ℕ) → lo ≤ t → t < lo + n → P t
each_at P lo zero e t h k = absurd (omega arith)
each_at P lo (suc n) e t h k = last (λ (m : t < lo + n). each_at P lo n e.0 t h m) (ℕ_discrete t (lo + n))
  where
    last : (t < lo + n → P t) → Dec (t ≡ lo + n) → P t
    last f (yes q) = rw q e.1
    last f (no q) = f (omega (arith, q))

-- one element more of a list that is mapped
pub map_next {ℓ} : {A : Type ℓ} (f : ℕ → A) (xs : List ℕ) (i : ℕ) → i < length xs → map f (drop i xs) ≡ f (get_or xs i 0) ∷ map f (drop (i + 1) xs)
map_next f xs i h = rw (add-one, drop-cons xs i 0)

-- the whole of a list from a place on, as a part of it is taken
pub rest_all {ℓ} : {A : Type ℓ} (xs : List A) (at : ℕ) → take (length xs - at) (drop at xs) ≡ drop at xs
rest_all xs at = take_all (length xs - at) (drop at xs) (omega (arith, length-drop at xs))
