-- Laws of tests, each by the cases of its Bools.
use mathlib.Core.Path.{◌≡◌, refl, sym, ap}
use mathlib.Core.Logic.{◌⊎◌, inl, inr}
use mathlib.Core.Bool.{Bool, true, false, not, cond, ◌&&◌, ◌||◌}
use Prim.Native.Nat.{ℕ, zero, suc, ◌≤◌, ◌<◌}
use native.Mathlib.Decide.{ℕ_discrete, dec_lt}
use native.Mathlib.Omega.{arith}
use lib.Dec.{eqb}
use Rattle.spec_base.specs.Folds.{toℕ, implies}

-- a test passes or fails, and which is known
pub either : (t : Bool) → (t ≡ true) ⊎ (t ≡ false)
either true = inl refl
either false = inr refl

pub differs : {A : Type 0} → true ≡ false → A
differs e = let z : ◌≡◌ {A = ℕ} 0 1 = cc in absurd (omega arith)

-- two numbers are equal or not, and one is below the other or not
pub same_or_not : (i j : ℕ) → (i ≡ j) ⊎ (i ≡ j → ⊥)
same_or_not i j = pick (ℕ_discrete i j)
  where
    pick : Dec (i ≡ j) → (i ≡ j) ⊎ (i ≡ j → ⊥)
    pick (yes e) = inl e
    pick (no f) = inr f

pub lt_or_le : (a b : ℕ) → (a < b) ⊎ (b ≤ a)
lt_or_le a b = pick (dec_lt a b)
  where
    pick : Dec (a < b) → (a < b) ⊎ (b ≤ a)
    pick (yes l) = inl l
    pick (no f) = inr (omega arith)

-- ---- and

pub and_l : (a b : Bool) → (a && b) ≡ true → a ≡ true
and_l true b h = refl
and_l false b h = h

pub and_r : (a b : Bool) → (a && b) ≡ true → b ≡ true
and_r true b h = h
and_r false b h = differs (sym h)

pub and_of : (a b : Bool) → a ≡ true → b ≡ true → (a && b) ≡ true
and_of true b h k = k
and_of false b h k = h

-- a part that fails fails the whole
pub and_left : (a b : Bool) → a ≡ false → (a && b) ≡ false
and_left true b e = differs e
and_left false b e = refl

pub and_right : (a b : Bool) → b ≡ false → (a && b) ≡ false
and_right true b e = e
and_right false b e = refl

pub and_true : (a : Bool) → (a && true) ≡ a
and_true true = refl
and_true false = refl

-- what stands behind a test may use that it passed
pub and_under : (a b c : Bool) → (a ≡ true → b ≡ c) → (a && b) ≡ (a && c)
and_under true b c f = f refl
and_under false b c f = refl

pub and_known : (a b : Bool) → a ≡ true → (a && b) ≡ b
and_known a b e = ap (λ (t : Bool). t && b) e

-- ---- or

pub or_l : (a b : Bool) → (a || b) ≡ false → a ≡ false
or_l true b h = h
or_l false b h = refl

pub or_r : (a b : Bool) → (a || b) ≡ false → b ≡ false
or_r true b h = differs h
or_r false b h = h

pub or_left : (a b : Bool) → a ≡ true → (a || b) ≡ true
or_left true b e = refl
or_left false b e = differs (sym e)

pub or_right : (a b : Bool) → b ≡ true → (a || b) ≡ true
or_right true b e = refl
or_right false b e = e

pub or_none : (a b : Bool) → a ≡ false → b ≡ false → (a || b) ≡ false
or_none true b e h = e
or_none false b e h = h

-- ---- not

pub not_of_false : (a : Bool) → a ≡ false → not a ≡ true
not_of_false true e = differs e
not_of_false false e = refl

pub not_of_true : (a : Bool) → a ≡ true → not a ≡ false
not_of_true true e = refl
not_of_true false e = differs (sym e)

-- ---- implies

pub implied : (a b : Bool) → implies a b ≡ true → a ≡ true → b ≡ true
implied true b h e = h
implied false b h e = differs (sym e)

pub implies_of : (a b : Bool) → (a ≡ true → b ≡ true) → implies a b ≡ true
implies_of true b f = f refl
implies_of false b f = refl

-- two tests that pass in the same cases are the same
pub same_test : (a b : Bool) → (a ≡ true → b ≡ true) → (b ≡ true → a ≡ true) → a ≡ b
same_test true b f g = sym (f refl)
same_test false true f g = g refl
same_test false false f g = refl

-- a property of both choices is one of the chosen
pub cond_of : {A : Type 0} (P : A → Type 0) (t : Bool) (a b : A) → P a → P b → P (cond t a b)
cond_of P true a b pa pb = pa
cond_of P false a b pa pb = pb

pub or_keeps : (a b x y : Bool) → (a ≡ true → x ≡ true) → (b ≡ true → y ≡ true) → (a || b) ≡ true → (x || y) ≡ true
or_keeps a b true y f g h = refl
or_keeps true b false y f g h = differs (sym (f refl))
or_keeps false b false y f g h = g h

-- "yes, and not .." fails
pub and_not : (a b : Bool) → (a && not b) ≡ false → a ≡ true → b ≡ true
and_not true true h e = refl
and_not true false h e = sym h
and_not false b h e = differs (sym e)

-- ---- the number of a test

pub one_lt : (t : Bool) → toℕ t < 2
one_lt true = omega arith
one_lt false = omega arith

pub one_eqb : (t : Bool) → eqb (toℕ t) 1 ≡ t
one_eqb true = refl
one_eqb false = refl

pub eqb_one : (n : ℕ) → n < 2 → toℕ (eqb n 1) ≡ n
eqb_one zero l = refl
eqb_one (suc zero) l = refl
eqb_one (suc (suc n)) l = absurd (omega arith)
