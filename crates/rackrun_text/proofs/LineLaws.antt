-- Laws of numbers in a line, digit by digit from the first on: what stands of a number before its last digits, and then one more.
use Prim.Native.Nat.{ℕ, zero, suc, ◌+◌, ◌-◌, ◌*◌, ◌/◌, ◌%◌, ◌^◌, ◌≤◌, ◌<◌}
use native.Mathlib.Numerals.{sub-one}
use native.Mathlib.Nat.{pow-suc}
use Rattle.std.proofs.lemmas.Nat.{pow-add}
use Rattle.std.proofs.Math.Nat.{div-div-eq-div-mul}
use native.Mathlib.Decide.{dec_le}
use native.Mathlib.Omega.{arith}
use mathlib.Core.Path.{◌≡◌, refl, sym, ap, ◌∙◌}
use mathlib.Core.Bool.{Bool, cond}
use mathlib.Core.List.{List, [], ◌∷◌, ◌++◌, append_assoc, append-nil}
use lib.Dec.{ltb}
use borrow.Author.Tests.{lt-ltb, le-ltb}
use Rattle.spec_rackrun.specs.Rackrun.{digit, digits, decimal}

pub digits_none : (b k n : ℕ) → k ≤ 0 → digits b k n ≡ []
unfolding digits
digits_none b zero n l = refl
digits_none b (suc k) n l = absurd (omega arith)

pub digits_more : (b k n : ℕ) → 0 < k → digits b k n ≡ digits b (k - 1) (n / b) ++ digit (n % b) ∷ []
unfolding digits
digits_more b zero n l = absurd (omega arith)
digits_more b (suc k) n l = rw (sub-one (suc k)) refl

pub decimal_last : (k n : ℕ) → k ≤ 0 → decimal k n ≡ digit (n % 10) ∷ []
unfolding decimal
decimal_last zero n l = refl
decimal_last (suc k) n l = absurd (omega arith)

pub decimal_first : (k n : ℕ) → n < 10 → decimal k n ≡ digit (n % 10) ∷ []
unfolding decimal
decimal_first zero n l = refl
decimal_first (suc k) n l =
    ap (λ (t : Bool). cond t (digit n ∷ []) (decimal k (n / 10) ++ digit (n % 10) ∷ [])) (lt-ltb n 10 l)
    ∙ ap (λ (m : ℕ). digit m ∷ []) (let e : n ≡ n % 10 = omega arith in e)

pub decimal_more : (k n : ℕ) → 0 < k → 10 ≤ n → decimal k n ≡ decimal (k - 1) (n / 10) ++ digit (n % 10) ∷ []
unfolding decimal
decimal_more zero n l h = absurd (omega arith)
decimal_more (suc k) n l h =
    rw (sub-one (suc k))
    (ap (λ (t : Bool). cond t (digit n ∷ []) (decimal k (n / 10) ++ digit (n % 10) ∷ [])) (le-ltb n 10 h))

-- a number of at most k + 1 digits
abbrev AtMost : ℕ → ℕ → Type 0
AtMost zero n = n < 10
AtMost (suc k) n = AtMost k (n / 10)

-- room for one digit more changes nothing
decimal_wider : (k n : ℕ) → AtMost k n → decimal k n ≡ decimal (suc k) n
unfolding decimal
decimal_wider zero n l = sym (decimal_first 1 n l)
decimal_wider (suc k) n l = ap (λ (m : List ℕ). cond (ltb n 10) (digit n ∷ []) (m ++ digit (n % 10) ∷ [])) (decimal_wider k (n / 10) l)

-- ---- from the first digit on

-- what stands of a number of at most d digits: nothing where it is 0
unfoldable pub front : ℕ → ℕ → List ℕ
front zero m = []
front (suc d) zero = []
front (suc d) (suc m) = decimal d (suc m)

pub front_none : (d m : ℕ) → m ≡ 0 → front d m ≡ []
unfolding front
front_none zero m e = refl
front_none (suc d) m e = ap (front (suc d)) e

-- before the first digit nothing stands
pub decimal_starts : (s : List ℕ) (d m : ℕ) → d ≡ 0 → s ≡ s ++ front d m
unfolding front
decimal_starts s d m e = sym (ap (λ (k : ℕ). s ++ front k m) e ∙ append-nil s)

pub hexadecimal_starts : (s : List ℕ) (d m : ℕ) → d ≡ 0 → s ≡ s ++ digits 16 d m
unfolding digits
hexadecimal_starts s d m e = sym (ap (λ (k : ℕ). s ++ digits 16 k m) e ∙ append-nil s)

front_whole : (d m : ℕ) → 0 < m → front (suc d) m ≡ decimal d m
unfolding front
front_whole d zero h = absurd (omega arith)
front_whole d (suc m) h = refl

-- a number in decimal: what stands before its last digit, and the last
pub decimal_front : (d n : ℕ) → decimal d n ≡ front d (n / 10) ++ digit (n % 10) ∷ []
unfolding decimal front
decimal_front zero n = refl
decimal_front (suc d) n = by (dec_le 10 n)
  where
    by : Dec (10 ≤ n) → decimal (suc d) n ≡ front (suc d) (n / 10) ++ digit (n % 10) ∷ []
    by (yes h) =
        ap (λ (t : Bool). cond t (digit n ∷ []) (decimal d (n / 10) ++ digit (n % 10) ∷ [])) (le-ltb n 10 h)
        ∙ ap (λ (l : List ℕ). l ++ digit (n % 10) ∷ []) (sym (front_whole d (n / 10) (omega (arith, h))))
    by (no h) =
        decimal_first (suc d) n (omega (arith, h))
        ∙ ap (λ (l : List ℕ). l ++ digit (n % 10) ∷ []) (sym (front_none (suc d) (n / 10) (omega (arith, h))))

-- one digit more
front_more : (d m : ℕ) → 0 < m → front (suc d) m ≡ front d (m / 10) ++ digit (m % 10) ∷ []
front_more d m h = front_whole d m h ∙ decimal_front d m

-- ---- weights: what a number has from the digit of weight b ^ k on is n / b ^ k

next_weight : (b n j : ℕ) → n / b ^ suc j ≡ n / b ^ j / b
next_weight b n j = ap (λ (w : ℕ). n / w) (pow-suc b j) ∙ sym (div-div-eq-div-mul n (b ^ j) b)

-- four places of a shift are one hexadecimal digit
shifted : (j : ℕ) → 2 ^ (4 * j) ≡ 16 ^ j
shifted zero = refl
shifted (suc j) =
    ap (λ (k : ℕ). 2 ^ k) (let four : 4 * suc j ≡ 4 * j + 4 = omega arith in four)
    ∙ pow-add 2 (4 * j) 4
    ∙ ap (λ (w : ℕ). w * 16) (shifted j)
    ∙ sym (pow-suc 16 j)

module _ (n k : ℕ) (s items items' : List ℕ) where
  module _ (most p : ℕ) (low : 1 < k) (high : k ≤ most + 1) (weight : p ≡ 10 ^ (k - 1)) (stands : items ≡ s ++ front (most + 1 - k) (n / 10 ^ k)) where
    -- a digit of a weight below, where the number reaches to it
    pub decimal_goes : 0 < n / p → items' ≡ items ++ digit (n / p % 10) ∷ [] → items' ≡ s ++ front (most + 1 - (k - 1)) (n / 10 ^ (k - 1))
    decimal_goes some pushed =
        let k_is : k ≡ suc (k - 1) = omega (arith, low) in
        let next : n / 10 ^ k ≡ n / p / 10 = ap (λ (j : ℕ). n / 10 ^ j) k_is ∙ next_weight 10 n (k - 1) ∙ ap (λ (w : ℕ). n / w / 10) (sym weight) in
        let more : suc (most + 1 - k) ≡ most + 1 - (k - 1) = omega (arith, low, high) in
        pushed
        ∙ ap (λ (l : List ℕ). l ++ digit (n / p % 10) ∷ []) stands
        ∙ append_assoc s (front (most + 1 - k) (n / 10 ^ k)) (digit (n / p % 10) ∷ [])
        ∙ ap (λ (m : ℕ). s ++ (front (most + 1 - k) m ++ digit (n / p % 10) ∷ [])) next
        ∙ ap (λ (l : List ℕ). s ++ l) (sym (front_more (most + 1 - k) (n / p) some))
        ∙ (λ i. s ++ front (more i) (n / weight i))

    -- and none where it does not
    pub decimal_waits : n / p ≤ 0 → items ≡ s ++ front (most + 1 - (k - 1)) (n / 10 ^ (k - 1))
    decimal_waits none =
        let k_is : k ≡ suc (k - 1) = omega (arith, low) in
        let zero_is : n / p ≡ 0 = omega (arith, none) in
        let next : n / 10 ^ k ≡ 0 = ap (λ (j : ℕ). n / 10 ^ j) k_is ∙ next_weight 10 n (k - 1) ∙ ap (λ (w : ℕ). n / w / 10) (sym weight) ∙ ap (λ (m : ℕ). m / 10) zero_is in
        stands
        ∙ ap (λ (l : List ℕ). s ++ l) (front_none (most + 1 - k) (n / 10 ^ k) next)
        ∙ ap (λ (l : List ℕ). s ++ l) (sym (front_none (most + 1 - (k - 1)) (n / 10 ^ (k - 1)) (ap (λ (w : ℕ). n / w) (sym weight) ∙ zero_is)))

  -- the last digit
  pub decimal_ends : (most : ℕ) → k ≡ 1 → items ≡ s ++ front (most + 1 - k) (n / 10 ^ k) → items' ≡ items ++ digit (n % 10) ∷ [] → items' ≡ s ++ decimal most n
  decimal_ends most one stands pushed =
      let all : most + 1 - k ≡ most = omega (arith, one) in
      pushed
      ∙ ap (λ (l : List ℕ). l ++ digit (n % 10) ∷ []) stands
      ∙ append_assoc s (front (most + 1 - k) (n / 10 ^ k)) (digit (n % 10) ∷ [])
      ∙ (λ i. s ++ (front (all i) (n / 10 ^ one i) ++ digit (n % 10) ∷ []))
      ∙ ap (λ (l : List ℕ). s ++ l) (sym (decimal_front most n))

  -- one hexadecimal digit more
  pub hexadecimal_goes : (count : ℕ) → 0 < k → k ≤ count → items ≡ s ++ digits 16 (count - k) (n / 16 ^ k)
      → items' ≡ items ++ digit (n / 2 ^ (4 * (k - 1)) % 16) ∷ [] → items' ≡ s ++ digits 16 (count - (k - 1)) (n / 16 ^ (k - 1))
  unfolding digits
  hexadecimal_goes count low high stands pushed =
      let k_is : k ≡ suc (k - 1) = omega (arith, low) in
      let next : n / 16 ^ k ≡ n / 16 ^ (k - 1) / 16 = ap (λ (j : ℕ). n / 16 ^ j) k_is ∙ next_weight 16 n (k - 1) in
      let more : suc (count - k) ≡ count - (k - 1) = omega (arith, low, high) in
      pushed
      ∙ ap (λ (l : List ℕ). l ++ digit (n / 2 ^ (4 * (k - 1)) % 16) ∷ []) stands
      ∙ append_assoc s (digits 16 (count - k) (n / 16 ^ k)) (digit (n / 2 ^ (4 * (k - 1)) % 16) ∷ [])
      ∙ (λ i. s ++ (digits 16 (count - k) (next i) ++ digit (n / shifted (k - 1) i % 16) ∷ []))
      ∙ ap (λ (c : ℕ). s ++ digits 16 c (n / 16 ^ (k - 1))) more
