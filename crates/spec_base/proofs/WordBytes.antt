-- Numbers of two and of four bytes at an offset: what is read there, compared, and written byte by byte; by laws over any width.
use Prim.Native.Nat.{ℕ, zero, suc, ◌+◌, ◌-◌, ◌*◌, ◌/◌, ◌%◌, ◌^◌, ◌≤◌, ◌<◌}
use native.Mathlib.Nat.{le_refl, zero-add, suc-add, pow-suc, mul_comm}
use Rattle.std.proofs.Math.Nat.{div-div-eq-div-mul}
use native.Mathlib.Numerals.{unary_clauses, one-add}
use native.Mathlib.Omega.{arith}
use mathlib.Core.Path.{◌≡◌, refl, sym, ap, ◌∙◌}
use mathlib.Core.List.{List, [], ◌∷◌, ◌++◌}
use lib.ListN.{length, get_or, set, take, drop, take-append-drop}
use lib.Seq.{take-take}
use borrow.Rule.Slice.PartMut.{put_mid, Post-is}
use Rattle.std.specs.Int.{byte_at, bytes_high_first}
use lib.Dec.{eqb}
use borrow.Author.Tests.{eq-eqb, eqb-true}
use Rattle.spec_base.specs.Number.{number, digits}
use Rattle.spec_base.specs.Layout.{slice, modify_at, overwrite, big}
use Rattle.spec_base.proofs.Tests.{same_test}
use Rattle.spec_base.proofs.Numbers.{number_two, number_four}
use Rattle.spec_base.proofs.Parts.{length_part}
use Rattle.spec_base.proofs.Copies.{alone}

-- ---- read

pub big_read : (n p : ℕ) (s : List ℕ) → (big n).read (slice p n s) ≡ number (take n (drop p s))
big_read n p s = ap number (take-take n n (drop p s) (le_refl n))

pub read_two : (p : ℕ) (s : List ℕ) → p + 2 ≤ length s → (big 2).read (slice p 2 s) ≡ get_or s p 0 * 256 + get_or s (p + 1) 0
read_two p s l = big_read 2 p s ∙ number_two p s l

pub read_four : (p : ℕ) (s : List ℕ) → p + 4 ≤ length s
    → (big 4).read (slice p 4 s) ≡ get_or s p 0 * 16777216 + get_or s (p + 1) 0 * 65536 + get_or s (p + 2) 0 * 256 + get_or s (p + 3) 0
read_four p s l = big_read 4 p s ∙ number_four p s l

-- ---- compared: two numbers of four bytes are the same exactly where they are so with their low bytes first

pub same_low_first : (a b c d p q r t : ℕ) → a < 256 → b < 256 → c < 256 → d < 256 → p < 256 → q < 256 → r < 256 → t < 256
    → eqb (a + b * 256 + c * 65536 + d * 16777216) (p + q * 256 + r * 65536 + t * 16777216)
    ≡ eqb (a * 16777216 + b * 65536 + c * 256 + d) (p * 16777216 + q * 65536 + r * 256 + t)
same_low_first a b c d p q r t ha hb hc hd hp hq hr ht =
    let low : ℕ = a + b * 256 + c * 65536 + d * 16777216 in
    let low' : ℕ = p + q * 256 + r * 65536 + t * 16777216 in
    let high : ℕ = a * 16777216 + b * 65536 + c * 256 + d in
    let high' : ℕ = p * 16777216 + q * 65536 + r * 256 + t in
    same_test (eqb low low') (eqb high high')
    (λ e.
    let same : low ≡ low' = eqb-true low low' e in
    let ed : d ≡ t = omega arith in
    let ec : c ≡ r = omega arith in
    let eb : b ≡ q = omega arith in
    let ea : a ≡ p = omega arith in
    eq-eqb high high' (omega arith))
    (λ e.
    let same : high ≡ high' = eqb-true high high' e in
    let ea : a ≡ p = omega arith in
    let eb : b ≡ q = omega arith in
    let ec : c ≡ r = omega arith in
    let ed : d ≡ t = omega arith in
    eq-eqb low low' (omega arith))

-- ---- written

-- the bytes of a number as the library has them, from the highest on, are its digits
byte_next : (n v : ℕ) → byte_at (suc n) v ≡ byte_at n (v / 256)
byte_next zero v = omega arith
byte_next (suc n) v = ap (λ (k : ℕ). v / k % 256) (pow-suc 256 (suc n) ∙ mul_comm (256 ^ suc n) 256) ∙ ap (λ (q : ℕ). q % 256) (sym (div-div-eq-div-mul v 256 (256 ^ suc n)))

high_first_next : (n v : ℕ) → bytes_high_first (suc n) v ≡ bytes_high_first n (v / 256) ++ (v % 256 ∷ [])
high_first_next zero v = refl
high_first_next (suc n) v = λ i. byte_next n v i ∷ high_first_next n v i

high_first : (n v : ℕ) → bytes_high_first n v ≡ digits n v
high_first zero v = refl
high_first (suc n) v = high_first_next n v ∙ ap (λ (r : List ℕ). r ++ (v % 256 ∷ [])) (high_first n (v / 256))

-- written over a part that was lent from p on
pub big_written : (n p v : ℕ) (s bs : List ℕ) → p + n ≤ length s → bs ≡ bytes_high_first n v → put_mid p (p + n - p) s bs ≡ modify_at p n ((big n).write v) s
big_written n p v s bs l e = λ i. take p s ++ ((e ∙ high_first n v ∙ sym (alone n v (slice p n s) (length_part p n s l))) i ++ Post-is p (p + n) s (omega arith) i)

-- bytes laid over others, one after the other
pub cover_first : (b : ℕ) (bs s : List ℕ) (p n : ℕ) → p < length s → modify_at p (suc n) (overwrite (b ∷ bs)) s ≡ modify_at (p + 1) n (overwrite bs) (set s p b)
unfolding overwrite
cover_first b bs [] p n l = absurd (omega arith)
cover_first b bs (x ∷ s) zero n l = simp (unary_clauses, zero-add, one-add)
cover_first b bs (x ∷ s) (suc p) n l = simp (unary_clauses, suc-add) (ap (λ (r : List ℕ). x ∷ r) (simp (unary_clauses, suc-add) at (cover_first b bs s p n (omega arith))))

pub cover_none : (s : List ℕ) (p : ℕ) → modify_at p 0 (overwrite []) s ≡ s
unfolding overwrite
cover_none s p = simp unary_clauses (take-append-drop p s)
