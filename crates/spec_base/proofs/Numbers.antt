-- Numbers as bytes and back, by induction on the count of bytes.
use mathlib.Core.Path.{◌≡◌, refl, sym, ap, ◌∙◌}
use Prim.Native.Nat.{ℕ, zero, suc, ◌+◌, ◌*◌, ◌-◌, ◌/◌, ◌%◌, ◌^◌, ◌≤◌, ◌<◌}
use native.Mathlib.Numerals.{add-one, unary_clauses}
use native.Mathlib.Omega.{arith}
use native.Mathlib.Nat.{pow-suc, pow-le-pow_right, add-zero, zero-add}
use mathlib.Core.List.{List, [], ◌∷◌, ◌++◌}
use lib.ListN.{length, take, drop, get_or, set, length-append}
use lib.Seq.{drop-cons, set_split, drop_at, length-take-le, append_snoc}
use Rattle.spec_base.specs.Number.{Bytes, number, number_from, digits, ByteNumbers}
use Rattle.spec_base.proofs.Parts.{bytes_append}

pub length_digits : (n v : ℕ) → length (digits n v) ≡ n
length_digits zero v = refl
length_digits (suc n) v = simp (length-append, length_digits n (v / 256), add-one)

pub bytes_digits : (n v : ℕ) → Bytes (digits n v)
bytes_digits zero v i = omega arith
bytes_digits (suc n) v i = bytes_append (digits n (v / 256)) (v % 256 ∷ []) (bytes_digits n (v / 256)) last i
  where
    last : Bytes (v % 256 ∷ [])
    last zero = omega arith
    last (suc i) = omega arith

-- ---- written and read

number_snoc : (a : ℕ) (xs : List ℕ) (b : ℕ) → number_from a (xs ++ (b ∷ [])) ≡ number_from a xs * 256 + b
number_snoc a [] b = refl
number_snoc a (x ∷ xs) b = number_snoc (a * 256 + x) xs b

pub number_digits : (n v : ℕ) → v < 256 ^ n → number (digits n v) ≡ v
number_digits zero v h = omega arith
number_digits (suc n) v h =
    let high : v / 256 < 256 ^ n = omega (arith, rw pow-suc at h) in
    number_snoc 0 (digits n (v / 256)) (v % 256) ∙ rw (number_digits n (v / 256) high) (omega arith)

-- ---- read and written

-- a number of i bytes, with one byte more
pub number_grows : (i : ℕ) {a b : ℕ} → a < 256 ^ i → b < 256 → a * 256 + b < 256 ^ (i + 1)
number_grows i h k = rw (add-one, pow-suc) (omega arith)

number_from_below : (bs : List ℕ) (i a : ℕ) → a < 256 ^ i → Bytes bs → number_from a bs < 256 ^ (i + length bs)
number_from_below [] i a h k = rw add-zero h
number_from_below (b ∷ bs) i a h k =
    let one_more : i + 1 + length bs ≡ i + suc (length bs) = omega arith in
    rw one_more at (number_from_below bs (i + 1) (a * 256 + b) (number_grows i h (k 0)) (λ j. k (suc j)))

pub number_below : (bs : List ℕ) → Bytes bs → number bs < 256 ^ length bs
number_below bs k = rw zero-add at (number_from_below bs 0 0 (omega arith) k)

-- as many bytes that make the same number are the same
number_same : (xs ys : List ℕ) (a b : ℕ) → length xs ≡ length ys → Bytes xs → Bytes ys → number_from a xs ≡ number_from b ys → (a ≡ b) × (xs ≡ ys)
number_same [] [] a b l h k e = (e, refl)
number_same [] (y ∷ ys) a b l h k e = absurd (omega arith)
number_same (x ∷ xs) [] a b l h k e = absurd (omega arith)
number_same (x ∷ xs) (y ∷ ys) a b l h k e =
    let r = number_same xs ys (a * 256 + x) (b * 256 + y) (omega arith) (λ j. h (suc j)) (λ j. k (suc j)) e in
    let low : x ≡ y = omega (arith, r.0, h 0, k 0) in
    (omega (arith, r.0, h 0, k 0), rw (low, r.1))

pub digits_number : (bs : List ℕ) → Bytes bs → digits (length bs) (number bs) ≡ bs
digits_number bs k =
    (number_same (digits (length bs) (number bs)) bs 0 0 (length_digits (length bs) (number bs)) (bytes_digits (length bs) (number bs)) k (number_digits (length bs) (number bs) (number_below bs k))).1

pub byte_numbers : ByteNumbers
byte_numbers =
    record {
      size = length_digits;
      bytes = bytes_digits;
      written_and_read = number_digits;
      read_and_written = digits_number;
      below = number_below;
    }

-- ---- as loops go

-- one byte more is read
pub number_next : (bs : List ℕ) (a i : ℕ) → i < length bs → number_from (a * 256 + get_or bs i 0) (drop (i + 1) bs) ≡ number_from a (drop i bs)
number_next bs a i h = rw (add-one, drop-cons bs i 0)

-- where at most three bytes have been read, there is room for one more in 32 bits
pub number_fits : (i : ℕ) {a : ℕ} → a < 256 ^ i → i < 4 → a < 0x100_0000
number_fits i {a} h k =
    let most : i ≤ 3 = omega arith in
    omega (arith, pow-le-pow_right {n = 256} (omega arith) most)

-- the low byte of a number of i bytes, stored at the last of i places
pub digits_next : (i v : ℕ) (out : List ℕ) → 0 < i → i ≤ length out → digits (i - 1) (v / 256) ++ drop (i - 1) (set out (i - 1) (v % 256)) ≡ digits i v ++ drop i out
digits_next zero v out h k = absurd (omega arith)
digits_next (suc j) v out h k =
    let low : suc j - 1 ≡ j = omega arith in
    rw low
    (rw (set_split out j (v % 256) k, drop_at (take j out) (v % 256 ∷ drop (suc j) out) j (length-take-le j out (omega arith)))
    (sym (append_snoc (digits j (v / 256)) (v % 256) (drop (suc j) out))))

-- ---- of two and of four bytes

-- two bytes from a place on, and the number that they make
pub number_two : (p : ℕ) (s : List ℕ) → p + 2 ≤ length s → number (take 2 (drop p s)) ≡ get_or s p 0 * 256 + get_or s (p + 1) 0
number_two p s l =
    let first : p < length s = omega arith in
    let second : suc p < length s = omega arith in
    rw (drop-cons s p 0 first, drop-cons s (suc p) 0 second, add-one) (omega arith)

-- four bytes from a place on, and the number that they make
pub four : (p : ℕ) (s : List ℕ) → p + 4 ≤ length s → drop p s ≡ get_or s p 0 ∷ get_or s (p + 1) 0 ∷ get_or s (p + 2) 0 ∷ get_or s (p + 3) 0 ∷ drop (p + 4) s
four p [] l = absurd (omega arith)
four zero (a ∷ []) l = absurd (omega arith)
four zero (a ∷ b ∷ []) l = absurd (omega arith)
four zero (a ∷ b ∷ c ∷ []) l = absurd (omega arith)
four zero (a ∷ b ∷ c ∷ d ∷ s) l = refl
four (suc p) (x ∷ s) l = simp unary_clauses (simp unary_clauses at (four p s (omega arith)))

pub number_four : (p : ℕ) (s : List ℕ) → p + 4 ≤ length s
    → number (take 4 (drop p s)) ≡ get_or s p 0 * 16777216 + get_or s (p + 1) 0 * 65536 + get_or s (p + 2) 0 * 256 + get_or s (p + 3) 0
number_four p s l = ap (λ (t : List ℕ). number (take 4 t)) (four p s l) ∙ omega arith
