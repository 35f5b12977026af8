-- Document 01, "Step records": numbers in bytes, the high byte first.
use Rattle.std.specs.Prelude.{ℕ, zero, suc, ◌+◌, ◌*◌, ◌/◌, ◌%◌, ◌^◌, ◌<◌, ◌≡◌, List, [], ◌∷◌, ◌++◌, length, get_or}

-- every element is a byte, as the elements of a `u8` slice are
abbrev pub Bytes : List ℕ → Type 0
Bytes s = (i : ℕ) → get_or s i 0 < 256

-- the number whose high bytes make a and whose other bytes are listed
abbrev pub number_from : ℕ → List ℕ → ℕ
number_from a [] = a
number_from a (b ∷ bs) = number_from (a * 256 + b) bs

-- the number that the bytes make
abbrev pub number : List ℕ → ℕ
number bs = number_from 0 bs

-- v in n bytes
abbrev pub digits : ℕ → ℕ → List ℕ
digits zero v = []
digits (suc n) v = digits n (v / 256) ++ (v % 256 ∷ [])

-- Numbers below 256 ^ n and n bytes go one to one. It is proved, so it adds nothing to believe.
pub record ByteNumbers : Type 0 where
  -- v in n bytes is n bytes
  pub size : (n v : ℕ) → length (digits n v) ≡ n
  pub bytes : (n v : ℕ) → Bytes (digits n v)
  -- written and read, read and written
  pub written_and_read : (n v : ℕ) → v < 256 ^ n → number (digits n v) ≡ v
  pub read_and_written : (bs : List ℕ) → Bytes bs → digits (length bs) (number bs) ≡ bs
  pub below : (bs : List ℕ) → Bytes bs → number bs < 256 ^ length bs
