-- Laws of writing a field or a record's head: a number over a part that was lent, a byte and a length, and what has that length.
use mathlib.Core.Path.{◌≡◌, ap, ◌∙◌}
use Prim.Native.Nat.{ℕ, ◌+◌, ◌-◌, ◌≤◌}
use native.Mathlib.Omega.{arith}
use mathlib.Core.List.{List, [], ◌∷◌, ◌++◌}
use lib.ListN.{length, take, drop, set, length-set}
use borrow.Rule.Slice.PartMut.{put_mid, mid_len}
use Rattle.spec_base.specs.Placing.{place}
use Rattle.spec_base.proofs.Placing.{length_place, place_more, place_byte, place_part}
use Rattle.spec_base.specs.Number.{digits}
use Rattle.spec_base.proofs.Numbers.{length_digits}

-- a number written over a part that was lent
pub place_number : (a e v : ℕ) (out part : List ℕ) → e ≤ length out → part ≡ digits (length (take (e - a) (drop a out))) v → put_mid a (e - a) out part ≡ place a (digits (e - a) v) out
place_number a e v out part h q =
    let is : part ≡ digits (e - a) v = rw (mid_len a e out h) at q in
    rw is (place_part a (e - a) (digits (e - a) v) out (length_digits (e - a) v))

-- a byte stored at the front, and a two-byte number after it
pub place_head : (x n : ℕ) (out part : List ℕ) → 3 ≤ length out → part ≡ digits (length (take 2 (drop 1 (set out 0 x)))) n → put_mid 1 2 (set out 0 x) part ≡ place 1 (digits 2 n) (place 0 (x ∷ []) out)
place_head x n out part h q =
    place_number 1 3 n (set out 0 x) part (simp length-set h) q
    ∙ ap (λ (l : List ℕ). place 1 (digits 2 n) l) (place_byte 0 x out (omega arith))

pub length_head : (x n : ℕ) (out : List ℕ) → 3 ≤ length out → length (place 1 (digits 2 n) (place 0 (x ∷ []) out)) ≡ length out
length_head x n out h =
    let first : length (place 0 (x ∷ []) out) ≡ length out = length_place 0 (x ∷ []) out (omega arith) in
    length_place 1 (digits 2 n) (place 0 (x ∷ []) out) (omega arith) ∙ first

-- a kind or a tag, a length, and what has that length
pub place_framed : (x n : ℕ) (bs out : List ℕ) → 3 + length bs ≤ length out → place 3 bs (place 1 (digits 2 n) (place 0 (x ∷ []) out)) ≡ place 0 (x ∷ (digits 2 n ++ bs)) out
place_framed x n bs out h =
    ap (λ (l : List ℕ). place 3 bs l) (place_more 0 (x ∷ []) (digits 2 n) out (omega arith))
    ∙ place_more 0 (x ∷ digits 2 n) bs out (omega arith)
