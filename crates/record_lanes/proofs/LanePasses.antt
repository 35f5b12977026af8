-- Lanes passed over: the sum of one, bytes as one number, and what was seen at eight places in all blocks.
use Prim.Native.Nat.{ℕ, zero, suc, ◌+◌, ◌*◌, ◌-◌, ◌/◌, ◌^◌, ◌≤◌, ◌<◌}
use native.Mathlib.Nat.{div-eq_of_lt, div-lt_iff_lt-mul}
use native.Mathlib.Omega.{arith}
use mathlib.Core.Path.{◌≡◌, refl, sym, ap, ◌∙◌}
use mathlib.Core.Logic.{⊎_elim}
use mathlib.Core.Bool.{Bool, true, false, not, ◌&&◌, ◌||◌}
use mathlib.Core.List.{List}
use lib.Bits.{bit_or, and_le_l, and_le_r, or_add_and, or_lt}
use lib.Dec.{eqb, leb, ltb}
use lib.ListN.{length, get_or, take, drop}
use lib.Pow.{pow_pos, pow-add}
use borrow.Author.Tests.{eq-eqb, eqb-true, le-leb, leb-true, ltb-true, lt-ltb, not-true, not-false}
use Rattle.std.specs.List.{sum_by}
use Rattle.std.specs.Int.{w64, from_le_bytes}
use Rattle.std.proofs.lemmas.List.{get_or-take, get_or-drop, length-drop}
use Rattle.std.proofs.lemmas.List.Sums.{sum_by_more}
use Rattle.spec_base.specs.Folds.{all_below, implies, sum_below}
use Rattle.spec_base.proofs.Tests.{and_l, and_r, and_of, not_of_true, not_of_false, same_or_not, same_test, lt_or_le, implied, implies_of}
use Rattle.spec_base.proofs.Folds.{below_at, below_of, sum_none, sum_next, sum_most}
use Rattle.spec_base.specs.Number.{Bytes}
use Rattle.spec_rack.specs.RecordLayout.{block_offset, lane_size, owner_offset}
use Rattle.record_lanes.specs.Lanes.{plain_at, owner_at, holds_token, unused_lanes_empty, lane_sum, low_first}

-- ---- sixteen bytes added up

sum_front : (s : List ℕ) (at n : ℕ) → at + n ≤ length s → sum_by (λ x. x) (take n (drop at s)) ≡ sum_below n (λ i. get_or s (at + i) 0)
sum_front s at zero l = sym (sum_none (λ i. get_or s (at + i) 0))
sum_front s at (suc n) l =
    let e : suc n ≡ n + 1 = omega arith in
    ap (λ (k : ℕ). sum_by (λ x. x) (take k (drop at s))) e
    ∙ omega (arith, sum_by_more (λ x. x) (drop at s) n 0 (simp length-drop (omega arith)), get_or-drop at s n 0, sum_front s at n (omega arith), sum_next (λ i. get_or s (at + i) 0) n)
    ∙ ap (λ (k : ℕ). sum_below k (λ i. get_or s (at + i) 0)) (sym e)

pub lane_sum_is : (s : List ℕ) (at sum : ℕ) → Bytes s → at + 16 ≤ length s → sum ≡ sum_by (λ x. x) (take 16 (drop at s)) → (sum ≡ lane_sum s at) × (sum ≤ 4080)
unfolding lane_sum
lane_sum_is s at sum h l e = (e ∙ sum_front s at 16 l, omega (arith, e, sum_front s at 16 l, sum_most (λ i. get_or s (at + i) 0) 255 16 (λ i u. omega (arith, h (at + i)))))

-- ---- tests of numbers that are 0

none_of : (a b : Bool) → (not a || not b) ≡ not (a && b)
none_of true b = refl
none_of false b = refl

both_zero : (p o : ℕ) → (eqb p 0 && eqb o 0) ≡ eqb (p + o) 0
both_zero p o =
    same_test (eqb p 0 && eqb o 0) (eqb (p + o) 0)
    (λ h. eq-eqb (p + o) 0 (omega (arith, eqb-true p 0 (and_l (eqb p 0) (eqb o 0) h), eqb-true o 0 (and_r (eqb p 0) (eqb o 0) h))))
    (λ h. and_of (eqb p 0) (eqb o 0) (eq-eqb p 0 (omega (arith, eqb-true (p + o) 0 h))) (eq-eqb o 0 (omega (arith, eqb-true (p + o) 0 h))))

-- one of two numbers is not 0
pub either_some : (p o : ℕ) → (not (eqb p 0) || not (eqb o 0)) ≡ not (eqb (p + o) 0)
either_some p o = none_of (eqb p 0) (eqb o 0) ∙ ap (λ (t : Bool). not t) (both_zero p o)

or_most : (a b : ℕ) → (a ≤ bit_or a b) × (b ≤ bit_or a b)
or_most a b = (omega (arith, or_add_and a b, and_le_r a b), omega (arith, or_add_and a b, and_le_l a b))

-- a number is no more than another where its excess is 0, and excesses joined by bits are 0 where each is
excess_zero : (a b : ℕ) → a - b ≡ 0 → leb a b ≡ true
excess_zero a b e = le-leb a b (omega (arith, e))

pub no_excess : (d o v h : ℕ) → eqb (bit_or (bit_or (d - o) (o - v)) (v - h)) 0 ≡ (leb d o && leb o v && leb v h)
no_excess d o v h =
    same_test (eqb (bit_or (bit_or (d - o) (o - v)) (v - h)) 0) (leb d o && leb o v && leb v h)
    (λ q.
    let z : bit_or (bit_or (d - o) (o - v)) (v - h) ≡ 0 = eqb-true (bit_or (bit_or (d - o) (o - v)) (v - h)) 0 q in
    let outer = or_most (bit_or (d - o) (o - v)) (v - h) in
    let inner = or_most (d - o) (o - v) in
    and_of (leb d o && leb o v) (leb v h)
    (and_of (leb d o) (leb o v) (excess_zero d o (omega (arith, z, outer.0, inner.0))) (excess_zero o v (omega (arith, z, outer.0, inner.1))))
    (excess_zero v h (omega (arith, z, outer.1))))
    (λ q.
    let a : d - o ≡ 0 = omega (arith, leb-true d o (search (and_l, and_r))) in
    let b : o - v ≡ 0 = omega (arith, leb-true o v (search (and_l, and_r))) in
    let c : v - h ≡ 0 = omega (arith, leb-true v h (search (and_l, and_r))) in
    ap (λ (x : ℕ). eqb x 0) (λ i. bit_or (bit_or (a i) (b i)) (c i)))

-- ---- bytes as one number, the low byte first: it is below 256 ^ k where the bytes from the k-th on are 0

eights : (k : ℕ) → 2 ^ (8 * suc k) ≡ 256 * 2 ^ (8 * k)
eights k = ap (λ (e : ℕ). 2 ^ e) (let q : 8 * suc k ≡ 8 + 8 * k = omega arith in q) ∙ pow-add 2 8 (8 * k)

pub low_zero : (f : ℕ → ℕ) (n k : ℕ) → low_first f n < 2 ^ (8 * k) → (p : ℕ) → k ≤ p → p < n → f p ≡ 0
unfolding low_first
low_zero f zero k h p l u = absurd (omega arith)
low_zero f (suc n) zero h zero l u = omega (arith, h)
low_zero f (suc n) zero h (suc p) l u = low_zero (λ i. f (suc i)) n zero (omega (arith, h)) p (omega arith) (omega arith)
low_zero f (suc n) (suc k) h zero l u = absurd (omega arith)
low_zero f (suc n) (suc k) h (suc p) l u = low_zero (λ i. f (suc i)) n k (omega (arith, h, eights k)) p (omega arith) (omega arith)

pub low_lt : (f : ℕ → ℕ) → ((i : ℕ) → f i < 256) → (n k : ℕ) → ((p : ℕ) → k ≤ p → p < n → f p ≡ 0) → low_first f n < 2 ^ (8 * k)
unfolding low_first
low_lt f b zero k h = pow_pos (8 * k)
low_lt f b (suc n) zero h =
    let rest : low_first (λ i. f (suc i)) n < 1 = low_lt (λ i. f (suc i)) (λ i. b (suc i)) n zero (λ p l u. h (suc p) (omega arith) (omega arith)) in
    omega (arith, h 0 (omega arith) (omega arith), rest)
low_lt f b (suc n) (suc k) h =
    let rest : low_first (λ i. f (suc i)) n < 2 ^ (8 * k) = low_lt (λ i. f (suc i)) (λ i. b (suc i)) n k (λ p l u. h (suc p) (omega arith) (omega arith)) in
    omega (arith, b 0, rest, eights k)

-- the machine's load of eight bytes
pub low_eight : (s : List ℕ) (at n : ℕ) (bytes : List ℕ) → bytes ≡ take 8 (drop at s) → n ≡ from_le_bytes w64 bytes → n ≡ low_first (λ i. get_or s (at + i) 0) 8
unfolding low_first
low_eight s at n bytes e f =
    let byte : (i : ℕ) → i < 8 → get_or bytes i 0 ≡ get_or s (at + i) 0 = λ i l. ap (λ (b : List ℕ). get_or b i 0) e ∙ get_or-take 8 (drop at s) i 0 l ∙ get_or-drop at s i 0 in
    omega (arith, f, byte 0 (omega arith), byte 1 (omega arith), byte 2 (omega arith), byte 3 (omega arith), byte 4 (omega arith), byte 5 (omega arith), byte 6 (omega arith), byte 7 (omega arith))

-- ---- what was seen at eight places

module _ (s : List ℕ) (bytes : Bytes s) (from : ℕ) where
  -- that components hold nothing in the first b blocks, from the k-th of eight on
  abbrev Empty : ℕ → ℕ → Type 0
  Empty k b = (j : ℕ) → j < b → (p : ℕ) → k ≤ p → p < 8 → holds_token s (block_offset j) (from + p) ≡ false

  pub record Seeing (b seen : ℕ) : Type 0 where
    pub there : (k : ℕ) → seen < 2 ^ (8 * k) → Empty k b
    pub back : (k : ℕ) → Empty k b → seen < 2 ^ (8 * k)

  pub see_none : Seeing 0 0
  see_none = record { there = λ k h j l. absurd (omega arith); back = λ k h. pow_pos (8 * k) }

  module _ (b at : ℕ) (stands : at ≡ block_offset b + from) where
    plains : ℕ → ℕ
    plains i = get_or s (at + i) 0

    owners : ℕ → ℕ
    owners i = get_or s (at + owner_offset + i) 0

    place : (p : ℕ) → get_or s (at + p) 0 ≡ plain_at s (block_offset b) (from + p)
    place p = ap (λ (i : ℕ). get_or s i 0) (let q : at + p ≡ block_offset b + (from + p) = omega (arith, stands) in q)

    mark : (p : ℕ) → get_or s (at + owner_offset + p) 0 ≡ owner_at s (block_offset b) (from + p)
    mark p = ap (λ (i : ℕ). get_or s i 0) (let q : at + owner_offset + p ≡ block_offset b + owner_offset + (from + p) = omega (arith, stands) in q)

    here : (p : ℕ) → get_or s (at + p) 0 ≡ 0 → get_or s (at + owner_offset + p) 0 ≡ 0 → holds_token s (block_offset b) (from + p) ≡ false
    here p x y = not_of_true (eqb (plain_at s (block_offset b) (from + p) + owner_at s (block_offset b) (from + p)) 0)
        (eq-eqb (plain_at s (block_offset b) (from + p) + owner_at s (block_offset b) (from + p)) 0 (omega (arith, x, y, place p, mark p)))

    gone : (p : ℕ) → holds_token s (block_offset b) (from + p) ≡ false → (get_or s (at + p) 0 ≡ 0) × (get_or s (at + owner_offset + p) 0 ≡ 0)
    gone p h =
        let none : plain_at s (block_offset b) (from + p) + owner_at s (block_offset b) (from + p) ≡ 0 = eqb-true (plain_at s (block_offset b) (from + p) + owner_at s (block_offset b) (from + p)) 0 (not-false (eqb (plain_at s (block_offset b) (from + p) + owner_at s (block_offset b) (from + p)) 0) h) in
        (omega (arith, none, place p), omega (arith, none, mark p))

    pub see_more : (seen after : ℕ) → after ≡ bit_or (bit_or seen (low_first (λ i. get_or s (at + i) 0) 8)) (low_first (λ i. get_or s (at + owner_offset + i) 0) 8)
        → Seeing b seen → Seeing (b + 1) after
    see_more seen after e h =
        let first : ℕ = low_first (λ i. get_or s (at + i) 0) 8 in
        let second : ℕ = low_first (λ i. get_or s (at + owner_offset + i) 0) 8 in
        let outer = or_most (bit_or seen first) second in
        let inner = or_most seen first in
        record {
          there = λ k l j u p v w.
              ⊎_elim (λ (z : j ≡ b). ap (λ (q : ℕ). holds_token s (block_offset q) (from + p)) z
              ∙ here p (low_zero (λ i. get_or s (at + i) 0) 8 k (omega (arith, l, e, outer.0, inner.1)) p v w) (low_zero (λ i. get_or s (at + owner_offset + i) 0) 8 k (omega (arith, l, e, outer.1)) p v w))
              (λ (ne : j ≡ b → ⊥). h.there k (omega (arith, l, e, outer.0, inner.0)) j (omega arith) p v w) (same_or_not j b);
          back = λ k f.
              omega (
                arith,
                e,
                or_lt (8 * k) (bit_or seen first) second
                    (or_lt (8 * k) seen first (h.back k (λ j u p v w. f j (omega arith) p v w)) (low_lt (λ i. get_or s (at + i) 0) (λ i. bytes (at + i)) 8 k (λ p v w. (gone p (f b (omega arith) p v w)).0)))
                    (low_lt (λ i. get_or s (at + owner_offset + i) 0) (λ i. bytes (at + owner_offset + i)) 8 k (λ p v w. (gone p (f b (omega arith) p v w)).1)),
              );
        }

-- ---- nothing seen above the last component

module _ (s : List ℕ) (n count : ℕ) where
  abbrev Free : Type 0
  Free = (j : ℕ) → j < count → (i : ℕ) → n < i → i < lane_size → holds_token s (block_offset j) i ≡ false

  rooms_by : (test : Bool) → (test ≡ true → Free) → (Free → test ≡ true) → test ≡ all_below count (λ b. unused_lanes_empty n s (block_offset b))
  unfolding unused_lanes_empty
  rooms_by test to from =
      same_test test (all_below count (λ b. all_below lane_size (λ i. implies (ltb n i) (not (holds_token s (block_offset b) i)))))
      (λ h. below_of (λ b. all_below lane_size (λ i. implies (ltb n i) (not (holds_token s (block_offset b) i)))) count
      (λ b l. below_of (λ i. implies (ltb n i) (not (holds_token s (block_offset b) i))) lane_size
      (λ i u. implies_of (ltb n i) (not (holds_token s (block_offset b) i)) (λ t. not_of_false (holds_token s (block_offset b) i) (to h b l i (ltb-true n i t) u)))))
      (λ h. from (λ j l i t u. not-true (holds_token s (block_offset j) i)
      (implied (ltb n i) (not (holds_token s (block_offset j) i))
      (below_at (λ k. implies (ltb n k) (not (holds_token s (block_offset j) k))) lane_size (below_at (λ b. all_below lane_size (λ k. implies (ltb n k) (not (holds_token s (block_offset b) k)))) count h j l) i u)
      (lt-ltb n i t))))

  shr_lt : (x m : ℕ) → eqb (x / 2 ^ m) 0 ≡ true → x < 2 ^ m
  shr_lt x m h = let none : x / 2 ^ m < 1 = omega (arith, eqb-true (x / 2 ^ m) 0 h) in omega (arith, (div-lt_iff_lt-mul (pow_pos m)).0 none)

  lt_shr : (x m : ℕ) → x < 2 ^ m → eqb (x / 2 ^ m) 0 ≡ true
  lt_shr x m h = eq-eqb (x / 2 ^ m) 0 (div-eq_of_lt h)

  at_place : (j i k : ℕ) → i ≡ k → holds_token s (block_offset j) i ≡ false → holds_token s (block_offset j) k ≡ false
  at_place j i k e h = ap (λ (q : ℕ). holds_token s (block_offset j) q) (sym e) ∙ h

  module _ (bytes : Bytes s) (high : ℕ) (above : Seeing s bytes 8 count high) where
    -- a last board below 7: the rest of the low half, and the high half
    pub rooms_low : n < 7 → (low : ℕ) → Seeing s bytes 0 count low → (eqb (low / 2 ^ (8 * (n + 1))) 0 && eqb high 0) ≡ all_below count (λ b. unused_lanes_empty n s (block_offset b))
    rooms_low small low under =
        rooms_by (eqb (low / 2 ^ (8 * (n + 1))) 0 && eqb high 0)
        (λ h j l i t u. let q : low < 2 ^ (8 * (n + 1)) = shr_lt low (8 * (n + 1)) (and_l (eqb (low / 2 ^ (8 * (n + 1))) 0) (eqb high 0) h) in
        let z : high ≡ 0 = eqb-true high 0 (and_r (eqb (low / 2 ^ (8 * (n + 1))) 0) (eqb high 0) h) in
        ⊎_elim (λ (v : i < 8). at_place j (0 + i) i (omega arith) (under.there (n + 1) q j l i (omega arith) v))
        (λ (v : 8 ≤ i). at_place j (8 + (i - 8)) i (omega arith) (above.there 0 (omega (arith, z)) j l (i - 8) (omega arith) (omega arith))) (lt_or_le i 8))
        (λ f. and_of (eqb (low / 2 ^ (8 * (n + 1))) 0) (eqb high 0)
        (lt_shr low (8 * (n + 1)) (under.back (n + 1) (λ j l p v w. at_place j p (0 + p) (omega arith) (f j l p (omega arith) (omega arith)))))
        (eq-eqb high 0 (let w : high < 1 = above.back 0 (λ j l p v w. f j l (8 + p) (omega arith) (omega arith)) in omega arith)))

    -- a last board from 7 on: the rest of the high half
    pub rooms_high : 7 ≤ n → eqb (high / 2 ^ (8 * (n - 7))) 0 ≡ all_below count (λ b. unused_lanes_empty n s (block_offset b))
    rooms_high large =
        rooms_by (eqb (high / 2 ^ (8 * (n - 7))) 0)
        (λ h j l i t u. at_place j (8 + (i - 8)) i (omega arith) (above.there (n - 7) (shr_lt high (8 * (n - 7)) h) j l (i - 8) (omega arith) (omega arith)))
        (λ f. lt_shr high (8 * (n - 7)) (above.back (n - 7) (λ j l p v w. f j l (8 + p) (omega arith) (omega arith))))

-- a lane has no place above board 15
pub rooms_full : (n count : ℕ) (s : List ℕ) → n ≡ 15 → all_below count (λ b. unused_lanes_empty n s (block_offset b)) ≡ true
unfolding unused_lanes_empty
rooms_full n count s e =
    below_of (λ b. all_below lane_size (λ i. implies (ltb n i) (not (holds_token s (block_offset b) i)))) count
    (λ b l. below_of (λ i. implies (ltb n i) (not (holds_token s (block_offset b) i))) lane_size
    (λ i u. implies_of (ltb n i) (not (holds_token s (block_offset b) i)) (λ t. let k : n < i = ltb-true n i t in absurd (omega arith))))
