-- What the machine's operations on a word are on sets of boards, bit by bit.
use mathlib.Core.Path.{◌≡◌, refl, sym, ap, ap₂, ◌∙◌}
use mathlib.Core.Logic.{⊎_elim}
use mathlib.Core.Bool.{Bool, true, false, cond}
use Prim.Native.Nat.{ℕ, zero, suc, ◌+◌, ◌-◌, ◌*◌, ◌/◌, ◌%◌, ◌^◌, ◌≤◌, ◌<◌, min}
use native.Mathlib.Nat.{div-one, mod-one, mod-lt, mod-eq_of_lt}
use native.Mathlib.Numerals.{one-add, add-one}
use native.Mathlib.Omega.{arith}
use borrow.Author.Tests.{eq-eqb, ne_eqb}
use lib.Dec.{eqb}
use lib.Bits.{bit_and, bit_or, and_comm, and_shr, and_step, and_high, and_lt, or_add_and}
use lib.Count.{ones, ones_cat, count_trailing_zeros, under}
use lib.Pow.{pow_pos, pow-lt, pow-add, pow_mono, shl_exact, shr-shr, mod-pow-add}
use Rattle.std.proofs.lemmas.Nat.{and-not}
use Rattle.spec_base.specs.Folds.{toℕ, count_below}
use Rattle.spec_base.proofs.Tests.{either, differs, same_test}
use Rattle.spec_arbiter.specs.Boards.{board_room, bit, member, insert, remove, subset, boards_only, first_from, lowest, size}
use Rattle.spec_arbiter.proofs.Boards.{bit_lt, bit_member, bit_in, bit_out, bit_zero, bit_suc, bit_le, in_of_bit, out_of_bit, insert_in, insert_out, remove_in, remove_out, bits_ext, subset_at, subset_of, boards_at, boards_subset, boards_from}

-- `1 << i`
pub shl_one : (i : ℕ) → i < board_room → (1 * 2 ^ i) % 2 ^ board_room ≡ 2 ^ i
shl_one i l = shl_exact {a = 1} 1 i board_room (omega arith) (omega arith) ∙ omega arith

and_bit : (s i : ℕ) → bit_and s (2 ^ i) ≡ bit s i * 2 ^ i
unfolding bit
and_bit s i = ap (bit_and s) (sym (ap (λ (x : ℕ). x - 2 ^ i) (pow-add 2 1 i) ∙ omega arith)) ∙ and_high s 1 i

pub or_insert : (s i : ℕ) → bit_or s (2 ^ i) ≡ insert s i
or_insert s i =
    ⊎_elim
    (λ h. omega (arith, or_add_and s (2 ^ i), and_bit s i, ap (λ (x : ℕ). x * 2 ^ i) (bit_in s i h), insert_in s i h))
    (λ h. omega (arith, or_add_and s (2 ^ i), and_bit s i, ap (λ (x : ℕ). x * 2 ^ i) (bit_out s i h), insert_out s i h))
    (either (member s i))

-- `s | 1 << i`
pub shl_insert : (s i : ℕ) → i < board_room → bit_or s ((1 * 2 ^ i) % 2 ^ board_room) ≡ insert s i
shl_insert s i l = ap (bit_or s) (shl_one i l) ∙ or_insert s i

pub insert_above : (s i : ℕ) → 2 ^ i ≤ insert s i
insert_above s i =
    ⊎_elim (λ h. rw (insert_in s i h) (bit_le s i (bit_in s i h))) (λ h. rw (insert_out s i h) (omega arith)) (either (member s i))

-- `(s | 1 << i) - (1 << i)`
pub insert_remove : (s i : ℕ) → insert s i - 2 ^ i ≡ remove s i
insert_remove s i =
    ⊎_elim (λ h. ap (λ (x : ℕ). x - 2 ^ i) (insert_in s i h) ∙ sym (remove_in s i h))
    (λ h. omega (arith, insert_out s i h, remove_out s i h))
    (either (member s i))

-- `s & !(1 << i)`, at numbers of w bits
pub and_not_remove : (w s i : ℕ) → i < w → s < 2 ^ w → bit_and s (2 ^ w - 1 - 2 ^ i) ≡ remove s i
and_not_remove w s i l h =
    let split : bit_and s (2 ^ w - 1 - 2 ^ i) + bit s i * 2 ^ i ≡ s =
    ap₂ ◌+◌ (and_comm s (2 ^ w - 1 - 2 ^ i)) (sym (and_bit s i) ∙ and_comm s (2 ^ i)) ∙ and-not w (2 ^ i) s (pow-lt l) h in
    ⊎_elim
    (λ m. omega (arith, ap (λ (x : ℕ). x * 2 ^ i) (bit_in s i m), remove_in s i m))
    (λ m. omega (arith, ap (λ (x : ℕ). x * 2 ^ i) (bit_out s i m), remove_out s i m))
    (either (member s i))

bit_and_lem : (a b i : ℕ) → bit (bit_and a b) i ≡ min (bit a i) (bit b i)
unfolding bit
bit_and_lem a b i =
    ap (λ (x : ℕ). x % 2) (and_shr a b i ∙ and_step (a / 2 ^ i) (b / 2 ^ i)) ∙ omega arith

-- `a & b == a`
pub and_subset : (a b : ℕ) → a < 2 ^ board_room → b < 2 ^ board_room → eqb (bit_and a b) a ≡ subset a b
and_subset a b ha hb = ⊎_elim yes_it_is no_it_is_not (either (subset a b))
  where
    yes_it_is : subset a b ≡ true → eqb (bit_and a b) a ≡ subset a b
    yes_it_is h =
        eq-eqb (bit_and a b) a (bits_ext board_room (bit_and a b) a (and_lt board_room a b ha hb) ha
        (λ i l. ⊎_elim
        (λ m. omega (arith, bit_and_lem a b i, bit_in a i m, bit_in b i (subset_at a b h i l m)))
        (λ m. omega (arith, bit_and_lem a b i, bit_out a i m))
        (either (member a i))))
        ∙ sym h

    no_it_is_not : subset a b ≡ false → eqb (bit_and a b) a ≡ subset a b
    no_it_is_not h =
        ne_eqb (bit_and a b) a
        (λ e. differs (sym (subset_of a b (λ i l m. in_of_bit b i
        (omega (arith, bit_and_lem a b i, ap (λ (x : ℕ). bit x i) e, bit_in a i m, bit_lt b i)))) ∙ h))
        ∙ sym h

-- `u16::trailing_zeros(s)`
trailing_first : (k s i : ℕ) → i + count_trailing_zeros k (s / 2 ^ i) ≡ first_from k s i
unfolding count_trailing_zeros first_from bit
trailing_first zero s i = omega arith
trailing_first (suc k) s i =
    ⊎_elim
    (λ h. ap (λ (d : ℕ). i + under d (count_trailing_zeros k (s / 2 ^ i / 2))) (bit_in s i h) ∙ omega arith
    ∙ sym (ap (λ (t : Bool). cond t i (first_from k s (suc i))) h))
    (λ h. ap (λ (d : ℕ). i + under d (count_trailing_zeros k (s / 2 ^ i / 2))) (bit_out s i h) ∙ omega arith
    ∙ ap (λ (x : ℕ). suc i + count_trailing_zeros k x) (shr-shr s i 1 ∙ ap (λ (n : ℕ). s / 2 ^ n) (add-one i))
    ∙ trailing_first k s (suc i)
    ∙ sym (ap (λ (t : Bool). cond t i (first_from k s (suc i))) h))
    (either (member s i))

pub trailing_lowest : (s : ℕ) → count_trailing_zeros board_room s ≡ lowest s
unfolding lowest
trailing_lowest s = ap (count_trailing_zeros board_room) (sym (div-one s)) ∙ omega arith ∙ trailing_first board_room s 0

-- `u16::count_ones(s)`
ones_bit : (b : Bool) → ones (toℕ b) ≡ toℕ b
unfolding ones
ones_bit true = refl
ones_bit false = refl

ones_below : (k s : ℕ) → ones (s % 2 ^ k) ≡ count_below k (member s)
unfolding count_below bit
ones_below zero s = ap ones (mod-one s) ∙ ones_bit false
ones_below (suc k) s =
    ap (λ (n : ℕ). ones (s % 2 ^ n)) (sym (one-add k)) ∙ ap ones (mod-pow-add s 1 k)
    ∙ ones_cat k (bit s k) (s % 2 ^ k) (mod-lt s (pow_pos k))
    ∙ ap₂ ◌+◌ (ap ones (bit_member s k) ∙ ones_bit (member s k)) (ones_below k s)

pub ones_size : (s : ℕ) → s < 2 ^ board_room → ones s ≡ size s
unfolding size
ones_size s h = ap ones (sym (mod-eq_of_lt h)) ∙ ones_below board_room s

-- `(2 << n) - 2`: the set of all boards
low_in : (n i : ℕ) → i < n → bit (2 ^ n - 1) i ≡ 1
low_in zero i l = absurd (omega arith)
low_in (suc m) zero l = bit_zero (2 ^ suc m - 1) ∙ omega (arith, pow_pos m)
low_in (suc m) (suc i) l =
    bit_suc (2 ^ suc m - 1) i ∙ ap (λ (x : ℕ). bit x i) (let e : (2 ^ suc m - 1) / 2 ≡ 2 ^ m - 1 = omega (arith, pow_pos m) in e) ∙ low_in m i (omega arith)

all_in : (n i : ℕ) → 1 ≤ i → i ≤ n → bit (2 * 2 ^ n - 2) i ≡ 1
all_in n zero h l = absurd (omega arith)
all_in n (suc i) h l =
    bit_suc (2 * 2 ^ n - 2) i ∙ ap (λ (x : ℕ). bit x i) (let e : (2 * 2 ^ n - 2) / 2 ≡ 2 ^ n - 1 = omega (arith, pow_pos n) in e) ∙ low_in n i (omega arith)

pub all_shl : (n : ℕ) → n < board_room → (2 * 2 ^ n) % 2 ^ 32 ≡ 2 * 2 ^ n
all_shl n l = shl_exact {a = 2} 2 n 32 (omega arith) (omega arith)

pub all_lt : (n : ℕ) → n < board_room → (2 ≤ 2 * 2 ^ n) × (2 * 2 ^ n - 2 < 2 ^ board_room)
all_lt n l = let top : 2 ^ suc n ≤ 2 ^ board_room = pow_mono (let h : suc n ≤ board_room = omega arith in h) in (omega (arith, pow_pos n), omega (arith, pow_pos n))

pub all_boards : (n s : ℕ) → n < board_room → s < 2 ^ board_room → subset s (2 * 2 ^ n - 2) ≡ boards_only n s
all_boards n s l h =
    same_test (subset s (2 * 2 ^ n - 2)) (boards_only n s)
    (λ q. boards_subset n s (2 * 2 ^ n - 2) h q
    (boards_from n (2 * 2 ^ n - 2) (all_lt n l).1 (out_of_bit (2 * 2 ^ n - 2) 0 (bit_zero (2 * 2 ^ n - 2) ∙ omega (arith, pow_pos n))) (omega (arith, pow_pos n))))
    (λ q. subset_of s (2 * 2 ^ n - 2) (λ i u m. let w = boards_at n s q i m in in_of_bit (2 * 2 ^ n - 2) i (all_in n i w.0 w.1)))
