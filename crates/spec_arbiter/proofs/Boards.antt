-- Laws of sets of boards, from the bits of a number by induction on the place. `s` is a set, `i` and `j` are boards, and `k` bounds both: s < 2 ^ k, i < k.
use mathlib.Core.Path.{◌≡◌, refl, sym, ap, ◌∙◌, subst}
use mathlib.Core.Logic.{⊎_elim}
use mathlib.Core.Bool.{Bool, true, false, cond, ◌&&◌}
use Prim.Native.Nat.{ℕ, zero, suc, ◌+◌, ◌-◌, ◌/◌, ◌%◌, ◌^◌, ◌≤◌, ◌<◌, min}
use native.Mathlib.Nat.{div-one, add-div_right, div-mul-le_self, mul-le-mul_right, div-eq_of_lt, div-lt_iff_lt-mul, lt_of_lt_of_le}
use native.Mathlib.Numerals.{one-add}
use native.Mathlib.Omega.{arith}
use borrow.Author.Tests.{eq-eqb, ne_eqb, eqb-true, eqb-false, leb-true, le-leb, ltb-true, lt-ltb}
use lib.Dec.{eqb, leb, ltb}
use lib.Pow.{pow_pos, shr-shr, shr_lt, pow_mono}
use Rattle.spec_base.specs.Folds.{toℕ, all_below, implies}
use Rattle.spec_base.proofs.Tests.{either, differs, same_or_not, lt_or_le, and_l, and_r, and_of, implied, implies_of}
use Rattle.spec_base.proofs.Folds.{below_at, below_of, count_le, count_mono, count_more, count_none}
use Rattle.spec_arbiter.specs.Boards.{board_room, bit, member, empty, insert, remove, subset, boards_only, first_from, lowest, size}

-- ---- bits

pub bit_lt : (s i : ℕ) → bit s i < 2
unfolding bit
bit_lt s i = omega arith

pub bit_zero : (s : ℕ) → bit s 0 ≡ s % 2
unfolding bit
bit_zero s = ap (λ (x : ℕ). x % 2) (div-one s)

pub bit_suc : (s i : ℕ) → bit s (suc i) ≡ bit (s / 2) i
unfolding bit
bit_suc s i = sym (ap (λ (x : ℕ). x % 2) (shr-shr s 1 i ∙ ap (λ (k : ℕ). s / 2 ^ k) (one-add i)))

-- a number of k bits is known by its bits
pub bits_ext : (k a b : ℕ) → a < 2 ^ k → b < 2 ^ k → ((i : ℕ) → i < k → bit a i ≡ bit b i) → a ≡ b
bits_ext zero a b ha hb e = omega arith
bits_ext (suc k) a b ha hb e =
    let rest : a / 2 ≡ b / 2 =
    bits_ext k (a / 2) (b / 2) (omega arith) (omega arith)
    (λ i h. sym (bit_suc a i) ∙ e (suc i) (omega arith) ∙ bit_suc b i) in
    omega (arith, sym (bit_zero a) ∙ e 0 (omega arith) ∙ bit_zero b)

pub bit_high : (s i : ℕ) → s < 2 ^ i → bit s i ≡ 0
unfolding bit
bit_high s i h = rw (div-eq_of_lt h)

add_same : (s i : ℕ) → bit s i ≡ 0 → bit (s + 2 ^ i) i ≡ 1
unfolding bit
add_same s i h = rw (add-div_right s (pow_pos i)) (omega arith)

add_other : (i j s : ℕ) → (j ≡ i → ⊥) → bit s i ≡ 0 → bit (s + 2 ^ i) j ≡ bit s j
add_other zero zero s ne h = absurd (ne refl)
add_other zero (suc j) s ne h =
    bit_suc (s + 1) j ∙ ap (λ (x : ℕ). bit x j) (omega (arith, sym (bit_zero s) ∙ h)) ∙ sym (bit_suc s j)
add_other (suc i) zero s ne h = bit_zero (s + 2 ^ suc i) ∙ omega arith ∙ sym (bit_zero s)
add_other (suc i) (suc j) s ne h =
    bit_suc (s + 2 ^ suc i) j ∙ ap (λ (x : ℕ). bit x j) (omega arith)
    ∙ add_other i j (s / 2) (λ e. ne (ap suc e)) (sym (bit_suc s i) ∙ h) ∙ sym (bit_suc s j)

add_lt : (k i s : ℕ) → i < k → s < 2 ^ k → bit s i ≡ 0 → s + 2 ^ i < 2 ^ k
add_lt zero i s l h b = absurd (omega arith)
add_lt (suc k) zero s l h b = omega (arith, sym (bit_zero s) ∙ b)
add_lt (suc k) (suc i) s l h b =
    omega (arith, add_lt k i (s / 2) (omega arith) (omega arith) (sym (bit_suc s i) ∙ b))

-- a set bit can be taken off
pub bit_le : (s i : ℕ) → bit s i ≡ 1 → 2 ^ i ≤ s
unfolding bit
bit_le s i h =
    let q : 1 ≤ s / 2 ^ i = omega arith in
    omega (arith, mul-le-mul_right (2 ^ i) q, div-mul-le_self s (2 ^ i))

sub_same : (s i : ℕ) → bit s i ≡ 1 → bit (s - 2 ^ i) i ≡ 0
unfolding bit
sub_same s i h = from (bit_lt (s - 2 ^ i) i)
  where
    back : s - 2 ^ i + 2 ^ i ≡ s
    back = omega (arith, bit_le s i h)

    high : bit (s - 2 ^ i + 2 ^ i) i ≡ 1
    high = ap (λ (x : ℕ). bit x i) back ∙ h

    from : bit (s - 2 ^ i) i < 2 → bit (s - 2 ^ i) i ≡ 0
    from l = omega (arith, sym (ap (λ (x : ℕ). x % 2) (add-div_right (s - 2 ^ i) (pow_pos i))) ∙ high)

-- ---- members

pub bit_member : (s i : ℕ) → bit s i ≡ toℕ (member s i)
unfolding member
bit_member s i =
    ⊎_elim (λ e. eqb-true (bit s i) 1 e ∙ sym (ap toℕ e))
    (λ e. let ne : bit s i ≡ 1 → ⊥ = eqb-false (bit s i) 1 e in
    omega (arith, bit_lt s i) ∙ sym (ap toℕ e))
    (either (eqb (bit s i) 1))

pub bit_in : (s i : ℕ) → member s i ≡ true → bit s i ≡ 1
bit_in s i h = bit_member s i ∙ ap toℕ h

pub bit_out : (s i : ℕ) → member s i ≡ false → bit s i ≡ 0
bit_out s i h = bit_member s i ∙ ap toℕ h

pub in_of_bit : (s i : ℕ) → bit s i ≡ 1 → member s i ≡ true
unfolding member
in_of_bit s i h = eq-eqb (bit s i) 1 h

pub out_of_bit : (s i : ℕ) → bit s i ≡ 0 → member s i ≡ false
unfolding member
out_of_bit s i h = ne_eqb (bit s i) 1 (λ e. omega arith)

same_member : (a b i : ℕ) → bit a i ≡ bit b i → member a i ≡ member b i
unfolding member
same_member a b i e = ap (λ (x : ℕ). eqb x 1) e

-- two sets with the same members are the same number
pub same_members : (k a b : ℕ) → a < 2 ^ k → b < 2 ^ k → ((i : ℕ) → i < k → member a i ≡ member b i) → a ≡ b
same_members k a b ha hb e =
    bits_ext k a b ha hb (λ i l. bit_member a i ∙ ap toℕ (e i l) ∙ sym (bit_member b i))

pub member_empty : (i : ℕ) → member empty i ≡ false
member_empty i = out_of_bit 0 i (bit_high 0 i (pow_pos i))

pub member_high : (k s i : ℕ) → s < 2 ^ k → k ≤ i → member s i ≡ false
member_high k s i h l = out_of_bit s i (bit_high s i (lt_of_lt_of_le h (pow_mono l)))

-- a member of a set of k boards is below k
pub member_lt : (k s i : ℕ) → s < 2 ^ k → member s i ≡ true → i < k
member_lt k s i h m = ⊎_elim (λ (l : i < k). l) (λ (l : k ≤ i). differs (sym m ∙ member_high k s i h l)) (lt_or_le i k)

-- a set with no member is empty
pub empty_of : (k s : ℕ) → s < 2 ^ k → ((i : ℕ) → i < k → member s i ≡ false) → s ≡ empty
empty_of k s h f = same_members k s 0 h (pow_pos k) (λ i l. f i l ∙ sym (member_empty i))

top_out : (m s : ℕ) → s < 2 ^ suc m → member s m ≡ false → s < 2 ^ m
unfolding bit
top_out m s h e =
    let small : s / 2 ^ m < 2 = shr_lt 1 m (subst (λ (x : ℕ). s < 2 ^ x) (sym (one-add m)) h) in
    let gone : s / 2 ^ m % 2 ≡ 0 = bit_out s m e in
    let none : s / 2 ^ m < 1 = omega arith in
    omega (arith, (div-lt_iff_lt-mul (pow_pos m)).0 none)

-- a set with no member from k on is below 2 ^ k
pub lt_of_none : (k m s : ℕ) → s < 2 ^ m → ((i : ℕ) → k ≤ i → i < m → member s i ≡ false) → s < 2 ^ k
lt_of_none k zero s h f = lt_of_lt_of_le h (pow_pos k)
lt_of_none k (suc m) s h f =
    ⊎_elim (λ (l : m < k). lt_of_lt_of_le h (pow_mono l))
    (λ (l : k ≤ m). lt_of_none k m s (top_out m s h (f m l (omega arith))) (λ i p q. f i p (omega arith)))
    (lt_or_le m k)

-- ---- insert and remove

pub insert_in : (s i : ℕ) → member s i ≡ true → insert s i ≡ s
unfolding insert
insert_in s i h = ap (λ (t : Bool). cond t s (s + 2 ^ i)) h

pub insert_out : (s i : ℕ) → member s i ≡ false → insert s i ≡ s + 2 ^ i
unfolding insert
insert_out s i h = ap (λ (t : Bool). cond t s (s + 2 ^ i)) h

pub remove_in : (s i : ℕ) → member s i ≡ true → remove s i ≡ s - 2 ^ i
unfolding remove
remove_in s i h = ap (λ (t : Bool). cond t (s - 2 ^ i) s) h

pub remove_out : (s i : ℕ) → member s i ≡ false → remove s i ≡ s
unfolding remove
remove_out s i h = ap (λ (t : Bool). cond t (s - 2 ^ i) s) h

pub insert_same : (s i : ℕ) → member (insert s i) i ≡ true
insert_same s i =
    ⊎_elim (λ h. ap (λ (x : ℕ). member x i) (insert_in s i h) ∙ h)
    (λ h. ap (λ (x : ℕ). member x i) (insert_out s i h) ∙ in_of_bit (s + 2 ^ i) i (add_same s i (bit_out s i h)))
    (either (member s i))

pub insert_other : (s i j : ℕ) → (j ≡ i → ⊥) → member (insert s i) j ≡ member s j
insert_other s i j ne =
    ⊎_elim (λ h. ap (λ (x : ℕ). member x j) (insert_in s i h))
    (λ h. ap (λ (x : ℕ). member x j) (insert_out s i h) ∙ same_member (s + 2 ^ i) s j (add_other i j s ne (bit_out s i h)))
    (either (member s i))

pub remove_same : (s i : ℕ) → member (remove s i) i ≡ false
remove_same s i =
    ⊎_elim (λ h. ap (λ (x : ℕ). member x i) (remove_in s i h) ∙ out_of_bit (s - 2 ^ i) i (sub_same s i (bit_in s i h)))
    (λ h. ap (λ (x : ℕ). member x i) (remove_out s i h) ∙ h)
    (either (member s i))

pub remove_other : (s i j : ℕ) → (j ≡ i → ⊥) → member (remove s i) j ≡ member s j
remove_other s i j ne =
    ⊎_elim
    (λ h. let b = bit_in s i h in
    let back : s - 2 ^ i + 2 ^ i ≡ s = omega (arith, bit_le s i b) in
    ap (λ (x : ℕ). member x j) (remove_in s i h)
    ∙ same_member (s - 2 ^ i) s j
    (sym (add_other i j (s - 2 ^ i) ne (sub_same s i b)) ∙ ap (λ (x : ℕ). bit x j) back))
    (λ h. ap (λ (x : ℕ). member x j) (remove_out s i h))
    (either (member s i))

-- what was a member stays one, and what is a member after a removal was one before
pub insert_keeps : (s i j : ℕ) → member s j ≡ true → member (insert s i) j ≡ true
insert_keeps s i j h =
    ⊎_elim (λ (e : j ≡ i). ap (λ (x : ℕ). member (insert s i) x) e ∙ insert_same s i) (λ ne. insert_other s i j ne ∙ h) (same_or_not j i)

pub remove_was : (s i j : ℕ) → member (remove s i) j ≡ true → (member s j ≡ true) × (j ≡ i → ⊥)
remove_was s i j h = (sym (remove_other s i j ne) ∙ h, ne)
  where
    ne : j ≡ i → ⊥
    ne e = differs (sym h ∙ ap (λ (x : ℕ). member (remove s i) x) e ∙ remove_same s i)

-- every set of boards below k stays one
pub insert_lt : (k s i : ℕ) → i < k → s < 2 ^ k → insert s i < 2 ^ k
insert_lt k s i l h =
    ⊎_elim (λ e. rw (insert_in s i e) h) (λ e. rw (insert_out s i e) (add_lt k i s l h (bit_out s i e))) (either (member s i))

pub remove_le : (s i : ℕ) → remove s i ≤ s
remove_le s i =
    ⊎_elim (λ e. rw (remove_in s i e) (omega arith)) (λ e. rw (remove_out s i e) (omega arith)) (either (member s i))

pub remove_lt : (k s i : ℕ) → s < 2 ^ k → remove s i < 2 ^ k
remove_lt k s i h = omega (arith, remove_le s i)

pub remove_insert : (s i : ℕ) → member s i ≡ false → remove (insert s i) i ≡ s
remove_insert s i h =
    remove_in (insert s i) i (insert_same s i) ∙ ap (λ (x : ℕ). x - 2 ^ i) (insert_out s i h) ∙ omega arith

-- ---- subset

pub subset_at : (a b : ℕ) → subset a b ≡ true → (i : ℕ) → i < board_room → member a i ≡ true → member b i ≡ true
unfolding subset
subset_at a b h i l = implied (member a i) (member b i) (below_at (λ j. implies (member a j) (member b j)) board_room h i l)

pub subset_of : (a b : ℕ) → ((i : ℕ) → i < board_room → member a i ≡ true → member b i ≡ true) → subset a b ≡ true
unfolding subset
subset_of a b f = below_of (λ j. implies (member a j) (member b j)) board_room (λ i l. implies_of (member a i) (member b i) (f i l))

pub subset_refl : (a : ℕ) → subset a a ≡ true
subset_refl a = subset_of a a (λ i l m. m)

pub subset_trans : (a b c : ℕ) → subset a b ≡ true → subset b c ≡ true → subset a c ≡ true
subset_trans a b c p q = subset_of a c (λ i l m. subset_at b c q i l (subset_at a b p i l m))

pub subset_empty : (b : ℕ) → subset empty b ≡ true
subset_empty b = subset_of empty b (λ i l m. differs (sym m ∙ member_empty i))

-- only the empty set lies within the empty set
pub empty_subset : (a : ℕ) → a < 2 ^ board_room → subset a empty ≡ true → a ≡ empty
empty_subset a h p =
    empty_of board_room a h (λ i l. ⊎_elim (λ m. differs (sym (subset_at a empty p i l m) ∙ member_empty i)) (λ m. m) (either (member a i)))

pub subset_insert : (a b i : ℕ) → subset a b ≡ true → subset a (insert b i) ≡ true
subset_insert a b i p = subset_of a (insert b i) (λ j l m. insert_keeps b i j (subset_at a b p j l m))

pub subset_remove : (a b i : ℕ) → subset a b ≡ true → subset (remove a i) (remove b i) ≡ true
subset_remove a b i p =
    subset_of (remove a i) (remove b i)
    (λ j l m. let w = remove_was a i j m in remove_other b i j w.1 ∙ subset_at a b p j l w.0)

pub remove_subset : (a i : ℕ) → subset (remove a i) a ≡ true
remove_subset a i = subset_of (remove a i) a (λ j l m. (remove_was a i j m).0)

-- ---- sets of boards 1 to n

abbrev board : ℕ → ℕ → ℕ → Bool
board n s i = implies (member s i) (leb 1 i && leb i n)

pub boards_lt : (n s : ℕ) → boards_only n s ≡ true → s < 2 ^ board_room
unfolding boards_only
boards_lt n s h = ltb-true s (2 ^ board_room) (search and_l)

pub boards_at : (n s : ℕ) → boards_only n s ≡ true → (i : ℕ) → member s i ≡ true → (1 ≤ i) × (i ≤ n)
unfolding boards_only
boards_at n s h i m =
    let l = member_lt board_room s i (boards_lt n s h) m in
    let b = implied (member s i) (leb 1 i && leb i n) (below_at (board n s) board_room (and_r (ltb s (2 ^ board_room)) (all_below board_room (board n s)) h) i l) m in
    (leb-true 1 i (and_l (leb 1 i) (leb i n) b), leb-true i n (and_r (leb 1 i) (leb i n) b))

pub boards_of : (n s : ℕ) → s < 2 ^ board_room → ((i : ℕ) → member s i ≡ true → (1 ≤ i) × (i ≤ n)) → boards_only n s ≡ true
unfolding boards_only
boards_of n s h f =
    and_of (ltb s (2 ^ board_room)) (all_below board_room (board n s)) (lt-ltb s (2 ^ board_room) h)
    (below_of (board n s) board_room (λ i l. implies_of (member s i) (leb 1 i && leb i n)
    (λ m. let w = f i m in and_of (leb 1 i) (leb i n) (le-leb 1 i w.0) (le-leb i n w.1))))

pub boards_empty : (n : ℕ) → boards_only n empty ≡ true
boards_empty n = boards_of n empty (omega arith) (λ i m. differs (sym m ∙ member_empty i))

pub boards_insert : (n s i : ℕ) → i < board_room → 1 ≤ i → i ≤ n → boards_only n s ≡ true → boards_only n (insert s i) ≡ true
boards_insert n s i l toℕ top h =
    boards_of n (insert s i) (insert_lt board_room s i l (boards_lt n s h))
    (λ j m. ⊎_elim (λ (e : j ≡ i). (omega arith, omega arith))
    (λ ne. boards_at n s h j (sym (insert_other s i j ne) ∙ m)) (same_or_not j i))

pub boards_remove : (n s i : ℕ) → boards_only n s ≡ true → boards_only n (remove s i) ≡ true
boards_remove n s i h =
    boards_of n (remove s i) (remove_lt board_room s i (boards_lt n s h)) (λ j m. boards_at n s h j (remove_was s i j m).0)

pub boards_subset : (n a b : ℕ) → a < 2 ^ board_room → subset a b ≡ true → boards_only n b ≡ true → boards_only n a ≡ true
boards_subset n a b l p h =
    boards_of n a l (λ i m. boards_at n b h i (subset_at a b p i (member_lt board_room a i l m) m))

pub boards_no_home : (n s : ℕ) → boards_only n s ≡ true → member s 0 ≡ false
boards_no_home n s h =
    ⊎_elim (λ (m : member s 0 ≡ true). absurd (omega (arith, (boards_at n s h 0 m).0))) (λ m. m) (either (member s 0))

-- such a set is an even number below 2 ^ (n + 1), and the other way round
pub boards_top : (n s : ℕ) → boards_only n s ≡ true → s < 2 ^ suc n
boards_top n s h =
    lt_of_none (suc n) board_room s (boards_lt n s h)
    (λ i p q. ⊎_elim (λ (m : member s i ≡ true). absurd (omega (arith, (boards_at n s h i m).1))) (λ m. m) (either (member s i)))

pub boards_from : (n s : ℕ) → s < 2 ^ board_room → member s 0 ≡ false → s < 2 ^ suc n → boards_only n s ≡ true
boards_from n s l z h =
    boards_of n s l (λ i m. let top = member_lt (suc n) s i h m in
    (⊎_elim (λ (e : i ≡ 0). differs (sym m ∙ ap (member s) e ∙ z)) (λ (e : i ≡ 0 → ⊥). omega arith) (same_or_not i 0), omega arith))

-- ---- the lowest member

first_here : (k s i : ℕ) → member s i ≡ true → first_from (suc k) s i ≡ i
unfolding first_from
first_here k s i e = ap (λ (t : Bool). cond t i (first_from k s (suc i))) e

first_next : (k s i : ℕ) → member s i ≡ false → first_from (suc k) s i ≡ first_from k s (suc i)
unfolding first_from
first_next k s i e = ap (λ (t : Bool). cond t i (first_from k s (suc i))) e

first_le : (k s i : ℕ) → first_from k s i ≤ i + k
unfolding first_from
first_le zero s i = omega arith
first_le (suc k) s i =
    ⊎_elim (λ e. omega (arith, first_here k s i e)) (λ e. omega (arith, first_next k s i e, first_le k s (suc i))) (either (member s i))

first_member : (k s i : ℕ) → first_from k s i < i + k → member s (first_from k s i) ≡ true
unfolding first_from
first_member zero s i l = absurd (omega arith)
first_member (suc k) s i l =
    ⊎_elim (λ e. ap (member s) (first_here k s i e) ∙ e)
    (λ e. ap (member s) (first_next k s i e) ∙ first_member k s (suc i) (omega (arith, first_next k s i e)))
    (either (member s i))

first_least : (k s i j : ℕ) → i ≤ j → j < first_from k s i → member s j ≡ false
unfolding first_from
first_least zero s i j l h = absurd (omega arith)
first_least (suc k) s i j l h =
    ⊎_elim (λ e. absurd (omega (arith, first_here k s i e)))
    (λ e. ⊎_elim (λ (q : j ≡ i). ap (member s) q ∙ e)
    (λ (q : j ≡ i → ⊥). first_least k s (suc i) j (omega arith) (omega (arith, first_next k s i e)))
    (same_or_not j i))
    (either (member s i))

pub lowest_le : (s : ℕ) → lowest s ≤ board_room
unfolding lowest
lowest_le s = first_le board_room s 0

pub lowest_member : (s : ℕ) → lowest s < board_room → member s (lowest s) ≡ true
unfolding lowest
lowest_member s l = first_member board_room s 0 l

pub lowest_least : (s j : ℕ) → j < lowest s → member s j ≡ false
unfolding lowest
lowest_least s j l = first_least board_room s 0 j (omega arith) l

-- no member is lower
pub lowest_under : (s j : ℕ) → member s j ≡ true → lowest s ≤ j
lowest_under s j m = ⊎_elim (λ (l : j < lowest s). differs (sym m ∙ lowest_least s j l)) (λ (l : lowest s ≤ j). l) (lt_or_le j (lowest s))

-- a member below which there is none is the lowest
pub lowest_is : (s i : ℕ) → i < board_room → member s i ≡ true → ((j : ℕ) → j < i → member s j ≡ false) → lowest s ≡ i
lowest_is s i l m f =
    let top = lowest_under s i m in
    ⊎_elim (λ (q : lowest s < i). differs (sym (lowest_member s (omega arith)) ∙ f (lowest s) q)) (λ (q : i ≤ lowest s). omega arith)
    (lt_or_le (lowest s) i)

pub lowest_empty : lowest empty ≡ board_room
lowest_empty =
    ⊎_elim (λ (l : lowest empty < board_room). differs (sym (lowest_member empty l) ∙ member_empty (lowest empty)))
    (λ (l : board_room ≤ lowest empty). omega (arith, lowest_le empty)) (lt_or_le (lowest empty) board_room)

pub lowest_none : (s : ℕ) → s < 2 ^ board_room → lowest s ≡ board_room → s ≡ empty
lowest_none s h e = empty_of board_room s h (λ i l. lowest_least s i (omega arith))

pub lowest_lt : (s : ℕ) → s < 2 ^ board_room → (s ≡ empty → ⊥) → lowest s < board_room
lowest_lt s h ne =
    ⊎_elim (λ (l : lowest s < board_room). l) (λ (l : board_room ≤ lowest s). absurd (ne (lowest_none s h (omega (arith, lowest_le s)))))
    (lt_or_le (lowest s) board_room)

pub lowest_insert : (s i : ℕ) → i < board_room → lowest (insert s i) ≡ min (lowest s) i
lowest_insert s i l =
    ⊎_elim
    (λ (q : lowest s < i). lowest_is (insert s i) (lowest s) (omega arith) (insert_keeps s i (lowest s) (lowest_member s (omega arith)))
    (λ j h. insert_other s i j (λ e. omega arith) ∙ lowest_least s j h) ∙ omega arith)
    (λ (q : i ≤ lowest s). lowest_is (insert s i) i l (insert_same s i)
    (λ j h. insert_other s i j (λ e. omega arith) ∙ lowest_least s j (omega arith)) ∙ omega arith)
    (lt_or_le (lowest s) i)

-- a removal of another board leaves the lowest
pub lowest_remove : (s i : ℕ) → lowest s < board_room → (lowest s ≡ i → ⊥) → lowest (remove s i) ≡ lowest s
lowest_remove s i l ne =
    lowest_is (remove s i) (lowest s) l (remove_other s i (lowest s) ne ∙ lowest_member s l)
    (λ j h. ⊎_elim (λ (m : member (remove s i) j ≡ true). differs (sym (remove_was s i j m).0 ∙ lowest_least s j h)) (λ m. m)
    (either (member (remove s i) j)))

-- ---- the number of members

pub size_insert : (s i : ℕ) → i < board_room → member s i ≡ false → size (insert s i) ≡ suc (size s)
unfolding size
size_insert s i l h = count_more (member s) (member (insert s i)) i h (insert_same s i) (insert_other s i) board_room l

pub size_remove : (s i : ℕ) → i < board_room → member s i ≡ true → suc (size (remove s i)) ≡ size s
unfolding size
size_remove s i l h =
    sym (count_more (member (remove s i)) (member s) i (remove_same s i) h (λ j ne. sym (remove_other s i j ne)) board_room l)

pub size_empty : size empty ≡ 0
unfolding size
size_empty = count_none (member empty) board_room (λ i l. member_empty i)

pub size_subset : (a b : ℕ) → subset a b ≡ true → size a ≤ size b
unfolding size
size_subset a b p = count_mono (member a) (member b) board_room (subset_at a b p)

pub size_le : (s : ℕ) → size s ≤ board_room
unfolding size
size_le s = count_le (member s) board_room
