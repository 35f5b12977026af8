-- Sets of blocks as bits of a number: the machine's operations; the pass over all blocks, which collects those in which a board is barred; and the pass over these.
use Prim.Native.Nat.{ℕ, zero, suc, ◌+◌, ◌*◌, ◌/◌, ◌%◌, ◌^◌, ◌≤◌, ◌<◌}
use native.Mathlib.Omega.{arith}
use mathlib.Core.Path.{◌≡◌, refl, sym, ap, ◌∙◌}
use mathlib.Core.Logic.{⊎_elim}
use mathlib.Core.Bool.{Bool, true, false, cond, ◌&&◌}
use lib.Bits.{bit_or, or_zero_r}
use lib.Count.{count_trailing_zeros, under}
use lib.Pow.{pow_pos, shl_exact}
use Rattle.spec_base.specs.Folds.{toℕ, all_below, implies}
use Rattle.spec_base.proofs.Tests.{either, differs, same_or_not, same_test, and_r, and_of, implied, implies_of}
use Rattle.spec_base.proofs.Folds.{below_at, below_of, below_fails}
use Rattle.spec_arbiter.specs.Boards.{member, insert, remove}
use Rattle.spec_arbiter.proofs.Boards.{bit_zero, bit_suc, bit_in, bit_le, in_of_bit, member_empty, insert_same, insert_other, remove_in, remove_other, remove_was}
use Rattle.arbiter.proofs.SetBits.{or_insert}

-- ---- the machine's operations

pub bit_of : (i : ℕ) → i < 32 → (1 * 2 ^ i) % 2 ^ 32 ≡ 2 ^ i
bit_of i l = shl_exact {a = 1} 1 i 32 (omega arith) (omega arith) ∙ omega arith

-- `s | 1 << i`
pub or_bit : (s i : ℕ) → i < 32 → bit_or s ((1 * 2 ^ i) % 2 ^ 32) ≡ insert s i
or_bit s i l = ap (bit_or s) (bit_of i l) ∙ or_insert s i

-- `s | test << i`
pub or_insert_if : (s i : ℕ) (t : Bool) → i < 32 → bit_or s ((toℕ t * 2 ^ i) % 2 ^ 32) ≡ cond t (insert s i) s
or_insert_if s i true l = or_bit s i l
or_insert_if s i false l = ap (bit_or s) (shl_exact {a = 0} 0 i 32 (omega arith) (omega arith) ∙ omega arith) ∙ or_zero_r s

-- `u32::trailing_zeros(s)`
pub choose_in : (k s : ℕ) → s < 2 ^ k → 0 < s → (count_trailing_zeros k s < k) × (member s (count_trailing_zeros k s) ≡ true)
unfolding count_trailing_zeros
choose_in zero s h l = absurd (omega arith)
choose_in (suc k) s h l = ⊎_elim odd (λ (ne : s % 2 ≡ 1 → ⊥). even (omega arith) (choose_in k (s / 2) (omega arith) (omega arith))) (same_or_not (s % 2) 1)
  where
    odd : s % 2 ≡ 1 → (count_trailing_zeros (suc k) s < suc k) × (member s (count_trailing_zeros (suc k) s) ≡ true)
    odd e = let z : count_trailing_zeros (suc k) s ≡ 0 = ap (λ (d : ℕ). under d (count_trailing_zeros k (s / 2))) e in
        (omega arith, ap (member s) z ∙ in_of_bit s 0 (bit_zero s ∙ e))

    even : s % 2 ≡ 0 → (count_trailing_zeros k (s / 2) < k) × (member (s / 2) (count_trailing_zeros k (s / 2)) ≡ true) → (count_trailing_zeros (suc k) s < suc k) × (member s (count_trailing_zeros (suc k) s) ≡ true)
    even e r = let z : count_trailing_zeros (suc k) s ≡ suc (count_trailing_zeros k (s / 2)) = ap (λ (d : ℕ). under d (count_trailing_zeros k (s / 2))) e in
        (omega (arith, r.0), ap (member s) z ∙ in_of_bit s (suc (count_trailing_zeros k (s / 2))) (bit_suc s (count_trailing_zeros k (s / 2)) ∙ bit_in (s / 2) (count_trailing_zeros k (s / 2)) r.1))

pub remove_less : (s i : ℕ) → member s i ≡ true → remove s i < s
remove_less s i m = omega (arith, remove_in s i m, bit_le s i (bit_in s i m), pow_pos i)

-- ---- the pass over all blocks: t and c say whether a block's tokens and claims are sound, `barred` is the set collected

module _ (t c : ℕ → Bool) where
  -- after b blocks
  pub record FirstPass (b barred : ℕ) : Type 0 where
    pub inside : (k : ℕ) → member barred k ≡ true → k < b
    pub tokens : (k : ℕ) → k < b → t k ≡ true
    pub claims : (k : ℕ) → k < b → member barred k ≡ false → c k ≡ true

  pub first_start : FirstPass 0 0
  first_start = record { inside = λ k m. differs (sym m ∙ member_empty k); tokens = λ k l. absurd (omega arith); claims = λ k l m. absurd (omega arith) }

  pub first_turn : (b barred : ℕ) (w : Bool) → FirstPass b barred → t b ≡ true → (w ≡ false → c b ≡ true) → FirstPass (b + 1) (cond w (insert barred b) barred)
  first_turn b barred true h e f =
      record {
        inside = λ k m. ⊎_elim (λ (z : k ≡ b). omega arith) (λ (ne : k ≡ b → ⊥). omega (arith, h.inside k (sym (insert_other barred b k ne) ∙ m))) (same_or_not k b);
        tokens = λ k l. ⊎_elim (λ (z : k ≡ b). ap t z ∙ e) (λ (ne : k ≡ b → ⊥). h.tokens k (omega arith)) (same_or_not k b);
        claims = λ k l m. ⊎_elim (λ (z : k ≡ b). differs (sym (ap (member (insert barred b)) z ∙ insert_same barred b) ∙ m))
            (λ (ne : k ≡ b → ⊥). h.claims k (omega arith) (sym (insert_other barred b k ne) ∙ m)) (same_or_not k b);
      }
  first_turn b barred false h e f =
      record {
        inside = λ k m. omega (arith, h.inside k m);
        tokens = λ k l. ⊎_elim (λ (z : k ≡ b). ap t z ∙ e) (λ (ne : k ≡ b → ⊥). h.tokens k (omega arith)) (same_or_not k b);
        claims = λ k l m. ⊎_elim (λ (z : k ≡ b). ap c z ∙ f refl) (λ (ne : k ≡ b → ⊥). h.claims k (omega arith) m) (same_or_not k b);
      }

  -- the claims of the collected blocks decide
  pub first_end : (count barred : ℕ) → count ≤ 32 → FirstPass count barred → all_below 32 (λ k. implies (member barred k) (c k)) ≡ all_below count (λ k. t k && c k)
  first_end count barred l h =
      same_test (all_below 32 (λ k. implies (member barred k) (c k))) (all_below count (λ k. t k && c k))
      (λ q. below_of (λ k. t k && c k) count
      (λ k u. and_of (t k) (c k) (h.tokens k u)
      (⊎_elim (λ m. implied (member barred k) (c k) (below_at (λ j. implies (member barred j) (c j)) 32 q k (omega arith)) m) (λ m. h.claims k u m) (either (member barred k)))))
      (λ q. below_of (λ k. implies (member barred k) (c k)) 32
      (λ k u. implies_of (member barred k) (c k) (λ m. and_r (t k) (c k) (below_at (λ j. t j && c j) count q k (h.inside k m)))))

-- ---- the pass over the collected blocks

module _ (barred : ℕ) (c : ℕ → Bool) where
  pub record SecondPass (left : ℕ) : Type 0 where
    pub inside : (k : ℕ) → member left k ≡ true → member barred k ≡ true
    pub done : (k : ℕ) → member left k ≡ false → member barred k ≡ true → c k ≡ true

  abbrev pub barred_fine : Bool
  barred_fine = all_below 32 (λ k. implies (member barred k) (c k))

  pub second_start : SecondPass barred
  second_start = record { inside = λ k m. m; done = λ k m n. differs (sym n ∙ m) }

  pub second_turn : (left i : ℕ) → member left i ≡ true → c i ≡ true → SecondPass left → SecondPass (remove left i)
  second_turn left i m e h =
      record {
        inside = λ k n. h.inside k (remove_was left i k n).0;
        done = λ k n w. ⊎_elim (λ (z : k ≡ i). ap c z ∙ e) (λ (ne : k ≡ i → ⊥). h.done k (sym (remove_other left i k ne) ∙ n) w) (same_or_not k i);
      }

  pub second_end : (left : ℕ) → left ≡ 0 → SecondPass left → barred_fine ≡ true
  second_end left z h = below_of (λ k. implies (member barred k) (c k)) 32 (λ k l. implies_of (member barred k) (c k) (h.done k (ap (λ (s : ℕ). member s k) z ∙ member_empty k)))

  pub second_fails : (left i : ℕ) → i < 32 → member left i ≡ true → c i ≡ false → SecondPass left → barred_fine ≡ false
  second_fails left i l m e h = below_fails (λ k. implies (member barred k) (c k)) 32 i l (ap (λ (t : Bool). implies t (c i)) (h.inside i m) ∙ e)
