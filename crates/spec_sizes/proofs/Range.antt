-- What sizes in range are: the test's parts as facts.
use Prim.Native.Nat.{ℕ, ◌≤◌}
use native.Mathlib.Omega.{arith}
use mathlib.Core.Path.{◌≡◌, refl}
use mathlib.Core.Logic.{◌⊎◌, inl, inr, ⊎_elim}
use mathlib.Core.Bool.{Bool, true, false, ◌||◌}
use borrow.Author.Tests.{leb-true, eqb-true}
use lib.Dec.{eqb}
use Rattle.spec_base.proofs.Tests.{and_l, and_r}
use Rattle.spec_sizes.specs.declared.Sizes.{Sizes}
use Rattle.spec_sizes.specs.Sizes.{limits, in_range}

or_cases : (a b : Bool) → (a || b) ≡ true → (a ≡ true) ⊎ (b ≡ true)
or_cases true b h = inl refl
or_cases false b h = inr h

-- either limit leaves the record's room for 64 messages enough
limit_low : (l : ℕ) → limits l ≡ true → l ≤ 64
limit_low l h = one_of l _ _ h (omega arith) (omega arith)
  where
    one_of : (l a b : ℕ) → (eqb l a || eqb l b) ≡ true → a ≤ 64 → b ≤ 64 → l ≤ 64
    one_of l a b e ha hb = ⊎_elim (λ q. omega (arith, eqb-true l a q)) (λ q. omega (arith, eqb-true l b q)) (or_cases (eqb l a) (eqb l b) e)

pub record Range (z : Sizes) : Type 0 where
  pub some_boards : 1 ≤ z.boards
  pub boards : z.boards ≤ 15
  pub some_blocks : 1 ≤ z.blocks
  pub blocks : z.blocks ≤ 32
  pub enough : z.boards ≤ z.tokens
  pub tokens : z.tokens ≤ 64
  pub limit : z.limit ≤ 64

pub range : (z : Sizes) → in_range z ≡ true → Range z
unfolding in_range
range z h =
    record {
      some_boards = leb-true _ _ (search (and_l, and_r) depth 8);
      boards = leb-true _ _ (search (and_l, and_r) depth 8);
      some_blocks = leb-true _ _ (search (and_l, and_r) depth 8);
      blocks = leb-true _ _ (search (and_l, and_r) depth 8);
      enough = leb-true _ _ (search (and_l, and_r) depth 8);
      tokens = leb-true _ _ (search (and_l, and_r) depth 8);
      limit = limit_low z.limit (search (and_l, and_r) depth 8);
    }
