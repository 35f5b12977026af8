-- `record::sizes::in_range` meets its contract: a range that is not used up contains what is between its ends; the tests are otherwise grouped.
use Prim.Native.Nat.{ℕ}
use lib.Dec.{leb}
use mathlib.Core.Path.{◌≡◌, sym, ap, ◌∙◌}
use mathlib.Core.Bool.{Bool, false, cond, ◌&&◌, and_assoc}
use native.Mathlib.Omega.{arith}
use Rattle.std.specs.Ordering.{nat_cmp, is_le, is_lt}
use Rattle.std.proofs.lemmas.Bool.Decides.{nat_tests}
use Rattle.record.proofs.sizes.in_range.Goals as goal

le_is : (x y : ℕ) → is_le (nat_cmp x y) ≡ leb x y
le_is x y = grind (arith, nat_tests)

contains_is : (low x high start end : ℕ) (exhausted : Bool) → start ≡ low → end ≡ high → exhausted ≡ false
    → (is_le (nat_cmp start x) && cond exhausted (is_lt (nat_cmp x end)) (is_le (nat_cmp x end))) ≡ (leb low x && leb x high)
contains_is low x high start end exhausted s e n =
    (λ i. is_le (nat_cmp (s i) x) && cond (n i) (is_lt (nat_cmp x (e i))) (is_le (nat_cmp x (e i))))
    ∙ (λ i. le_is low x i && le_is x high i)

regroup : (a b c d e f : Bool) → ((a && b) && (c && d) && (e && f)) ≡ (a && b && c && d && e && f)
regroup a b c d e f = sym (and_assoc (a && b && c && d) e f ∙ ap (λ (t : Bool). t && (e && f)) (and_assoc (a && b) c d))

pub returns : goal.returns
returns c = (λ i.
    (c.contains.ensures.value ∙ contains_is 1 c.args.boards 15 _ _ _ c.new.ensures.start c.new.ensures.end c.new.ensures.exhausted) i
    && (c.contains-2.ensures.value ∙ contains_is 1 c.args.blocks 32 _ _ _ c.new-2.ensures.start c.new-2.ensures.end c.new-2.ensures.exhausted) i
    && (c.contains-3.ensures.value ∙ contains_is c.args.boards c.args.tokens 64 _ _ _ c.new-3.ensures.start c.new-3.ensures.end c.new-3.ensures.exhausted) i)
    ∙ regroup (leb 1 c.args.boards) (leb c.args.boards 15) (leb 1 c.args.blocks) (leb c.args.blocks 32) (leb c.args.boards c.args.tokens) (leb c.args.tokens 64)
