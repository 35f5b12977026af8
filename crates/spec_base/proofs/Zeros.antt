-- Parts of a list made 0, and layouts whose value is written as zeros: by `take`, `drop` and `++` alone.
use Prim.Native.Nat.{ℕ, zero, suc, ◌+◌, ◌*◌, ◌≤◌, ◌<◌}
use native.Mathlib.Nat.{add-zero, zero-add, zero-mul, suc-mul, add_comm, le_of_eq}
use native.Mathlib.Numerals.{add-one}
use native.Mathlib.Omega.{arith}
use mathlib.Core.Path.{◌≡◌, sym, ap, ◌∙◌}
use mathlib.Core.List.{List, ◌++◌, append_assoc}
use lib.ListN.{length, get_or, set, take, drop, replicate, length-replicate, get_or-replicate, replicate-append-replicate, length-drop}
use lib.Seq.{drop-drop, length-take-le, take_all, paste, paste-zero, paste-suc, length-paste}
use lib.Dec.{eqb}
use Rattle.std.specs.List.{between}
use Rattle.std.proofs.lemmas.List.Edits.{get_or-between, length-between}
use Rattle.spec_base.specs.Folds.{all_below}
use Rattle.spec_base.specs.Layout.{Layout, slice, modify_at, write_items}
use Rattle.spec_base.proofs.Folds.{below_same}
use Rattle.spec_base.proofs.Parts.{over_over}
use Rattle.spec_base.proofs.Copies.{Full}

-- ---- bytes made 0 one by one

module _ (s₀ : List ℕ) (at count : ℕ) where
  -- the first i of them are
  abbrev pub clearing : ℕ → List ℕ
  clearing i = paste s₀ at (replicate count 0) i

  pub clear_none : s₀ ≡ clearing 0
  clear_none = paste-zero s₀ at (replicate count 0)

  module _ (room : at + count ≤ length s₀) where
    pub clear_kept : (i : ℕ) (s : List ℕ) → i ≤ count → s ≡ clearing i → length s ≡ length s₀
    clear_kept i s l e = ap length e ∙ length-paste s₀ at (replicate count 0) i (omega arith) (rw length-replicate l)

    pub clear_more : (i : ℕ) (s : List ℕ) → i < count → s ≡ clearing i → set s (at + i) 0 ≡ clearing (i + 1)
    clear_more i s l e =
        ap (λ (r : List ℕ). set r (at + i) 0) e
        ∙ ap (set (clearing i) (at + i)) (sym (get_or-replicate count i 0 0 l))
        ∙ paste-suc s₀ at (replicate count 0) i 0 (omega arith) (rw length-replicate l)
        ∙ ap clearing (sym (add-one i))

    pub clear_all : clearing count ≡ modify_at at count (λ t. replicate count 0) s₀
    clear_all =
        append_assoc (take at s₀) (take count (replicate count 0)) (drop (at + count) s₀)
        ∙ ap (λ (r : List ℕ). take at s₀ ++ (r ++ drop (at + count) s₀)) (take_all count (replicate count 0) (le_of_eq (length-replicate count 0)))

-- ---- bytes tested for 0, as code that is lent them alone has it

pub zero_part : (at end n : ℕ) (s : List ℕ) → end ≡ at + n → end ≤ length s
    → all_below (length (between at end s)) (λ i. eqb (get_or (between at end s) i 0) 0) ≡ all_below n (λ i. eqb (get_or s (at + i) 0) 0)
zero_part at end n s e l =
    let long : length (between at end s) ≡ n = omega (arith, length-between s at end l) in
    ap (λ (k : ℕ). all_below k (λ i. eqb (get_or (between at end s) i 0) 0)) long
    ∙ below_same (λ i. eqb (get_or (between at end s) i 0) 0) (λ i. eqb (get_or s (at + i) 0) 0) n (λ i h. ap (λ (x : ℕ). eqb x 0) (get_or-between s at end i 0 (omega arith)))

-- ---- a change of a part that reaches only its first bytes

pub over_start : (f : List ℕ → List ℕ) (x : List ℕ) (p m j : ℕ) (s : List ℕ) → j ≤ m → f (slice p m s) ≡ x ++ drop j (slice p m s) → modify_at p m f s ≡ modify_at p j (λ t. x) s
over_start f x p m j s l e =
    ap (λ (r : List ℕ). take p s ++ (r ++ drop (p + m) s)) (e ∙ ap (λ (k : ℕ). x ++ drop k (slice p m s)) (sym (zero-add j)))
    ∙ over_over (λ t. x) p m 0 j s (omega arith)
    ∙ ap (λ (k : ℕ). modify_at k j (λ t. x) s) (add-zero p)

-- ---- items that are written as zeros

module _ {A : Type 0} (L : Layout A) {P : A → Type 0} (F : Full L P) (v : A) (o : P v) (z : L.write v (replicate L.size 0) ≡ replicate L.size 0) where
  pub items_zero : (n : ℕ) (s : List ℕ) → n * L.size ≤ length s → write_items L (replicate n v) s ≡ replicate (n * L.size) 0 ++ drop (n * L.size) s
  items_zero zero s l = ap (λ (k : ℕ). replicate k 0 ++ drop k s) (sym (zero-mul L.size))
  items_zero (suc n) s l =
      let k : ℕ = L.size in
      let r : n * k + k ≤ length s = omega arith in
      (λ i.
      (F.fills v o (take k s) (replicate k 0) (length-take-le k s (omega arith)) (length-replicate k 0) ∙ z) i
      ++ items_zero n (drop k s) (simp length-drop (omega arith)) i)
      ∙ sym (append_assoc (replicate k 0) (replicate (n * k) 0) (drop (n * k) (drop k s)))
      ∙ (λ i. replicate-append-replicate k (n * k) 0 i ++ drop-drop (n * k) k s i)
      ∙ ap (λ (j : ℕ). replicate j 0 ++ drop j s) (add_comm k (n * k) ∙ sym (suc-mul n k))
