-- Places: where a value stands inside another, to change it alone is to write over its own bytes. Places compose.
use Prim.Native.Nat.{ℕ, zero, suc, ◌+◌, ◌*◌, ◌≤◌, ◌<◌}
use native.Mathlib.Nat.{le_refl, add-zero, zero-add, add_assoc, zero-mul, suc-mul, add_comm, not-suc-le-zero, le_of_suc-le-suc, le_trans, mul-le-mul_right, suc-add}
use native.Mathlib.Omega.{arith}
use mathlib.Core.Path.{◌≡◌, refl, sym, ap, ◌∙◌, subst}
use mathlib.Core.Bool.{Bool, ◌&&◌}
use mathlib.Core.List.{List, [], ◌∷◌, ◌++◌, append_assoc, append-nil}
use lib.ListN.{length, get_or, set, take, drop, length-append, take-append-drop}
use lib.Seq.{take-take, drop-drop, take_at, drop_at, length-take-le, get_or-take, get_or-drop}
use Rattle.spec_base.specs.Folds.{all_below}
use Rattle.spec_base.proofs.Folds.{below_none, below_same, below_first}
use Rattle.spec_base.specs.Layout.{Layout, slice, modify_at, byte, pair, iso, items, read_items, write_items, well_formed_items}
use Rattle.spec_base.proofs.Parts.{drop_take, part_part, over_behind, over_over, length_part}
use Rattle.spec_base.proofs.Laws.{Stands, Lawful, stands_first, stands_second, stands_iso, StandItems, stands_item, stand_rest, stand_items, items_unchanged, cut_first, cut_second, cut_rest}

-- M stands in L at a place: what it holds is a part of what L holds, and to change that part alone is to write M there
pub record Place {A B : Type 0} (L : Layout A) (M : Layout B) (place : ℕ) (look : A → B) (change : B → A → A) : Type 0 where
  pub inside : place + M.size ≤ L.size
  pub looks : (s : List ℕ) → look (L.read s) ≡ M.read (slice place M.size s)
  pub changes : (v : B) (s : List ℕ) → Stands L s → L.write (change v (L.read s)) s ≡ modify_at place M.size (M.write v) s
  pub stands : (s : List ℕ) → Stands L s → Stands M (slice place M.size s)

-- ---- a place in a place

module _ {A B C : Type 0} {L : Layout A} {M : Layout B} {N : Layout C} {p q : ℕ} {look : A → B} {change : B → A → A} {look' : B → C} {change' : C → B → B} where
  pub within : Place L M p look change → Place M N q look' change' → Place L N (p + q) (λ a. look' (look a)) (λ v a. change (change' v (look a)) a)
  within P Q =
      record {
        inside = let a : p + M.size ≤ L.size = P.inside in let b : q + N.size ≤ M.size = Q.inside in omega arith;
        looks = λ s. ap look' (P.looks s) ∙ Q.looks (slice p M.size s) ∙ ap N.read (part_part p M.size q N.size s Q.inside);
        changes = λ v s h.
            let r : List ℕ = slice p M.size s in
            ap (λ (m : B). L.write (change (change' v m) (L.read s)) s) (P.looks s)
            ∙ P.changes (change' v (M.read r)) s h
            ∙ ap (λ (w : List ℕ). take p s ++ (w ++ drop (p + M.size) s)) (Q.changes v r (P.stands s h))
            ∙ over_over (N.write v) p M.size q N.size s Q.inside;
        stands = λ s h. subst (Stands N) (part_part p M.size q N.size s Q.inside) (Q.stands (slice p M.size s) (P.stands s h));
      }

-- ---- the first and the second of two

module _ {A B : Type 0} (L : Layout A) (M : Layout B) {P : A → Type 0} {Q : B → Type 0} (λL : Lawful L P) (λM : Lawful M Q) where
  pub first : Place (pair L M) L 0 (λ v. v.0) (λ a v. (a, v.1))
  first =
      record {
        inside = omega arith;
        looks = λ s. refl;
        changes = λ v s h.
            ap (λ (r : List ℕ). L.write v (take L.size s) ++ (r ++ drop (L.size + M.size) s)) (λM.unchanged (slice L.size M.size s) (stands_second L M s h))
            ∙ ap (λ (r : List ℕ). L.write v (take L.size s) ++ (slice L.size M.size s ++ r)) (sym (drop-drop M.size L.size s))
            ∙ ap (λ (r : List ℕ). L.write v (take L.size s) ++ r) (take-append-drop M.size (drop L.size s))
            ∙ ap (λ (k : ℕ). L.write v (take L.size s) ++ drop k s) (sym (zero-add L.size));
        stands = stands_first L M;
      }

  pub second : Place (pair L M) M L.size (λ v. v.1) (λ b v. (v.0, b))
  second =
      record {
        inside = omega arith;
        looks = λ s. refl;
        changes = λ v s h.
            ap (λ (r : List ℕ). r ++ (M.write v (slice L.size M.size s) ++ drop (L.size + M.size) s))
            (λL.unchanged (take L.size s) (stands_first L M s h));
        stands = stands_second L M;
      }

-- ---- a place of a value is a place of what it tells

module _ {A B C : Type 0} (L : Layout A) (M : Layout C) {p : ℕ} {look : A → C} {change : C → A → A} (to : A → B) (from : B → A) where
  pub iso_place : ((a : A) → from (to a) ≡ a) → Place L M p look change → Place (iso L to from) M p (λ b. look (from b)) (λ v b. to (change v (from b)))
  iso_place e P =
      record {
        inside = P.inside;
        looks = λ s. ap look (e (L.read s)) ∙ P.looks s;
        changes = λ v s h.
            ap (λ (a : A). L.write a s) (e (change v (from (to (L.read s)))) ∙ ap (change v) (e (L.read s))) ∙ P.changes v s (stands_iso L to from s h);
        stands = λ s h. P.stands s (stands_iso L to from s h);
      }

-- ---- an item

module _ {A : Type 0} (L : Layout A) where
  -- past the first item, the next one stands one size further
  next : (i : ℕ) → L.size + i * L.size ≡ suc i * L.size
  next i = add_comm L.size (i * L.size) ∙ sym (suc-mul i L.size)

  pub item_looks : (d : A) (n i : ℕ) (s : List ℕ) → i < n → get_or (read_items L n s) i d ≡ L.read (slice (i * L.size) L.size s)
  item_looks d zero i s h = absurd (not-suc-le-zero h)
  item_looks d (suc n) zero s h = ap (λ (k : ℕ). L.read (slice k L.size s)) (sym (zero-mul L.size))
  item_looks d (suc n) (suc i) s h =
      item_looks d n i (drop L.size s) (le_of_suc-le-suc h)
      ∙ ap (λ (r : List ℕ). L.read (take L.size r)) (drop-drop (i * L.size) L.size s)
      ∙ ap (λ (k : ℕ). L.read (slice k L.size s)) (next i)

  -- the items are of the layout's form where each of them is
  pub formed_below : (n : ℕ) (s : List ℕ) → well_formed_items L n s ≡ all_below n (λ i. L.well_formed (slice (i * L.size) L.size s))
  formed_below zero s = sym (below_none (λ i. L.well_formed (slice (i * L.size) L.size s)))
  formed_below (suc n) s =
      (λ i. L.well_formed (ap (λ (k : ℕ). slice k L.size s) (sym (zero-mul L.size)) i) && formed_below n (drop L.size s) i)
      ∙ ap (λ (t : Bool). L.well_formed (slice (0 * L.size) L.size s) && t)
      (below_same (λ i. L.well_formed (slice (i * L.size) L.size (drop L.size s))) (λ i. L.well_formed (slice (suc i * L.size) L.size s)) n
      (λ i l. ap (λ (r : List ℕ). L.well_formed (take L.size r)) (drop-drop (i * L.size) L.size s) ∙ ap (λ (k : ℕ). L.well_formed (slice k L.size s)) (next i)))
      ∙ sym (below_first (λ i. L.well_formed (slice (i * L.size) L.size s)) n)

  item_stands : (n i : ℕ) (s : List ℕ) → i < n → StandItems L n s → Stands L (slice (i * L.size) L.size s)
  item_stands zero i s h t = absurd (not-suc-le-zero h)
  item_stands (suc n) zero s h t = subst (λ (k : ℕ). Stands L (slice k L.size s)) (sym (zero-mul L.size)) (stands_item L n s t)
  item_stands (suc n) (suc i) s h t =
      subst (λ (k : ℕ). Stands L (slice k L.size s)) (next i)
      (subst (λ (r : List ℕ). Stands L (take L.size r)) (drop-drop (i * L.size) L.size s)
      (item_stands n i (drop L.size s) (le_of_suc-le-suc h) (stand_rest L n s t)))

  module _ {P : A → Type 0} (λL : Lawful L P) where
    item_changes : (n i : ℕ) (v : A) (s : List ℕ) → i < n → StandItems L n s
        → write_items L (set (read_items L n s) i v) s ≡ modify_at (i * L.size) L.size (L.write v) s
    item_changes zero i v s h t = absurd (not-suc-le-zero h)
    item_changes (suc n) zero v s h t =
        ap (λ (r : List ℕ). L.write v (take L.size s) ++ r) (items_unchanged L λL n (drop L.size s) (stand_rest L n s t))
        ∙ ap (λ (k : ℕ). L.write v (take L.size s) ++ drop k s) (sym (zero-add L.size))
        ∙ ap (λ (k : ℕ). modify_at k L.size (L.write v) s) (sym (zero-mul L.size))
    item_changes (suc n) (suc i) v s h t =
        (λ j. λL.unchanged (take L.size s) (stands_item L n s t) j
        ++ item_changes n i v (drop L.size s) (le_of_suc-le-suc h) (stand_rest L n s t) j)
        ∙ over_behind (L.write v) L.size (i * L.size) L.size s
        ∙ ap (λ (k : ℕ). modify_at k L.size (L.write v) s) (next i)

    -- d is what is read past the last
    pub item : (d : A) (room n i : ℕ) → n ≤ room → i < n → Place (items L room n) L (i * L.size) (λ xs. get_or xs i d) (λ v xs. set xs i v)
    item d room n i r h =
        record {
          inside = let q : suc i * L.size ≤ room * L.size = mul-le-mul_right L.size (le_trans h r) in omega arith;
          looks = λ s. item_looks d n i s h;
          changes = λ v s t. item_changes n i v s h (stand_items L room n s r t);
          stands = λ s t. item_stands n i s h (stand_items L room n s r t);
        }

-- ---- a value at a place of a longer list, as code reads and writes it

pub read_byte : (p : ℕ) (s : List ℕ) → byte.read (slice p 1 s) ≡ get_or s p 0
read_byte p s = get_or-take 1 (drop p s) 0 0 (omega arith) ∙ get_or-drop p s 0 0 ∙ ap (λ (n : ℕ). get_or s n 0) (add-zero p)

pub write_byte : (p v : ℕ) (s : List ℕ) → p < length s → set s p v ≡ modify_at p 1 (byte.write v) s
write_byte p v [] l = absurd (not-suc-le-zero l)
write_byte zero v (x ∷ s) l = refl
write_byte (suc p) v (x ∷ s) l =
    ap (λ (r : List ℕ). x ∷ r) (write_byte p v s (le_of_suc-le-suc l))
    ∙ ap (λ (n : ℕ). take (suc p) (x ∷ s) ++ (byte.write v (slice p 1 s) ++ drop n (x ∷ s))) (sym (suc-add p 1))

regroup : (a x y d : List ℕ) → a ++ ((x ++ (y ++ [])) ++ d) ≡ (a ++ x) ++ (y ++ d)
regroup a x y d = simp (append-nil, append_assoc)

-- two values are read one after the other
module _ {A B : Type 0} (L : Layout A) (M : Layout B) (p : ℕ) (s : List ℕ) where
  pub read_pair : (pair L M).read (slice p (L.size + M.size) s) ≡ (L.read (slice p L.size s), M.read (slice (p + L.size) M.size s))
  read_pair = λ i. (
    L.read (take-take L.size (L.size + M.size) (drop p s) (omega arith) i),
    M.read (part_part p (L.size + M.size) L.size M.size s (le_refl (L.size + M.size)) i),
  )

  -- and written one after the other
  pub write_pair : {P : A → Type 0} → Lawful L P → (v : A × B) → p + (L.size + M.size) ≤ length s
      → modify_at p (L.size + M.size) ((pair L M).write v) s ≡ modify_at (p + L.size) M.size (M.write v.1) (modify_at p L.size (L.write v.0) s)
  write_pair λL v l =
      let k : ℕ = L.size in
      let m : ℕ = M.size in
      let t : List ℕ = slice p (k + m) s in
      let x : List ℕ = L.write v.0 (slice p k s) in
      let y : List ℕ = M.write v.1 (slice (p + k) m s) in
      let R : List ℕ = drop (p + k) s in
      let D : List ℕ = drop (p + k + m) s in
      let lx : length x ≡ k = λL.keeps v.0 (slice p k s) ∙ length_part p k s (omega arith) in
      let lp : length (take p s) ≡ p = length-take-le p s (omega arith) in
      let lpx : length (take p s ++ x) ≡ p + k = length-append (take p s) x ∙ (λ i. lp i + lx i) in
      let front : take (p + k) (take p s ++ (x ++ R)) ≡ take p s ++ x = ap (take (p + k)) (sym (append_assoc (take p s) x R)) ∙ take_at (take p s ++ x) R (p + k) lpx in
      let behind : drop (p + k) (take p s ++ (x ++ R)) ≡ R = ap (drop (p + k)) (sym (append_assoc (take p s) x R)) ∙ drop_at (take p s ++ x) R (p + k) lpx in
      let rest : drop (p + k + m) (take p s ++ (x ++ R)) ≡ D = sym (drop-drop m (p + k) (take p s ++ (x ++ R))) ∙ ap (drop m) behind ∙ drop-drop m (p + k) s in
      let none : drop (k + m) t ≡ [] = ap (λ (n : ℕ). drop (k + m) (take n (drop p s))) (sym (add-zero (k + m))) ∙ drop_take (k + m) 0 (drop p s) in
      (λ i. take p s ++ ((L.write v.0 (take-take k (k + m) (drop p s) (omega arith) i) ++ (M.write v.1 (part_part p (k + m) k m s (le_refl (k + m)) i) ++ none i)) ++ drop (sym (add_assoc p k m) i) s))
      ∙ regroup (take p s) x y D
      ∙ sym (λ i. front i ++ (M.write v.1 (take m (behind i)) ++ rest i))

-- a second change, within what a first has changed
pub over_in : (f g : List ℕ → List ℕ) (p m q n : ℕ) (s : List ℕ) → length (g (slice p m s)) ≡ length (slice p m s) → p + m ≤ length s → q + n ≤ m
    → modify_at (p + q) n f (modify_at p m g s) ≡ modify_at p m (λ t. modify_at q n f (g t)) s
over_in f g p m q n s e l h =
    let x : List ℕ = take p s in
    let y : List ℕ = g (slice p m s) in
    sym (over_over f p m q n (modify_at p m g s) h)
    ∙ (λ i. cut_first p m x y s refl e l i ++ (modify_at q n f (cut_second p m x y s refl e l i) ++ cut_rest p m x y s refl e l i))

-- a change behind a list that is put in front
pub over_past : (f : List ℕ → List ℕ) (k q n : ℕ) (x s : List ℕ) → length x ≡ k → modify_at (k + q) n f (x ++ s) ≡ x ++ modify_at q n f s
over_past f k q n x s e =
    sym (over_behind f k q n (x ++ s)) ∙ (λ i. take_at x s k e i ++ modify_at q n f (drop_at x s k e i))
