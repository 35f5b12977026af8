-- Items appended, copied and removed: a layout that leaves none of its bytes as it was can be copied byte by byte.
use Prim.Native.Nat.{ℕ, zero, suc, ◌+◌, ◌*◌, ◌-◌, ◌^◌, ◌≤◌, ◌<◌}
use native.Mathlib.Nat.{sub-zero, one-mul, suc-sub-suc, zero-add, zero-mul, suc-mul, add_comm, not-suc-le-zero, le_of_suc-le-suc, le_of_eq}
use native.Mathlib.Omega.{arith}
use mathlib.Core.Path.{◌≡◌, refl, sym, ap, ◌∙◌}
use mathlib.Core.Bool.{Bool}
use mathlib.Core.List.{List, [], ◌∷◌, ◌++◌, append_assoc, append-nil}
use lib.ListN.{length, set, take, drop, length-drop, drop_of_length-le}
use lib.Seq.{drop-drop, take-add, length-take-le}
use Rattle.spec_base.specs.Folds.{toℕ, All, remove_at}
use Rattle.spec_base.specs.Number.{digits}
use Rattle.spec_base.specs.Layout.{Layout, slice, modify_at, overwrite, byte, flag, big, pair, iso, iso_where, items, read_items, write_items}
use Rattle.spec_base.proofs.Parts.{over_behind, length_part, bytes_take, cover_room}
use Rattle.spec_base.proofs.Numbers.{length_digits}
use Rattle.spec_base.proofs.Laws.{Lawful, Items, StandItems, stands_item, stand_rest}
use Rattle.spec_base.proofs.Places.{over_past}

-- ---- one item more

module _ {A : Type 0} (L : Layout A) {P : A → Type 0} (λL : Lawful L P) where
  pub items_more : (xs : List A) (v : A) (s : List ℕ) → suc (length xs) * L.size ≤ length s
      → write_items L (xs ++ (v ∷ [])) s ≡ modify_at (length xs * L.size) L.size (L.write v) (write_items L xs s)
  items_more [] v s l =
      ap (λ (k : ℕ). L.write v (take L.size s) ++ drop k s) (sym (zero-add L.size))
      ∙ ap (λ (k : ℕ). modify_at k L.size (L.write v) s) (sym (zero-mul L.size))
  items_more (x ∷ xs) v s l =
      let r : length xs * L.size + L.size + L.size ≤ length s = omega arith in
      ap (λ (t : List ℕ). L.write x (take L.size s) ++ t) (items_more xs v (drop L.size s) (simp length-drop (omega arith)))
      ∙ sym (over_past (L.write v) L.size (length xs * L.size) L.size (L.write x (take L.size s)) (write_items L xs (drop L.size s)) (λL.keeps x (take L.size s) ∙ length-take-le L.size s (omega arith)))
      ∙ ap (λ (k : ℕ). modify_at k L.size (L.write v) (write_items L (x ∷ xs) s)) (add_comm L.size (length xs * L.size) ∙ sym (suc-mul (length xs) L.size))

-- ---- layouts that leave none of their bytes as it was

pub record Full {A : Type 0} (L : Layout A) (P : A → Type 0) : Type 0 where
  pub fills : (a : A) → P a → (s t : List ℕ) → length s ≡ L.size → length t ≡ L.size → L.write a s ≡ L.write a t

one_set : (v : ℕ) (s t : List ℕ) → length s ≡ 1 → length t ≡ 1 → set s 0 v ≡ set t 0 v
one_set v [] t p q = let z : ◌≡◌ {A = ℕ} 0 1 = p in absurd (omega arith)
one_set v (x ∷ []) [] p q = let z : ◌≡◌ {A = ℕ} 0 1 = q in absurd (omega arith)
one_set v (x ∷ []) (y ∷ []) p q = refl
one_set v (x ∷ []) (y ∷ z ∷ t) p q = let e : suc (suc (length t)) ≡ 1 = q in absurd (omega arith)
one_set v (x ∷ y ∷ s) t p q = let e : suc (suc (length s)) ≡ 1 = p in absurd (omega arith)

pub full_byte : Full byte (λ v. v < 256)
full_byte = record { fills = λ v o s t p q. one_set v s t p q }

pub full_flag : Full flag (λ v. Unit {0})
full_flag = record { fills = λ v o s t p q. one_set (toℕ v) s t p q }

module _ (n : ℕ) where
  pub alone : (v : ℕ) (s : List ℕ) → length s ≡ n → overwrite (digits n v) s ≡ digits n v
  alone v s p =
      cover_room (digits n v) s (le_of_eq (length_digits n v ∙ sym p))
      ∙ ap (λ (r : List ℕ). digits n v ++ r) (drop_of_length-le s (le_of_eq (p ∙ sym (length_digits n v))))
      ∙ append-nil (digits n v)

  pub full_big : Full (big n) (λ v. v < 256 ^ n)
  full_big = record { fills = λ v o s t p q. alone v s p ∙ sym (alone v t q) }

module _ {A B : Type 0} (L : Layout A) (M : Layout B) {P : A → Type 0} {Q : B → Type 0} where
  pub full_pair : Full L P → Full M Q → Full (pair L M) (λ v. P v.0 × Q v.1)
  full_pair F G = record {
    fills = λ v o s t p q. λ i.
        F.fills v.0 o.0 (take L.size s) (take L.size t) (length-take-le L.size s (omega arith)) (length-take-le L.size t (omega arith)) i
        ++ (G.fills v.1 o.1 (slice L.size M.size s) (slice L.size M.size t) (length_part L.size M.size s (omega arith)) (length_part L.size M.size t (omega arith)) i
        ++ (drop_of_length-le s (le_of_eq p) ∙ sym (drop_of_length-le t (le_of_eq q))) i);
  }

module _ {A B : Type 0} (L : Layout A) (to : A → B) (from : B → A) {P : A → Type 0} {Q : B → Type 0} where
  pub full_iso : ((b : B) → Q b → P (from b)) → Full L P → Full (iso L to from) Q
  full_iso here F = record { fills = λ v o s t p q. F.fills (from v) (here v o) s t p q }

  pub full_where : (test : A → Bool) → ((b : B) → Q b → P (from b)) → Full L P → Full (iso_where L test to from) Q
  full_where test here F = record { fills = λ v o s t p q. F.fills (from v) (here v o) s t p q }

module _ {A : Type 0} (L : Layout A) {P : A → Type 0} where
  full_list : Full L P → (xs : List A) → All P xs → (s t : List ℕ) → length s ≡ length xs * L.size → length t ≡ length xs * L.size → write_items L xs s ≡ write_items L xs t
  full_list F [] o s t p q = drop_of_length-le s {i = 0} (omega arith) ∙ sym (drop_of_length-le t {i = 0} (omega arith))
  full_list F (x ∷ xs) o s t p q =
      let ls : length s ≡ length xs * L.size + L.size = omega arith in
      let lt : length t ≡ length xs * L.size + L.size = omega arith in
      λ i.
      F.fills x o.0 (take L.size s) (take L.size t) (length-take-le L.size s (omega arith)) (length-take-le L.size t (omega arith)) i
      ++ full_list F xs o.1 (drop L.size s) (drop L.size t) (simp length-drop (omega arith)) (simp length-drop (omega arith)) i

  pub full_items : Full L P → (n : ℕ) → Full (items L n n) (Items P n)
  full_items F n =
      record { fills = λ xs o s t p q. full_list F xs o.1 s t (p ∙ ap (λ (k : ℕ). k * L.size) (sym o.0)) (q ∙ ap (λ (k : ℕ). k * L.size) (sym o.0)) }

-- ---- items copied, and an item removed

next : (p k : ℕ) → k + p * k ≡ suc p * k
next p k = add_comm k (p * k) ∙ sym (suc-mul p k)

front_removed : (n k : ℕ) (s : List ℕ) → take (n * k) (drop k s) ++ drop (n * k) s ≡ modify_at (0 * k) ((n - 0) * k) (λ r. slice (1 * k) ((n - 0) * k) s) s
front_removed n k s = simp (zero-mul, sub-zero, one-mul, zero-add)

module _ {A : Type 0} (L : Layout A) {P : A → Type 0} (λL : Lawful L P) (F : Full L P) where
  -- items read from one list and written over another
  pub items_copied : (n : ℕ) (u s : List ℕ) → StandItems L n u → n * L.size ≤ length s
      → write_items L (read_items L n u) s ≡ take (n * L.size) u ++ drop (n * L.size) s
  items_copied zero u s h ls = ap (λ (k : ℕ). take k u ++ drop k s) (sym (zero-mul L.size))
  items_copied (suc n) u s h ls =
      let k : ℕ = L.size in
      let hu : n * k + k ≤ length u = omega (arith, h.room) in
      let hs : n * k + k ≤ length s = omega arith in
      (λ i.
      (F.fills (L.read (take k u)) (λL.holds (take k u) (bytes_take k u h.bytes)) (take k s) (take k u) (length-take-le k s (omega arith)) (length-take-le k u (omega arith))
      ∙ λL.unchanged (take k u) (stands_item L n u h)) i
      ++ items_copied n (drop k u) (drop k s) (stand_rest L n u h) (simp length-drop (omega arith)) i)
      ∙ sym (append_assoc (take k u) (take (n * k) (drop k u)) (drop (n * k) (drop k s)))
      ∙ (λ i. sym (take-add k (n * k) u) i ++ drop-drop (n * k) k s i)
      ∙ ap (λ (j : ℕ). take j u ++ drop j s) (next n k)

  -- an item is removed, the rest moving up: the bytes behind it are copied over its own
  pub items_removed : (n p : ℕ) (s : List ℕ) → p ≤ n → StandItems L (suc n) s
      → write_items L (remove_at (read_items L (suc n) s) p) s ≡ modify_at (p * L.size) ((n - p) * L.size) (λ r. slice (suc p * L.size) ((n - p) * L.size) s) s
  items_removed n zero s h t =
      let k : ℕ = L.size in
      let hs : n * k + k ≤ length s = omega (arith, t.room) in
      items_copied n (drop k s) s (stand_rest L n s t) (omega arith)
      ∙ front_removed n k s
  items_removed zero (suc p) s h t = absurd (not-suc-le-zero h)
  items_removed (suc n) (suc p) s h t =
      let k : ℕ = L.size in
      (λ i. λL.unchanged (take k s) (stands_item L (suc n) s t) i
      ++ items_removed n p (drop k s) (le_of_suc-le-suc h) (stand_rest L (suc n) s t) i)
      ∙ over_behind (λ r. slice (suc p * k) ((n - p) * k) (drop k s)) k (p * k) ((n - p) * k) s
      ∙ (λ i. modify_at (next p k i) ((n - p) * k) (λ r. take ((n - p) * k) (drop-drop (suc p * k) k s i)) s)
      ∙ (λ i. modify_at (suc p * k) (sym (suc-sub-suc n p) i * k) (λ r. slice (next (suc p) k i) (sym (suc-sub-suc n p) i * k) s) s)
