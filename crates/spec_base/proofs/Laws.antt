-- The laws of layouts: each way to make a layout from others keeps them, since it writes each part within that part's own bytes.
use Prim.Native.Nat.{ℕ, zero, suc, ◌+◌, ◌*◌, ◌^◌, ◌≤◌, ◌<◌}
use native.Mathlib.Nat.{not-suc-le-zero, le_of_suc-le-suc, le_trans, le_of_eq, mul-le-mul_right, pow-le-pow_right}
use native.Mathlib.Omega.{arith}
use mathlib.Core.Path.{◌≡◌, refl, sym, ap, ◌∙◌, subst}
use mathlib.Core.Bool.{Bool, true}
use mathlib.Core.List.{List, [], ◌∷◌, ◌++◌}
use lib.Dec.{eqb}
use lib.ListN.{length, get_or, set, take, drop, length-append, length-take, length-drop, length-set, take-append-drop}
use lib.Seq.{drop-drop, take_at, drop_at, length-take-le, set-get_or, set-set, get_or-set_same}
use borrow.Author.Tests.{ltb-true, lt-ltb}
use Rattle.spec_base.specs.Folds.{toℕ, All}
use Rattle.spec_base.proofs.Tests.{and_l, and_r, and_of, one_lt, one_eqb, eqb_one}
use Rattle.spec_base.specs.Number.{Bytes, number, digits}
use Rattle.spec_base.specs.Layout.{Layout, slice, overwrite, byte, flag, big, pair, iso, iso_where, items, read_items, write_items, well_formed_items}
use Rattle.spec_base.proofs.Parts.{bytes_drop, bytes_take, bytes_append, bytes_set, length_part, length_cover, cover_room, cover_same, cover_again, bytes_cover}
use Rattle.spec_base.proofs.Numbers.{length_digits, bytes_digits, number_digits, number_below, digits_number}

-- bytes of the form that the layout writes, and enough of them
pub record Stands {A : Type 0} (L : Layout A) (s : List ℕ) : Type 0 where
  pub bytes : Bytes s
  pub well_formed : L.well_formed s ≡ true
  pub room : L.size ≤ length s

-- Ok are the values that the layout can hold
pub record Lawful {A : Type 0} (L : Layout A) (Ok : A → Type 0) : Type 0 where
  pub keeps : (a : A) (s : List ℕ) → length (L.write a s) ≡ length s
  pub unchanged : (s : List ℕ) → Stands L s → L.write (L.read s) s ≡ s
  pub back : (a : A) (s : List ℕ) → Ok a → L.size ≤ length s → L.read (L.write a s) ≡ a
  pub again : (a b : A) (s : List ℕ) → Ok a → Ok b → L.size ≤ length s → L.write a (L.write b s) ≡ L.write a s
  pub forms : (a : A) (s : List ℕ) → Ok a → L.size ≤ length s → L.well_formed (L.write a s) ≡ true
  pub bytes : (a : A) (s : List ℕ) → Ok a → Bytes s → Bytes (L.write a s)
  pub holds : (s : List ℕ) → Bytes s → Ok (L.read s)

-- what was written stands
pub written : {A : Type 0} (L : Layout A) {P : A → Type 0} → Lawful L P → (a : A) (s : List ℕ) → P a → Bytes s → L.size ≤ length s → Stands L (L.write a s)
written L λL a s o b l = record { bytes = λL.bytes a s o b; well_formed = λL.forms a s o l; room = rw (λL.keeps a s) l }

-- ---- one byte, a flag, a number

pub byte_lawful : Lawful byte (λ v. v < 256)
byte_lawful =
    record {
      keeps = λ a s. length-set s 0 a;
      unchanged = λ s h. set-get_or s 0 0;
      back = λ a s o l. get_or-set_same s 0 a 0 l;
      again = λ a b s o q l. set-set s 0 b a;
      forms = λ a s o l. refl;
      bytes = λ a s o h. bytes_set s 0 a o h;
      holds = λ s h. h 0;
    }

pub flag_lawful : Lawful flag (λ v. Unit {0})
flag_lawful =
    record {
      keeps = λ a s. length-set s 0 (toℕ a);
      unchanged = λ s h. ap (set s 0) (eqb_one (get_or s 0 0) (ltb-true (get_or s 0 0) 2 h.well_formed)) ∙ set-get_or s 0 0;
      back = λ a s o l. ap (λ (n : ℕ). eqb n 1) (get_or-set_same s 0 (toℕ a) 0 l) ∙ one_eqb a;
      again = λ a b s o q l. set-set s 0 (toℕ b) (toℕ a);
      forms = λ a s o l. rw (get_or-set_same s 0 (toℕ a) 0 l) (lt-ltb (toℕ a) 2 (one_lt a));
      bytes = λ a s o h. bytes_set s 0 (toℕ a) (omega (arith, one_lt a)) h;
      holds = λ s h. tt;
    }

module _ (n : ℕ) where
  front : (v : ℕ) (s : List ℕ) → n ≤ length s → take n (overwrite (digits n v) s) ≡ digits n v
  front v s l =
      ap (take n) (cover_room (digits n v) s (rw length_digits l)) ∙ take_at (digits n v) (drop (length (digits n v)) s) n (length_digits n v)

  pub big_lawful : Lawful (big n) (λ v. v < 256 ^ n)
  big_lawful =
      record {
        keeps = λ a s. length_cover (digits n a) s;
        unchanged = λ s h.
            let e : length (take n s) ≡ n = length-take-le n s h.room in
            ap (λ (l : List ℕ). overwrite l s) (ap (λ (k : ℕ). digits k (number (take n s))) (sym e) ∙ digits_number (take n s) (bytes_take n s h.bytes))
            ∙ cover_same n s;
        back = λ a s o l. ap number (front a s l) ∙ number_digits n a o;
        again = λ a b s o q l. cover_again (digits n a) (digits n b) s (length_digits n a ∙ sym (length_digits n b));
        forms = λ a s o l. refl;
        bytes = λ a s o h. bytes_cover (digits n a) s (bytes_digits n a) h;
        holds = λ s h.
            let k : length (take n s) ≤ n = simp length-take (omega arith) in
            let few : 256 ^ length (take n s) ≤ 256 ^ n = pow-le-pow_right {n = 256} (omega arith) k in
            omega (arith, number_below (take n s) (bytes_take n s h));
      }

-- ---- two values

-- the two sides of a seam at k
module _ (k : ℕ) (x y s : List ℕ) (e : length x ≡ length (take k s)) (l : k ≤ length s) where
  seam : length x ≡ k
  seam = e ∙ length-take-le k s l

  take_seam : take k (x ++ y) ≡ x
  take_seam = take_at x y k seam

  drop_seam : drop k (x ++ y) ≡ y
  drop_seam = drop_at x y k seam

-- the first k, the next m and the rest
pub cut : (k m : ℕ) (s : List ℕ) → take k s ++ (slice k m s ++ drop (k + m) s) ≡ s
cut k m s =
    ap (λ (r : List ℕ). take k s ++ (slice k m s ++ r)) (sym (drop-drop m k s))
    ∙ ap (λ (r : List ℕ). take k s ++ r) (take-append-drop m (drop k s))
    ∙ take-append-drop k s

-- the three cuts of a list that was put together from three, as long as the cuts of another
module _ (k m : ℕ) (x y s : List ℕ) (ex : length x ≡ length (take k s)) (ey : length y ≡ length (slice k m s)) where
  pub cuts_length : length (x ++ (y ++ drop (k + m) s)) ≡ length s
  cuts_length = simp length-append (simp (length-append, ← ex, ← ey) at (ap length (cut k m s)))

  module _ (l : k + m ≤ length s) where
    pub cut_first : take k (x ++ (y ++ drop (k + m) s)) ≡ x
    cut_first = take_seam k x (y ++ drop (k + m) s) s ex (omega arith)

    cut_behind : drop k (x ++ (y ++ drop (k + m) s)) ≡ y ++ drop (k + m) s
    cut_behind = drop_seam k x (y ++ drop (k + m) s) s ex (omega arith)

    cut_length : length y ≡ m
    cut_length = ey ∙ length_part k m s l

    pub cut_second : slice k m (x ++ (y ++ drop (k + m) s)) ≡ y
    cut_second = ap (take m) cut_behind ∙ take_at y (drop (k + m) s) m cut_length

    pub cut_rest : drop (k + m) (x ++ (y ++ drop (k + m) s)) ≡ drop (k + m) s
    cut_rest = sym (drop-drop m k (x ++ (y ++ drop (k + m) s))) ∙ ap (drop m) cut_behind ∙ drop_at y (drop (k + m) s) m cut_length

module _ {A B : Type 0} (L : Layout A) (M : Layout B) where
  -- each of the two stands in its own part
  pub stands_first : (s : List ℕ) → Stands (pair L M) s → Stands L (take L.size s)
  stands_first s h =
      record {
        bytes = bytes_take L.size s h.bytes;
        well_formed = and_l (L.well_formed (take L.size s)) (M.well_formed (slice L.size M.size s)) h.well_formed;
        room = let l : L.size + M.size ≤ length s = h.room in simp length-take (omega arith);
      }

  pub stands_second : (s : List ℕ) → Stands (pair L M) s → Stands M (slice L.size M.size s)
  stands_second s h =
      record {
        bytes = bytes_take M.size (drop L.size s) (bytes_drop L.size s h.bytes);
        well_formed = and_r (L.well_formed (take L.size s)) (M.well_formed (slice L.size M.size s)) h.well_formed;
        room = le_of_eq (sym (length_part L.size M.size s h.room));
      }

module _ {A B : Type 0} (L : Layout A) (M : Layout B) {P : A → Type 0} {Q : B → Type 0} (λL : Lawful L P) (λM : Lawful M Q) where
  abbrev x : A × B → List ℕ → List ℕ
  x v s = L.write v.0 (take L.size s)

  abbrev y : A × B → List ℕ → List ℕ
  y v s = M.write v.1 (slice L.size M.size s)

  ex : (v : A × B) (s : List ℕ) → length (x v s) ≡ length (take L.size s)
  ex v s = λL.keeps v.0 (take L.size s)

  ey : (v : A × B) (s : List ℕ) → length (y v s) ≡ length (slice L.size M.size s)
  ey v s = λM.keeps v.1 (slice L.size M.size s)

  l₁ : (s : List ℕ) → L.size + M.size ≤ length s → L.size ≤ length (take L.size s)
  l₁ s l = simp length-take (omega arith)

  l₂ : (s : List ℕ) → L.size + M.size ≤ length s → M.size ≤ length (slice L.size M.size s)
  l₂ s l = le_of_eq (sym (length_part L.size M.size s l))

  c₁ : (v : A × B) (s : List ℕ) → L.size + M.size ≤ length s → take L.size ((pair L M).write v s) ≡ x v s
  c₁ v s l = cut_first L.size M.size (x v s) (y v s) s (ex v s) (ey v s) l

  c₂ : (v : A × B) (s : List ℕ) → L.size + M.size ≤ length s → slice L.size M.size ((pair L M).write v s) ≡ y v s
  c₂ v s l = cut_second L.size M.size (x v s) (y v s) s (ex v s) (ey v s) l

  -- a second write covers a first where it does so for each of the two
  pub pair_again : (v w : A × B) (s : List ℕ) → L.size + M.size ≤ length s
      → L.write v.0 (x w s) ≡ x v s → M.write v.1 (y w s) ≡ y v s → (pair L M).write v ((pair L M).write w s) ≡ (pair L M).write v s
  pair_again v w s l p q =
      let k : ℕ = L.size in
      let m : ℕ = M.size in
      λ i. (ap (L.write v.0) (c₁ w s l) ∙ p) i
      ++ ((ap (M.write v.1) (c₂ w s l) ∙ q) i ++ cut_rest k m (x w s) (y w s) s (ex w s) (ey w s) l i)

  pub pair_lawful : Lawful (pair L M) (λ v. P v.0 × Q v.1)
  pair_lawful =
      record {
        keeps = λ v s. cuts_length L.size M.size (x v s) (y v s) s (ex v s) (ey v s);
        unchanged = λ s h.
            (λ i. λL.unchanged (take L.size s) (stands_first L M s h) i
            ++ (λM.unchanged (slice L.size M.size s) (stands_second L M s h) i ++ drop (L.size + M.size) s))
            ∙ cut L.size M.size s;
        back = λ v s o l. λ i. (
          (ap L.read (c₁ v s l) ∙ λL.back v.0 (take L.size s) o.0 (l₁ s l)) i,
          (ap M.read (c₂ v s l) ∙ λM.back v.1 (slice L.size M.size s) o.1 (l₂ s l)) i,
        );
        again = λ v w s o q l.
            pair_again v w s l (λL.again v.0 w.0 (take L.size s) o.0 q.0 (l₁ s l)) (λM.again v.1 w.1 (slice L.size M.size s) o.1 q.1 (l₂ s l));
        forms = λ v s o l.
            and_of (L.well_formed (take L.size ((pair L M).write v s))) (M.well_formed (slice L.size M.size ((pair L M).write v s)))
            (ap L.well_formed (c₁ v s l) ∙ λL.forms v.0 (take L.size s) o.0 (l₁ s l))
            (ap M.well_formed (c₂ v s l) ∙ λM.forms v.1 (slice L.size M.size s) o.1 (l₂ s l));
        bytes = λ v s o h.
            bytes_append (x v s) (y v s ++ drop (L.size + M.size) s)
            (λL.bytes v.0 (take L.size s) o.0 (bytes_take L.size s h))
            (bytes_append (y v s) (drop (L.size + M.size) s) (λM.bytes v.1 (slice L.size M.size s) o.1 (bytes_take M.size (drop L.size s) (bytes_drop L.size s h))) (bytes_drop (L.size + M.size) s h));
        holds = λ s h. (λL.holds (take L.size s) (bytes_take L.size s h), λM.holds (slice L.size M.size s) (bytes_take M.size (drop L.size s) (bytes_drop L.size s h)));
      }

-- ---- a value told by another

module _ {A B : Type 0} (L : Layout A) (to : A → B) (from : B → A) where
  pub stands_iso : (s : List ℕ) → Stands (iso L to from) s → Stands L s
  stands_iso s h = record { bytes = h.bytes; well_formed = h.well_formed; room = h.room }

  module _ {P : A → Type 0} {Q : B → Type 0} (λL : Lawful L P)
      (there : (a : A) → P a → Q (to a)) (here : (b : B) → Q b → P (from b))
      (from-to : (a : A) → P a → from (to a) ≡ a) (to-from : (b : B) → Q b → to (from b) ≡ b) where
    pub iso_lawful : Lawful (iso L to from) Q
    iso_lawful =
        record {
          keeps = λ v s. λL.keeps (from v) s;
          unchanged = λ s h. ap (λ (a : A). L.write a s) (from-to (L.read s) (λL.holds s h.bytes)) ∙ λL.unchanged s (stands_iso s h);
          back = λ v s o l. ap to (λL.back (from v) s (here v o) l) ∙ to-from v o;
          again = λ v w s o q l. λL.again (from v) (from w) s (here v o) (here w q) l;
          forms = λ v s o l. λL.forms (from v) s (here v o) l;
          bytes = λ v s o h. λL.bytes (from v) s (here v o) h;
          holds = λ s h. there (L.read s) (λL.holds s h);
        }

-- the same where only values that pass a test are written
module _ {A B : Type 0} (L : Layout A) (test : A → Bool) (to : A → B) (from : B → A) where
  pub stands_where : (s : List ℕ) → Stands (iso_where L test to from) s → Stands L s
  stands_where s h = record { bytes = h.bytes; well_formed = and_l (L.well_formed s) (test (L.read s)) h.well_formed; room = h.room }

  module _ {P : A → Type 0} {Q : B → Type 0} (λL : Lawful L P)
      (there : (a : A) → P a → Q (to a)) (here : (b : B) → Q b → P (from b)) (passes : (b : B) → test (from b) ≡ true)
      (from-to : (a : A) → test a ≡ true → from (to a) ≡ a) (to-from : (b : B) → to (from b) ≡ b) where
    pub where_lawful : Lawful (iso_where L test to from) Q
    where_lawful =
        record {
          keeps = λ v s. λL.keeps (from v) s;
          unchanged = λ s h.
              ap (λ (a : A). L.write a s) (from-to (L.read s) (and_r (L.well_formed s) (test (L.read s)) h.well_formed)) ∙ λL.unchanged s (stands_where s h);
          back = λ v s o l. ap to (λL.back (from v) s (here v o) l) ∙ to-from v;
          again = λ v w s o q l. λL.again (from v) (from w) s (here v o) (here w q) l;
          forms = λ v s o l.
              and_of (L.well_formed (L.write (from v) s)) (test (L.read (L.write (from v) s))) (λL.forms (from v) s (here v o) l)
              (ap test (λL.back (from v) s (here v o) l) ∙ passes v);
          bytes = λ v s o h. λL.bytes (from v) s (here v o) h;
          holds = λ s h. there (L.read s) (λL.holds s h);
        }

-- ---- items

-- n items, each one that the layout can hold
abbrev pub Items : {A : Type 0} → (A → Type 0) → ℕ → List A → Type 0
Items P n xs = (length xs ≡ n) × All P xs

module _ {A : Type 0} (L : Layout A) where
  pub length_read_items : (n : ℕ) (s : List ℕ) → length (read_items L n s) ≡ n
  length_read_items zero s = refl
  length_read_items (suc n) s = ap suc (length_read_items n (drop L.size s))

  -- n items stand at the front of the bytes
  pub record StandItems (n : ℕ) (s : List ℕ) : Type 0 where
    pub bytes : Bytes s
    pub well_formed : well_formed_items L n s ≡ true
    pub room : n * L.size ≤ length s

  pub stands_item : (n : ℕ) (s : List ℕ) → StandItems (suc n) s → Stands L (take L.size s)
  stands_item n s h =
      record {
        bytes = bytes_take L.size s h.bytes;
        well_formed = and_l (L.well_formed (take L.size s)) (well_formed_items L n (drop L.size s)) h.well_formed;
        room = let l : n * L.size + L.size ≤ length s = omega (arith, h.room) in simp length-take (omega arith);
      }

  pub stand_rest : (n : ℕ) (s : List ℕ) → StandItems (suc n) s → StandItems n (drop L.size s)
  stand_rest n s h =
      record {
        bytes = bytes_drop L.size s h.bytes;
        well_formed = and_r (L.well_formed (take L.size s)) (well_formed_items L n (drop L.size s)) h.well_formed;
        room = let l : n * L.size + L.size ≤ length s = omega (arith, h.room) in simp length-drop (omega arith);
      }

  pub stand_items : (room n : ℕ) (s : List ℕ) → n ≤ room → Stands (items L room n) s → StandItems n s
  stand_items room n s l h =
      record { bytes = h.bytes; well_formed = h.well_formed; room = le_trans (mul-le-mul_right L.size l) h.room }

module _ {A : Type 0} (L : Layout A) {P : A → Type 0} (λL : Lawful L P) where
  pub items_keeps : (xs : List A) (s : List ℕ) → length (write_items L xs s) ≡ length s
  items_keeps [] s = refl
  items_keeps (x ∷ xs) s =
      length-append (L.write x (take L.size s)) (write_items L xs (drop L.size s))
      ∙ (λ i. λL.keeps x (take L.size s) i + items_keeps xs (drop L.size s) i)
      ∙ sym (length-append (take L.size s) (drop L.size s)) ∙ ap length (take-append-drop L.size s)

  pub items_unchanged : (n : ℕ) (s : List ℕ) → StandItems L n s → write_items L (read_items L n s) s ≡ s
  items_unchanged zero s h = refl
  items_unchanged (suc n) s h =
      (λ i. λL.unchanged (take L.size s) (stands_item L n s h) i ++ items_unchanged n (drop L.size s) (stand_rest L n s h) i)
      ∙ take-append-drop L.size s

  pub items_holds : (n : ℕ) (s : List ℕ) → Bytes s → All P (read_items L n s)
  items_holds zero s h = tt
  items_holds (suc n) s h = (λL.holds (take L.size s) (bytes_take L.size s h), items_holds n (drop L.size s) (bytes_drop L.size s h))

  pub items_bytes : (xs : List A) (s : List ℕ) → All P xs → Bytes s → Bytes (write_items L xs s)
  items_bytes [] s o h = h
  items_bytes (x ∷ xs) s o h =
      bytes_append (L.write x (take L.size s)) (write_items L xs (drop L.size s))
      (λL.bytes x (take L.size s) o.0 (bytes_take L.size s h))
      (items_bytes xs (drop L.size s) o.1 (bytes_drop L.size s h))

  module _ (x : A) (xs : List A) (s : List ℕ) (l : suc (length xs) * L.size ≤ length s) where
    room : length xs * L.size + L.size ≤ length s
    room = omega arith

    first_room : L.size ≤ length (take L.size s)
    first_room = let r : length xs * L.size + L.size ≤ length s = room in simp length-take (omega arith)

    rest_room : length xs * L.size ≤ length (drop L.size s)
    rest_room = let r : length xs * L.size + L.size ≤ length s = room in simp length-drop (omega arith)

    first_part : take L.size (write_items L (x ∷ xs) s) ≡ L.write x (take L.size s)
    first_part =
        let r : length xs * L.size + L.size ≤ length s = room in
        take_seam L.size (L.write x (take L.size s)) (write_items L xs (drop L.size s)) s (λL.keeps x (take L.size s)) (omega arith)

    rest_part : drop L.size (write_items L (x ∷ xs) s) ≡ write_items L xs (drop L.size s)
    rest_part =
        let r : length xs * L.size + L.size ≤ length s = room in
        drop_seam L.size (L.write x (take L.size s)) (write_items L xs (drop L.size s)) s (λL.keeps x (take L.size s)) (omega arith)

  pub items_back : (xs : List A) (s : List ℕ) → All P xs → length xs * L.size ≤ length s → read_items L (length xs) (write_items L xs s) ≡ xs
  items_back [] s o l = refl
  items_back (x ∷ xs) s o l = λ i.
      (ap L.read (first_part x xs s l) ∙ λL.back x (take L.size s) o.0 (first_room x xs s l)) i
      ∷ (ap (read_items L (length xs)) (rest_part x xs s l) ∙ items_back xs (drop L.size s) o.1 (rest_room x xs s l)) i

  pub items_forms : (xs : List A) (s : List ℕ) → All P xs → length xs * L.size ≤ length s → well_formed_items L (length xs) (write_items L xs s) ≡ true
  items_forms [] s o l = refl
  items_forms (x ∷ xs) s o l =
      and_of (L.well_formed (take L.size (write_items L (x ∷ xs) s))) (well_formed_items L (length xs) (drop L.size (write_items L (x ∷ xs) s)))
      (ap L.well_formed (first_part x xs s l) ∙ λL.forms x (take L.size s) o.0 (first_room x xs s l))
      (ap (well_formed_items L (length xs)) (rest_part x xs s l) ∙ items_forms xs (drop L.size s) o.1 (rest_room x xs s l))

  -- a list that is as long or longer covers what another wrote
  pub items_again : (xs ys : List A) (s : List ℕ) → All P xs → All P ys → length ys ≤ length xs → length xs * L.size ≤ length s → write_items L xs (write_items L ys s) ≡ write_items L xs s
  items_again xs [] s o q c l = refl
  items_again [] (y ∷ ys) s o q c l = absurd (not-suc-le-zero c)
  items_again (x ∷ xs) (y ∷ ys) s o q c l =
      let ly : suc (length ys) * L.size ≤ length s = le_trans (mul-le-mul_right L.size c) l in
      λ i. (ap (L.write x) (first_part y ys s ly) ∙ λL.again x y (take L.size s) o.0 q.0 (first_room x xs s l)) i
      ++ (ap (write_items L xs) (rest_part y ys s ly) ∙ items_again xs ys (drop L.size s) o.1 q.1 (le_of_suc-le-suc c) (rest_room x xs s l)) i

  items_fit : (room n : ℕ) (xs : List A) (s : List ℕ) → n ≤ room → length xs ≡ n → room * L.size ≤ length s → length xs * L.size ≤ length s
  items_fit room n xs s h e l = le_trans (mul-le-mul_right L.size (le_trans (le_of_eq e) h)) l

  pub items_lawful : (room n : ℕ) → n ≤ room → Lawful (items L room n) (Items P n)
  items_lawful room n h =
      record {
        keeps = items_keeps;
        unchanged = λ s t. items_unchanged n s (stand_items L room n s h t);
        back = λ xs s o l.
            subst (λ (k : ℕ). read_items L k (write_items L xs s) ≡ xs) o.0 (items_back xs s o.1 (items_fit room n xs s h o.0 l));
        again = λ xs ys s o q l. items_again xs ys s o.1 q.1 (le_of_eq (q.0 ∙ sym o.0)) (items_fit room n xs s h o.0 l);
        forms = λ xs s o l.
            subst (λ (k : ℕ). well_formed_items L k (write_items L xs s) ≡ true) o.0 (items_forms xs s o.1 (items_fit room n xs s h o.0 l));
        bytes = λ xs s o b. items_bytes xs s o.1 b;
        holds = λ s b. (length_read_items L n s, items_holds n s b);
      }
