-- Parts of a list of bytes, and changes of a part: by `take`, `drop` and `++` alone.
use Prim.Native.Nat.{ℕ, zero, suc, ◌+◌, ◌-◌, ◌≤◌, ◌<◌}
use native.Mathlib.Nat.{zero-add, add_assoc, suc-add, not-suc-le-zero, le_of_suc-le-suc}
use native.Mathlib.Omega.{arith}
use mathlib.Core.Path.{◌≡◌, refl, sym, ap, ◌∙◌}
use mathlib.Core.List.{List, [], ◌∷◌, ◌++◌, append_assoc}
use lib.ListN.{length, set, take, drop, length-drop, take-append-drop}
use lib.Seq.{take-take, drop-drop, take-add, take-nil, length-take-le, get_or-drop}
use Rattle.spec_base.specs.Number.{Bytes}
use Rattle.spec_base.specs.Layout.{slice, modify_at, overwrite}

pub bytes_drop : (n : ℕ) (s : List ℕ) → Bytes s → Bytes (drop n s)
bytes_drop n s h i = rw get_or-drop (h (n + i))

pub bytes_take : (n : ℕ) (s : List ℕ) → Bytes s → Bytes (take n s)
bytes_take zero s h i = omega arith
bytes_take (suc n) [] h i = omega arith
bytes_take (suc n) (x ∷ s) h zero = h 0
bytes_take (suc n) (x ∷ s) h (suc i) = bytes_take n s (λ k. h (suc k)) i

pub bytes_append : (s t : List ℕ) → Bytes s → Bytes t → Bytes (s ++ t)
bytes_append [] t h k i = k i
bytes_append (x ∷ s) t h k zero = h 0
bytes_append (x ∷ s) t h k (suc i) = bytes_append s t (λ j. h (suc j)) k i

pub bytes_set : (s : List ℕ) (i v : ℕ) → v < 256 → Bytes s → Bytes (set s i v)
bytes_set [] i v l h k = omega arith
bytes_set (x ∷ s) zero v l h zero = l
bytes_set (x ∷ s) zero v l h (suc k) = h (suc k)
bytes_set (x ∷ s) (suc i) v l h zero = h 0
bytes_set (x ∷ s) (suc i) v l h (suc k) = bytes_set s i v l (λ j. h (suc j)) k

-- what is left of the first q + k behind the first q
pub drop_take : (q k : ℕ) (s : List ℕ) → drop q (take (q + k) s) ≡ take k (drop q s)
drop_take zero k s = ap (λ (n : ℕ). take n s) (zero-add k)
drop_take (suc q) k [] = ap (drop (suc q)) (take-nil (suc q + k)) ∙ sym (take-nil k)
drop_take (suc q) k (x ∷ s) = ap (λ (n : ℕ). drop (suc q) (take n (x ∷ s))) (suc-add q k) ∙ drop_take q k s

-- a part of a part
pub part_part : (p m q n : ℕ) (s : List ℕ) → q + n ≤ m → slice q n (slice p m s) ≡ slice (p + q) n s
part_part p m q n s h =
    let e : m ≡ q + (m - q) = omega arith in
    ap (λ (k : ℕ). take n (drop q (take k (drop p s)))) e
    ∙ ap (take n) (drop_take q (m - q) (drop p s))
    ∙ take-take n (m - q) (drop q (drop p s)) (omega arith)
    ∙ ap (take n) (drop-drop q p s)

module _ (f : List ℕ → List ℕ) where
  -- a change of what is behind the first a is a change of the whole
  pub over_behind : (a b n : ℕ) (s : List ℕ) → take a s ++ modify_at b n f (drop a s) ≡ modify_at (a + b) n f s
  over_behind a b n s =
      sym (append_assoc (take a s) (take b (drop a s)) (f (slice b n (drop a s)) ++ drop (b + n) (drop a s)))
      ∙ ap (λ (r : List ℕ). r ++ (f (slice b n (drop a s)) ++ drop (b + n) (drop a s))) (sym (take-add a b s))
      ∙ ap (λ (r : List ℕ). take (a + b) s ++ (f (take n r) ++ drop (b + n) (drop a s))) (drop-drop b a s)
      ∙ ap (λ (r : List ℕ). take (a + b) s ++ (f (slice (a + b) n s) ++ r)) (drop-drop (b + n) a s ∙ ap (λ (k : ℕ). drop k s) (sym (add_assoc a b n)))

  -- a change of the first m, at a part of them, is a change of the whole
  pub over_front : (m q n : ℕ) (s : List ℕ) → q + n ≤ m → modify_at q n f (take m s) ++ drop m s ≡ modify_at q n f s
  over_front m q n s h =
      let e : m ≡ q + n + (m - (q + n)) = omega arith in
      append_assoc (take q (take m s)) (f (slice q n (take m s)) ++ drop (q + n) (take m s)) (drop m s)
      ∙ ap (λ (r : List ℕ). r ++ (f (slice q n (take m s)) ++ drop (q + n) (take m s) ++ drop m s)) (take-take q m s (omega arith))
      ∙ ap (λ (r : List ℕ). take q s ++ r)
      (append_assoc (f (slice q n (take m s))) (drop (q + n) (take m s)) (drop m s)
      ∙ ap (λ (r : List ℕ). f r ++ (drop (q + n) (take m s) ++ drop m s)) (part_part 0 m q n s h ∙ ap (λ (k : ℕ). slice k n s) (zero-add q))
      ∙ ap (λ (r : List ℕ). f (slice q n s) ++ r)
      (ap (λ (k : ℕ). drop (q + n) (take k s) ++ drop k s) e
      ∙ ap (λ (r : List ℕ). r ++ drop (q + n + (m - (q + n))) s) (drop_take (q + n) (m - (q + n)) s)
      ∙ ap (λ (r : List ℕ). take (m - (q + n)) (drop (q + n) s) ++ r) (sym (drop-drop (m - (q + n)) (q + n) s))
      ∙ take-append-drop (m - (q + n)) (drop (q + n) s)))

  -- a change of a part of a part
  pub over_over : (p m q n : ℕ) (s : List ℕ) → q + n ≤ m → modify_at p m (modify_at q n f) s ≡ modify_at (p + q) n f s
  over_over p m q n s h =
      ap (λ (r : List ℕ). take p s ++ (modify_at q n f (slice p m s) ++ r)) (sym (drop-drop m p s))
      ∙ ap (λ (r : List ℕ). take p s ++ r) (over_front m q n (drop p s) h)
      ∙ over_behind p q n s

pub length_part : (p n : ℕ) (s : List ℕ) → p + n ≤ length s → length (slice p n s) ≡ n
length_part p n s h = length-take-le n (drop p s) (simp length-drop (omega arith))

-- ---- bytes laid over the front

pub length_cover : (bs s : List ℕ) → length (overwrite bs s) ≡ length s
unfolding overwrite
length_cover [] s = refl
length_cover (b ∷ bs) [] = refl
length_cover (b ∷ bs) (x ∷ s) = ap suc (length_cover bs s)

-- where there is room for them, they stand before what is behind them
pub cover_room : (bs s : List ℕ) → length bs ≤ length s → overwrite bs s ≡ bs ++ drop (length bs) s
unfolding overwrite
cover_room [] s h = refl
cover_room (b ∷ bs) [] h = absurd (not-suc-le-zero h)
cover_room (b ∷ bs) (x ∷ s) h = ap (λ (r : List ℕ). b ∷ r) (cover_room bs s (le_of_suc-le-suc h))

-- bytes that stand there already change nothing
pub cover_same : (n : ℕ) (s : List ℕ) → overwrite (take n s) s ≡ s
unfolding overwrite
cover_same zero s = refl
cover_same (suc n) [] = refl
cover_same (suc n) (x ∷ s) = ap (λ (r : List ℕ). x ∷ r) (cover_same n s)

-- as many bytes laid over others hide them
pub cover_again : (bs cs s : List ℕ) → length bs ≡ length cs → overwrite bs (overwrite cs s) ≡ overwrite bs s
unfolding overwrite
cover_again [] [] s e = refl
cover_again [] (c ∷ cs) s e = let z : 0 ≡ suc (length cs) = e in absurd (omega arith)
cover_again (b ∷ bs) [] s e = let z : suc (length bs) ≡ 0 = e in absurd (omega arith)
cover_again (b ∷ bs) (c ∷ cs) [] e = refl
cover_again (b ∷ bs) (c ∷ cs) (x ∷ s) e =
    let z : suc (length bs) ≡ suc (length cs) = e in
    ap (λ (r : List ℕ). b ∷ r) (cover_again bs cs s (omega arith))

pub bytes_cover : (bs s : List ℕ) → Bytes bs → Bytes s → Bytes (overwrite bs s)
unfolding overwrite
bytes_cover [] s h k i = k i
bytes_cover (b ∷ bs) [] h k i = omega arith
bytes_cover (b ∷ bs) (x ∷ s) h k zero = h 0
bytes_cover (b ∷ bs) (x ∷ s) h k (suc i) = bytes_cover bs s (λ j. h (suc j)) (λ j. k (suc j)) i
