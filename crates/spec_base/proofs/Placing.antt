-- Laws of `place`: bytes placed into a buffer, one run after the other, and through a part that was lent.
use native.Mathlib.Nat.{add-zero, zero-add, add_assoc}
use native.Mathlib.Numerals.{add-one}
use mathlib.Core.Path.{◌≡◌, sym, ap, ◌∙◌}
use Prim.Native.Nat.{ℕ, ◌+◌, ◌-◌, ◌≤◌, ◌<◌}
use native.Mathlib.Omega.{arith}
use mathlib.Core.List.{List, [], ◌∷◌, ◌++◌, append-nil, append_assoc}
use lib.ListN.{length, take, drop, set, length-append, length-drop, take-append-drop, drop_of_length-le}
use lib.Seq.{length-take-le, take_at, drop-append-add, drop-drop, set_split}
use borrow.Rule.Slice.PartMut.{put_mid}
use Rattle.spec_base.specs.Placing.{place}
use Rattle.spec_base.proofs.Lists.{rest_all}

pub length_place : (at : ℕ) (bs out : List ℕ) → at + length bs ≤ length out → length (place at bs out) ≡ length out
unfolding place
length_place at bs out h = simp (length-append, length-drop, length-take-le at out (omega arith)) (omega arith)

pub place_none : (at : ℕ) (out : List ℕ) → place at [] out ≡ out
unfolding place
place_none at out = rw add-zero (take-append-drop at out)

-- one run after the other
pub place_more : (at : ℕ) (a b out : List ℕ) → at ≤ length out → place (at + length a) b (place at a out) ≡ place at (a ++ b) out
unfolding place
place_more at a b out h =
    let rest : List ℕ = drop (at + length a) out in
    let front : length (take at out ++ a) ≡ at + length a = simp (length-append, length-take-le at out h) in
    let after : drop (at + length a + length b) (take at out ++ a ++ rest) ≡ drop (at + length a + length b) out =
    ap (λ (n : ℕ). drop (n + length b) (take at out ++ a ++ rest)) (sym front)
    ∙ drop-append-add (take at out ++ a) rest (length b)
    ∙ drop-drop (length b) (at + length a) out in
    rw (← append_assoc (take at out) a rest, take_at (take at out ++ a) rest (at + length a) front, after)
    (simp (append_assoc, length-append, add_assoc))

-- a byte stored
pub place_byte : (at x : ℕ) (out : List ℕ) → at < length out → set out at x ≡ place at (x ∷ []) out
unfolding place
place_byte at x out h = rw (add-one at) (set_split out at x h)

-- a part that was lent and written over
pub place_part : (at k : ℕ) (bs out : List ℕ) → length bs ≡ k → put_mid at k out bs ≡ place at bs out
unfolding place
place_part at k bs out e = rw (← e, drop-drop (length bs) at out)

-- the rest of the buffer, lent from an offset on
pub place_rest : (at : ℕ) (bs out : List ℕ) → at + length bs ≤ length out → put_mid at (length out - at) out (place 0 bs (take (length out - at) (drop at out))) ≡ place at bs out
unfolding place
place_rest at bs out h =
    let ended : drop (length out - at) (drop at out) ≡ [] = drop_of_length-le (drop at out) {i = length out - at} (omega (arith, length-drop at out)) in
    rw (rest_all out at, ended, zero-add, append-nil, drop-drop (length bs) at out)

-- bytes are placed from `at` on: the place after them, and the buffer
abbrev pub Placed : ℕ → List ℕ → List ℕ → ℕ → List ℕ → Type 0
Placed at bs out next out' = (next ≡ at + length bs) × (out' ≡ place at bs out)

pub placed_none : (at : ℕ) (out : List ℕ) → Placed at [] out at out
placed_none at out = (sym (add-zero at), sym (place_none at out))

-- one run after the other
pub placed_more : (at m next : ℕ) (a b out out' out'' : List ℕ) → at ≤ length out → Placed at a out m out' → Placed m b out' next out'' → Placed at (a ++ b) out next out''
placed_more at m next a b out out' out'' h (p, q) (p', q') = (
  omega (arith, length-append a b),
  q' ∙ (λ i. place (p i) b (q i)) ∙ place_more at a b out h,
)

-- the same bytes
pub placed_same : (at next : ℕ) (a b out out' : List ℕ) → a ≡ b → Placed at a out next out' → Placed at b out next out'
placed_same at next a b out out' e (p, q) = (p ∙ ap (λ (l : List ℕ). at + length l) e, q ∙ ap (λ (l : List ℕ). place at l out) e)
