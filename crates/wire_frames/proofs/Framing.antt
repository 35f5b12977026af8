-- Where a record that starts at a place of a list ends, by how much of the list is left; and how a list falls into records.
use Prim.Native.Nat.{ℕ, zero, suc, ◌+◌, ◌*◌, ◌-◌, ◌≤◌, ◌<◌}
use native.Mathlib.Omega.{arith}
use mathlib.Core.Path.{◌≡◌, refl, ap, ◌∙◌}
use mathlib.Core.List.{List, [], ◌∷◌}
use lib.ListN.{length, get_or, take, drop}
pub use lib.ListN.{length-drop}
use lib.Seq.{drop-drop}
use Rattle.spec_base.specs.Number.{number}
use Rattle.spec_base.specs.Layout.{slice, big}
use Rattle.spec_base.proofs.Numbers.{number_two}
use Rattle.spec_base.proofs.WordBytes.{read_two}
use Rattle.spec_wire.specs.Frames.{frame_size, frames}

-- the two bytes of a record's length
pub two : (p : ℕ) (s : List ℕ) → p + 3 ≤ length s → number (take 2 (drop 1 (drop p s))) ≡ get_or s (p + 1) 0 * 256 + get_or s (p + 2) 0
two p s l =
    ap (λ (t : List ℕ). number (take 2 t)) (drop-drop 1 p s)
    ∙ number_two (p + 1) s (omega arith)
    ∙ ap (λ (k : ℕ). get_or s (p + 1) 0 * 256 + get_or s k 0) (let e : p + 1 + 1 ≡ p + 2 = omega arith in e)

-- the length as it is read
pub length_read : (s : List ℕ) (p : ℕ) → p + 3 ≤ length s → {x : ℕ} → x ≡ (big 2).read (slice (p + 1) 2 s) → x ≡ get_or s (p + 1) 0 * 256 + get_or s (p + 2) 0
length_read s p l e =
    e ∙ read_two (p + 1) s (omega arith)
    ∙ ap (λ (k : ℕ). get_or s (p + 1) 0 * 256 + get_or s k 0) (let q : p + 1 + 1 ≡ p + 2 = omega arith in q)

-- where a record ends, by the definition and these
pub ruleset cutting = (two, length_read, length-drop)

-- past the list nothing is cut
pub cut_past : (list : List ℕ) (at : ℕ) → length list ≤ at → at ≡ at + frame_size (drop at list)
unfolding frame_size
cut_past list at l = omega (arith, length-drop at list)

-- ---- the list

-- the first record, and the others
pub cuts_first : (k : ℕ) (s : List ℕ) → 0 < length s → frames (suc k) s ≡ take (frame_size s) s ∷ frames k (drop (frame_size s) s)
unfolding frames
cuts_first k [] l = absurd (omega arith)
cuts_first k (x ∷ s) l = refl

pub cuts_none : (k : ℕ) (s : List ℕ) → length s ≡ 0 → frames k s ≡ []
unfolding frames
cuts_none zero s e = refl
cuts_none (suc k) [] e = refl
cuts_none (suc k) (x ∷ s) e = absurd (omega arith)

pub cuts_zero : (s : List ℕ) → frames 0 s ≡ []
unfolding frames
cuts_zero s = refl

-- the bytes of a list from a place to another
abbrev pub span : List ℕ → ℕ → ℕ → List ℕ
span list place end = take (end - place) (drop place list)
