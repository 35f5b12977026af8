-- Bytes copied within a buffer: what the library's copies leave is the buffer with one part in another part's place.
use Prim.Native.Nat.{ℕ, ◌+◌, ◌-◌, ◌≤◌}
use native.Mathlib.Nat.{zero-add}
use mathlib.Core.Path.{◌≡◌, ap, ◌∙◌}
use mathlib.Core.List.{List, ◌++◌, append_assoc}
use lib.ListN.{take, drop}
use lib.Seq.{paste, drop-drop}
use Rattle.std.specs.List.{copy_within}
use Rattle.spec_base.specs.Layout.{slice, modify_at}
use Rattle.spec_base.proofs.Parts.{part_part}

-- count bytes copied
abbrev pub copied : List ℕ → ℕ → ℕ → ℕ → List ℕ
copied s from to count = modify_at to count (λ t. slice from count s) s

-- within the buffer, from a range of that length
pub copied_within : (s : List ℕ) (from end to count : ℕ) → end - from ≡ count → copy_within s from end to ≡ copied s from to count
copied_within s from end to count e =
    ap (paste s to (drop from s)) e
    ∙ append_assoc (take to s) (take count (drop from s)) (drop (to + count) s)

-- from the part in front of a cut to the start of the part behind it
pub copied_behind : (s : List ℕ) (from to count : ℕ) → from + count ≤ to → take to s ++ (slice from count (take to s) ++ drop count (drop to s)) ≡ copied s from to count
copied_behind s from to count h = λ i.
    take to s ++ ((part_part 0 to from count s h ∙ ap (λ (k : ℕ). slice k count s) (zero-add from)) i ++ drop-drop count to s i)
