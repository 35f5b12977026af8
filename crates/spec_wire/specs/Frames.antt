-- Document 01, "Program rackrun": a list of bytes split into step records by their lengths; an incomplete last one is one string, and so one torn step.
use Rattle.std.specs.Prelude.{ℕ, zero, suc, ◌+◌, min, List, [], ◌∷◌, length, take, drop}
use Rattle.spec_base.specs.Number.{number}

-- how many bytes the first step record takes: three and as many as its length says, or all that are left
unfoldable pub frame_size : List ℕ → ℕ
frame_size s = min (3 + number (take 2 (drop 1 s))) (length s)

-- the first step records, k at most
unfoldable pub frames : ℕ → List ℕ → List (List ℕ)
frames zero s = []
frames (suc k) [] = []
frames (suc k) (x ∷ s) = let n = frame_size (x ∷ s) in take n (x ∷ s) ∷ frames k (drop n (x ∷ s))
