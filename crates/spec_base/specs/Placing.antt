-- Bytes placed into a lent buffer from an offset on; everything that is written goes by it.
use Rattle.std.specs.Prelude.{ℕ, ◌+◌, List, ◌++◌, Bool, length, take, drop, leb}

-- the buffer with bs from an offset on
unfoldable pub place : ℕ → List ℕ → List ℕ → List ℕ
place at bs out = take at out ++ (bs ++ drop (at + length bs) out)

-- whether a buffer has room for bs from an offset on
abbrev pub room_for : List ℕ → ℕ → List ℕ → Bool
room_for bs at out = leb (at + length bs) (length out)
