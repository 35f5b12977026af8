-- Document 01, "Language forms in the code": a set of boards as bits of a number below 2 ^ 16. Board i is in it where bit i is 1.
use Rattle.std.specs.Prelude.{ℕ, zero, suc, ◌+◌, ◌-◌, ◌/◌, ◌%◌, ◌^◌, Bool, cond, ◌&&◌, eqb, leb, ltb}
use Rattle.spec_base.specs.Folds.{all_below, count_below, implies}

-- the boards that a set can hold: those below 16
abbrev pub board_room : ℕ
board_room = 16

-- bit i of s: 0 or 1
unfoldable pub bit : ℕ → ℕ → ℕ
bit s i = s / 2 ^ i % 2

unfoldable pub member : ℕ → ℕ → Bool
member s i = eqb (bit s i) 1

abbrev pub empty : ℕ
empty = 0

unfoldable pub insert : ℕ → ℕ → ℕ
insert s i = cond (member s i) s (s + 2 ^ i)

unfoldable pub remove : ℕ → ℕ → ℕ
remove s i = cond (member s i) (s - 2 ^ i) s

-- every member of a is one of b
unfoldable pub subset : ℕ → ℕ → Bool
subset a b = all_below board_room (λ i. implies (member a i) (member b i))

-- every member of s is a board: a number from 1 to n
unfoldable pub boards_only : ℕ → ℕ → Bool
boards_only n s = ltb s (2 ^ board_room) && all_below board_room (λ i. implies (member s i) (leb 1 i && leb i n))

-- the first member among the k numbers from i on; i + k where there is none
unfoldable pub first_from : ℕ → ℕ → ℕ → ℕ
first_from zero s i = i
first_from (suc k) s i = cond (member s i) i (first_from k s (suc i))

-- the lowest member, by a search from 0 upwards; 16 for the empty set
unfoldable pub lowest : ℕ → ℕ
lowest s = first_from board_room s 0

-- how many members
unfoldable pub size : ℕ → ℕ
size s = count_below board_room (member s)
