-- Document 01, "The rack", "Steps" and "Refusal table": the claims on one block, and how a board raises and lowers one.
use Rattle.std.specs.Prelude.{ℕ, suc, Bool, not, ◌&&◌, List, map, eqb, length, get_or, set, replicate}
use Rattle.spec_base.specs.Folds.{all_below, implies}
use Rattle.spec_wire.specs.declared.Refusal.TheVariants.{Waiting, Barred, NotWaiting}
use Rattle.spec_wire.specs.Answers.{Check, no_refusal}
use Rattle.spec_wire.specs.Refusals.{when◌refuse◌else◌}
use Rattle.spec_arbiter.specs.Boards.{member, empty, insert, remove, subset, boards_only, lowest}

-- The sets of boards of a block: at place 0 the waiting set, at place i the barring set of board i.
abbrev pub Claims : Type 0
Claims = List ℕ

abbrev pub waiting : Claims → ℕ
waiting c = get_or c 0 empty

abbrev pub barring : Claims → ℕ → ℕ
barring c i = get_or c i empty

-- a rack of n boards, none of which waits or is barred
abbrev pub no_claims : ℕ → Claims
no_claims n = replicate (suc n) empty

abbrev pub unclaimed : Claims → Bool
unclaimed c = eqb (waiting c) empty

-- the active board: the lowest-numbered waiting board
abbrev pub active : Claims → ℕ
active c = lowest (waiting c)

-- ---- raise: the board joins the waiting set

unfoldable pub raise_check : Claims → ℕ → Check
raise_check c i =
    when member (waiting c) i refuse Waiting else
    when not (eqb (barring c i) empty) refuse Barred else
    no_refusal

unfoldable pub raised : Claims → ℕ → Claims
raised c i = set c 0 (insert (waiting c) i)

-- ---- lower: the board leaves the waiting set and every barring set; its own barring set becomes the waiting set that remains

unfoldable pub lower_check : Claims → ℕ → Check
lower_check c i =
    when not (member (waiting c) i) refuse NotWaiting else
    no_refusal

unfoldable pub lowered : Claims → ℕ → Claims
lowered c i = set (map (λ (s : ℕ). remove s i) c) i (remove (waiting c) i)

-- ---- what a sound record says of a block's sets

-- board i's barring set has boards 1 to n only, lies within the waiting set, and is empty where board i waits
unfoldable pub sound_barring : ℕ → Claims → ℕ → Bool
sound_barring n c i =
    boards_only n (barring c i) && subset (barring c i) (waiting c) && implies (member (waiting c) i) (eqb (barring c i) empty)

-- a waiting set of boards 1 to n only, and a barring set for each of them
unfoldable pub sound_claims : ℕ → Claims → Bool
sound_claims n c = eqb (length c) (suc n) && boards_only n (waiting c) && all_below n (λ i. sound_barring n c (suc i))
