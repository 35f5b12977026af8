-- Document 01, "Steps", and document 02, "No. 10": lists of raises and lowers on one block, and that nobody is passed twice.
use Rattle.std.specs.Prelude.{◌≡◌, ℕ, ◌+◌, ◌-◌, ◌≤◌, ◌<◌, Bool, true, not, ◌&&◌, List, [], ◌∷◌, eqb, leb, Ok, Err}
use Rattle.spec_base.specs.Folds.{toℕ, all}
use Rattle.spec_wire.specs.Answers.{Check, no_refusal}
use Rattle.spec_arbiter.specs.Boards.{board_room}
use Rattle.spec_arbiter.specs.Claims.{Claims, raise_check, raised, lower_check, lowered, sound_claims}

-- a board's raise or lower, accepted or not
pub data Move : Type 0 where
  raise lower : ℕ → Move

abbrev pub mover : Move → ℕ
mover (raise i) = i
mover (lower i) = i

abbrev pub move_check : Claims → Move → Check
move_check c (raise i) = raise_check c i
move_check c (lower i) = lower_check c i

abbrev pub moved : Claims → Move → Claims
moved c (raise i) = raised c i
moved c (lower i) = lowered c i

-- a refused move changes nothing
abbrev pub settled : Check → Claims → Claims → Claims
settled (Ok _) before claims_after = claims_after
settled (Err r) before claims_after = before

abbrev pub claims_after_move : Claims → Move → Claims
claims_after_move c m = settled (move_check c m) c (moved c m)

-- the claims after the moves, refused ones among them
unfoldable pub claims_after : Claims → List Move → Claims
claims_after c [] = c
claims_after c (m ∷ ms) = claims_after (claims_after_move c m) ms

-- 1 for an accepted lower by a board that passes the test, and 0 for any other move
abbrev pub lowers_counted : (ℕ → Bool) → Move → Check → ℕ
lowers_counted test (lower i) (Ok _) = toℕ (test i)
lowers_counted test (lower i) (Err r) = 0
lowers_counted test (raise i) k = 0

-- the accepted lowers by boards that pass the test, where the moves are made in order from the claims c
unfoldable pub lowers : (ℕ → Bool) → Claims → List Move → ℕ
lowers test c [] = 0
lowers test c (m ∷ ms) = lowers_counted test m (move_check c m) + lowers test (claims_after_move c m) ms

-- every move is one of a board: a number from 1 to n
unfoldable pub board_moves : ℕ → List Move → Bool
board_moves n ms = all (λ m. leb 1 (mover m) && leb (mover m) n) ms

-- board q alone, and every board but p
abbrev pub only : ℕ → ℕ → Bool
only q i = eqb i q

abbrev pub others : ℕ → ℕ → Bool
others p i = not (eqb i p)

-- The claims c, in which board p's raise is accepted, were reached from sound claims by moves of the boards 1 to n. More moves follow it,
-- among which no lower of p is accepted.
pub record Waits (n p : ℕ) (start : Claims) (before between : List Move) (c : Claims) : Type 0 where
  pub fits : n < board_room
  pub sound : sound_claims n start ≡ true
  pub moves_before : board_moves n before ≡ true
  pub reached : c ≡ claims_after start before
  pub low : 1 ≤ p
  pub high : p ≤ n
  pub accepted : raise_check c p ≡ no_refusal
  pub moves_between : board_moves n between ≡ true
  pub waits : lowers (only p) (raised c p) between ≡ 0

-- Between a board's accepted raise and its accepted lower, or the list's end, every other board's lower is accepted at most once,
-- so at most n - 1 lowers by others come before it.
abbrev pub Bypass : Type 0
Bypass =
    (n p : ℕ) (start : Claims) (before between : List Move) (c : Claims) → Waits n p start before between c
    → ((q : ℕ) → lowers (only q) (raised c p) between ≤ 1) × (lowers (others p) (raised c p) between ≤ n - 1)
