-- What makes a number a set of boards, and its lowest member the active board: laws of the definitions in Boards.antt and Claims.antt, proved. They add
-- nothing to believe.
use Rattle.std.specs.Prelude.{◌≡◌, ℕ, ◌≤◌, ◌<◌, ◌^◌, true, false}
use Rattle.spec_arbiter.specs.Boards.{board_room, member, empty, insert, remove, subset, boards_only, lowest}
use Rattle.spec_arbiter.specs.Claims.{Claims, waiting, unclaimed, active, sound_claims}

pub record SetLaws : Type 0 where
  -- a set is its members, none of them 16 or above
  pub same : (s u : ℕ) → s < 2 ^ board_room → u < 2 ^ board_room → ((i : ℕ) → i < board_room → member s i ≡ member u i) → s ≡ u
  pub low : (s i : ℕ) → s < 2 ^ board_room → member s i ≡ true → i < board_room
  pub none : (i : ℕ) → member empty i ≡ false
  -- insert and remove change one member
  pub inserted : (s i : ℕ) → member (insert s i) i ≡ true
  pub insert_other : (s i j : ℕ) → (j ≡ i → ⊥) → member (insert s i) j ≡ member s j
  pub removed : (s i : ℕ) → member (remove s i) i ≡ false
  pub remove_other : (s i j : ℕ) → (j ≡ i → ⊥) → member (remove s i) j ≡ member s j
  -- and a set stays one
  pub insert_low : (s i : ℕ) → i < board_room → s < 2 ^ board_room → insert s i < 2 ^ board_room
  pub remove_low : (s i : ℕ) → s < 2 ^ board_room → remove s i < 2 ^ board_room
  -- subset and boards_only are said of the members
  pub subset_at : (a b : ℕ) → subset a b ≡ true → (i : ℕ) → i < board_room → member a i ≡ true → member b i ≡ true
  pub subset_of : (a b : ℕ) → ((i : ℕ) → i < board_room → member a i ≡ true → member b i ≡ true) → subset a b ≡ true
  pub boards_at : (n s : ℕ) → boards_only n s ≡ true → (i : ℕ) → member s i ≡ true → (1 ≤ i) × (i ≤ n)
  pub boards_of : (n s : ℕ) → s < 2 ^ board_room → ((i : ℕ) → member s i ≡ true → (1 ≤ i) × (i ≤ n)) → boards_only n s ≡ true
  -- the lowest member is one, none below it is; where there is none it is 16
  pub lowest_member : (s : ℕ) → lowest s < board_room → member s (lowest s) ≡ true
  pub lowest_least : (s j : ℕ) → j < lowest s → member s j ≡ false
  pub lowest_there : (s : ℕ) → s < 2 ^ board_room → (s ≡ empty → ⊥) → lowest s < board_room
  pub lowest_empty : lowest empty ≡ board_room

-- the active board of a claimed block: it waits, it is a board of the rack, and no board below it waits
pub record LowestWaiting (n : ℕ) (c : Claims) : Type 0 where
  pub waits : member (waiting c) (active c) ≡ true
  pub board : (1 ≤ active c) × (active c ≤ n)
  pub least : (j : ℕ) → j < active c → member (waiting c) j ≡ false

abbrev pub ActiveIsLowest : Type 0
ActiveIsLowest = (n : ℕ) (c : Claims) → sound_claims n c ≡ true → unclaimed c ≡ false → LowestWaiting n c
