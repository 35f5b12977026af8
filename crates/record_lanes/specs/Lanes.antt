-- Document 01, "Sound means", with document 02, No. 2, of what a block's components have, as it is decided over the sixteen places of its lanes.
use Rattle.std.specs.Prelude.{ℕ, zero, suc, ◌+◌, ◌*◌, Bool, not, ◌&&◌, List, get_or, eqb, leb, ltb}
use Rattle.spec_base.specs.Folds.{toℕ, implies, all_below, sum_below}
use Rattle.spec_rack.specs.RecordLayout.{owner_offset, valid_offset, dirty_offset, lane_size}

-- the bytes of component i in the lanes of the block at a place
abbrev pub plain_at : List ℕ → ℕ → ℕ → ℕ
plain_at s at i = get_or s (at + i) 0

abbrev pub owner_at : List ℕ → ℕ → ℕ → ℕ
owner_at s at i = get_or s (at + owner_offset + i) 0

abbrev pub valid_at : List ℕ → ℕ → ℕ → ℕ
valid_at s at i = get_or s (at + valid_offset + i) 0

abbrev pub dirty_at : List ℕ → ℕ → ℕ → ℕ
dirty_at s at i = get_or s (at + dirty_offset + i) 0

-- whether component i holds a token
abbrev pub holds_token : List ℕ → ℕ → ℕ → Bool
holds_token s at i = not (eqb (plain_at s at i + owner_at s at i) 0)

-- dirty only beside the owner, the owner is valid, and valid is 1 at most, and that only where a token is held
abbrev pub sound_lane : List ℕ → ℕ → ℕ → Bool
sound_lane s at i = leb (dirty_at s at i) (owner_at s at i) && leb (owner_at s at i) (valid_at s at i) && leb (valid_at s at i) (toℕ (holds_token s at i))

unfoldable pub sound_lanes : List ℕ → ℕ → Bool
sound_lanes s at = all_below lane_size (sound_lane s at)

-- components above n hold nothing
unfoldable pub unused_lanes_empty : ℕ → List ℕ → ℕ → Bool
unused_lanes_empty n s at = all_below lane_size (λ i. implies (ltb n i) (not (holds_token s at i)))

-- the first n of some bytes as one number, the low byte first
unfoldable pub low_first : (ℕ → ℕ) → ℕ → ℕ
low_first f zero = 0
low_first f (suc n) = f 0 + 256 * low_first (λ i. f (suc i)) n

-- the sum of the sixteen bytes of a lane
unfoldable pub lane_sum : List ℕ → ℕ → ℕ
lane_sum s at = sum_below lane_size (λ i. get_or s (at + i) 0)
