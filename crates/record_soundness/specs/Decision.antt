-- Document 01, "Sound means", as it is decided by passes over the bytes: each message by itself, and for each block its lanes, one sum and its claims.
use Rattle.std.specs.Prelude.{ℕ, ◌+◌, ◌*◌, Bool, cond, ◌&&◌, List, length, get_or, eqb, leb}
use Rattle.spec_base.specs.Folds.{sum_below}
use Rattle.spec_base.specs.Layout.{slice}
use Rattle.spec_arbiter.specs.Claims.{sound_claims}
use Rattle.spec_rack.specs.Soundness.{sizes}
use Rattle.spec_rack.specs.RecordLayout.{boards_in, blocks_in, tokens_in, messages_in, format_in, format_magic, record_length, claims, claims_at_offset, owner_offset, claims_offset, message_offset, claims_size, message_block_offset, message_plain_offset}
use Rattle.record_lanes.specs.Lanes.{sound_lanes, unused_lanes_empty, lane_sum}
use Rattle.record_message.specs.Messages.{token_sum_at}

-- the figures of its header are in range, its format is known, and it is as long as they tell
abbrev pub header_sound : List ℕ → Bool
header_sound s = (sizes (boards_in s) (blocks_in s) (tokens_in s) && leb (messages_in s) 64) && eqb (format_in s) format_magic && leb (record_length (blocks_in s)) (length s)

-- the weight of block k in the message at a place
abbrev pub carried_sum_at : List ℕ → ℕ → ℕ → ℕ
carried_sum_at s k at = cond (eqb (get_or s (at + message_block_offset) 0) k) (token_sum_at s (at + message_plain_offset)) 0

-- the weight of block k in the first m messages
unfoldable pub sum_in_flight : List ℕ → ℕ → ℕ → ℕ
sum_in_flight s m k = sum_below m (λ i. carried_sum_at s k (message_offset i))

-- of the block at a place, of which the mesh has a weight: T tokens with one owner (T - 1 plain ones)
abbrev pub tokens_total : ℕ → List ℕ → ℕ → ℕ → Bool
tokens_total t s at mesh = eqb (lane_sum s at + lane_sum s (at + owner_offset) * 65536 + mesh) (t + 65535)

-- its sets are well-formed and sound
abbrev pub sound_claims_at : ℕ → List ℕ → ℕ → Bool
sound_claims_at n s at = (claims n).well_formed (slice (at + claims_offset) claims_size s) && sound_claims n (claims_at_offset n (at + claims_offset) s)

-- its tokens and its sets
abbrev pub sound_sums_at : ℕ → ℕ → List ℕ → ℕ → ℕ → Bool
sound_sums_at n t s at mesh = tokens_total t s at mesh && sound_claims_at n s at

unfoldable pub sound_block_at : ℕ → ℕ → List ℕ → ℕ → ℕ → Bool
sound_block_at n t s at mesh = sound_sums_at n t s at mesh && (sound_lanes s at && unused_lanes_empty n s at)
