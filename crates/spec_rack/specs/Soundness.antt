-- Document 01, "The rack": "Sound means", with document 02, No. 2. Each line has the paper's words beside it. First of a rack, then of the bytes in a
-- lent buffer. Lists, unlike the record's arrays, have no fixed length, so lengths are conditions as well.
use Rattle.std.specs.Prelude.{ℕ, suc, Bool, not, ◌&&◌, List, length, eqb, leb, ltb}
use Rattle.spec_base.specs.Folds.{all, all_below, implies}
use Rattle.spec_arbiter.specs.Claims.{sound_claims}
use Rattle.spec_rack.specs.declared.Message.{Message}
use Rattle.spec_rack.specs.Rack.{Cell, Rack, mesh_limit, present, supplied, block_at, claims_at, held, carried, tokens_of, owners_of}
use Rattle.spec_rack.specs.RecordLayout.{layout_of, record_length, get, blocks_in}

-- N 1 to 15, B 1 to 32, T from N to 64
abbrev pub sizes : ℕ → ℕ → ℕ → Bool
sizes n b t = leb 1 n && leb n 15 && leb 1 b && leb b 32 && leb n t && leb t 64

abbrev pub eight_words : List ℕ → Bool
eight_words ws = eqb (length ws) 8

-- of a rack of n boards and b blocks: what is asked of every message, with the owner or without
abbrev pub sound_contents : ℕ → ℕ → Message → Bool
sound_contents n b m =
    let h = m.header in
    eight_words m.words
    && implies (not h.«data») (all (eqb 0) m.words)  -- words all 0 if it has no data
    && leb h.sender n  -- a known sender,
    && leb h.target n && not (eqb h.sender h.target)  -- a known and different target,
    && ltb h.block b  -- a known block
    && ltb 0 (carried m)  -- and at least one token,

abbrev pub sound_message : ℕ → ℕ → Message → Bool
sound_message n b m =
    sound_contents n b m
    && implies (present m.header.owner) (supplied m.header)  -- and data if it has the owner, unless that is clean and bound for home

abbrev pub sound_cell : Cell → Bool
sound_cell x =
    eight_words x.words
    && implies x.valid (ltb 0 (held x))  -- valid only where a token is held
    && implies (present x.owner) x.valid  -- the owner's holder is valid

-- what is said of the sets of boards is the arbiter's
abbrev pub sound_block : Rack → ℕ → Bool
sound_block r b =
    eqb (length (block_at r b).cells) (suc r.boards)
    && eqb (tokens_of r b) r.tokens && eqb (owners_of r b) 1  -- the tokens in components and mesh total T, one owner
    && all sound_cell (block_at r b).cells
    && sound_claims r.boards (claims_at r b)  -- its sets

unfoldable pub sound : Rack → Bool
sound r =
    sizes r.boards (length r.blocks) r.tokens  -- sizes in range
    && leb (length r.mesh) mesh_limit  -- at most 64 messages
    && all (sound_message r.boards (length r.blocks)) r.mesh  -- every message
    && all_below (length r.blocks) (sound_block r)  -- per block

-- ---- bytes: what refusal 2 asks of a buffer

-- the buffer is long enough for a record of its own count of blocks, and the bytes are as the layout has them
unfoldable pub well_formed_record : List ℕ → Bool
well_formed_record s = leb (record_length (blocks_in s)) (length s) && (layout_of s).well_formed s

unfoldable pub sound_bytes : List ℕ → Bool
sound_bytes s = well_formed_record s && sound (get s)
