-- Document 01, "The rack", with document 02, No. 2: two records byte for byte, written by hand from the tables of docs/RECORD.md, beside the racks that they
-- hold. The equations hold `put`, `get` and `sound_bytes` to those tables. Between them the records have a clean and a dirty owner, each in a block and in a
-- message.
use Rattle.std.specs.Prelude.{ℕ, ◌+◌, ◌*◌, ◌-◌, ◌≡◌, Bool, true, false, List, [], ◌∷◌, ◌++◌, map, length, get_or, set, take, replicate}
use Rattle.spec_base.specs.Folds.{toℕ, zip}
use Rattle.spec_base.specs.Layout.{slice, big}
use Rattle.spec_wire.specs.declared.Step.TheVariants.{Store, Send, Deliver, Raise, Lower}
use Rattle.spec_rack.specs.declared.Owner.{Owner}
use Rattle.spec_rack.specs.declared.Owner.TheVariants.{Away, Dirty, Clean}
use Rattle.spec_rack.specs.Rack.{Rack, present, fresh}
use Rattle.spec_rack.specs.Soundness.{sound_bytes}
use Rattle.spec_rack.specs.Lists.{run}
use Rattle.spec_rack.specs.Opening.{open_after}
use Rattle.spec_rack.specs.Entries.{step_after}
use Rattle.spec_rack.specs.RecordLayout.{get, put}
use Rattle.spec_rack.specs.RecordLayout as layout

-- so many bytes 0; and so many that nobody writes: the buffer was filled with AA before
abbrev pub none : ℕ → List ℕ
none n = replicate n 0

abbrev pub room : ℕ → List ℕ
room n = replicate n 0xAA

-- the format: "HYL" in ASCII, and the number of the layout
abbrev pub format : List ℕ
format = 0x48 ∷ 0x59 ∷ 0x4C ∷ 1 ∷ []

-- ---- (2, 1, 3): board 1 has the owner, dirty, board 2 a plain token with data; a plain token with data is on its way home; board 2 waits, and bars board 1

abbrev pub small : Rack
small =
    run (fresh 2 1 3)
    (Send 0 0 1 2 true true ∷ Deliver 0 ∷ Store 1 0 0 0x01020304 ∷ Store 1 0 7 0x0A0B0C0D ∷ Send 1 0 2 1 false true ∷ Deliver 0 ∷ Send 1 0 0 1 false true
    ∷ Raise 2 0 ∷ Raise 1 0 ∷ Lower 1 0 ∷ [])

-- the eight words of board 1, of board 2 and of the message, the high byte of each first
abbrev pub small_words : List ℕ
small_words = 0x01 ∷ 0x02 ∷ 0x03 ∷ 0x04 ∷ none 24 ++ 0x0A ∷ 0x0B ∷ 0x0C ∷ 0x0D ∷ []

-- header: N, B, T, the count of messages, room, the format
abbrev pub small_header : List ℕ
small_header = 2 ∷ 1 ∷ 3 ∷ 1 ∷ room 24 ++ format

-- message 0: sender, target, block, plain, owner, data, mark, 0; its words; then the places of 63 more
abbrev pub small_mesh : List ℕ
small_mesh = (1 ∷ 0 ∷ 0 ∷ 1 ∷ 0 ∷ 1 ∷ 0 ∷ 0 ∷ small_words) ++ room (63 * 40)

-- plain tokens, owners, valid, marks: of home, board 1, board 2, and 0 above
abbrev pub small_lanes : List ℕ
small_lanes = (0 ∷ 0 ∷ 1 ∷ none 13) ++ (0 ∷ 1 ∷ 0 ∷ none 13) ++ (0 ∷ 1 ∷ 1 ∷ none 13) ++ (0 ∷ 1 ∷ 0 ∷ none 13) ++ room 16

-- barring sets: place 0, board 1's with board 2 in it, board 2's, none above; the waiting set with board 2 in it
abbrev pub small_sets : List ℕ
small_sets = (0 ∷ 0 ∷ []) ++ (0x00 ∷ 0x04 ∷ []) ++ (0 ∷ 0 ∷ []) ++ none 26 ++ (0x00 ∷ 0x04 ∷ []) ++ room 6

-- words of home, board 1, board 2; nobody's above
abbrev pub small_cells : List ℕ
small_cells = none 32 ++ small_words ++ small_words ++ room (13 * 32)

abbrev pub small_record : List ℕ
small_record = small_header ++ small_mesh ++ small_lanes ++ small_sets ++ small_cells

-- ---- (15, 3, 64): of block 0 board 15 has the owner, clean, and home and a message the rest; board 14 lowered while 1 and 15 waited. Of block 1 board 14 has
-- plain tokens, and the owner is on its way from 14 to 15, dirty. Of block 2 board 1 has plain tokens; the owner is on its way home, clean and without data,
-- and plain tokens with data are on their way to board 2.

abbrev pub large : Rack
large =
    run (fresh 15 3 64)
    (Send 0 0 15 20 true true ∷ Deliver 0 ∷ Send 0 1 14 63 true true ∷ Deliver 0 ∷ Store 14 1 2 0xFFFEFDFC ∷ Send 0 2 1 63 true true ∷ Deliver 0
    ∷ Send 14 1 15 5 true true ∷ Send 15 0 0 3 false false ∷ Send 1 2 0 4 true false ∷ Send 1 2 2 6 false true
    ∷ Raise 15 0 ∷ Raise 14 0 ∷ Raise 1 0 ∷ Lower 14 0 ∷ [])

abbrev pub large_words : List ℕ
large_words = none 8 ++ 0xFF ∷ 0xFE ∷ 0xFD ∷ 0xFC ∷ none 20

abbrev pub large_header : List ℕ
large_header = 15 ∷ 3 ∷ 64 ∷ 4 ∷ room 24 ++ format

-- message 0 has the owner, its mark and data; message 1 plain tokens without data; message 2 the owner, without a mark and without data; message 3 plain tokens
-- and data, eight words 0
abbrev pub large_mesh : List ℕ
large_mesh =
    (14 ∷ 15 ∷ 1 ∷ 5 ∷ 1 ∷ 1 ∷ 1 ∷ 0 ∷ large_words) ++ (15 ∷ 0 ∷ 0 ∷ 3 ∷ 0 ∷ 0 ∷ 0 ∷ 0 ∷ none 32) ++ (1 ∷ 0 ∷ 2 ∷ 4 ∷ 1 ∷ 0 ∷ 0 ∷ 0 ∷ none 32)
    ++ (1 ∷ 2 ∷ 2 ∷ 6 ∷ 0 ∷ 1 ∷ 0 ∷ 0 ∷ none 32) ++ room (60 * 40)

-- block 0: home and board 15; the barring set of board 14, and the waiting set, with boards 1 and 15
abbrev pub large_block0 : List ℕ
large_block0 =
    (43 ∷ none 14 ++ 17 ∷ []) ++ (none 15 ++ 1 ∷ []) ++ (1 ∷ none 14 ++ 1 ∷ []) ++ none 16 ++ room 16
    ++ none 28 ++ (0x80 ∷ 0x02 ∷ []) ++ none 2 ++ (0x80 ∷ 0x02 ∷ []) ++ room 6 ++ none (16 * 32)

-- block 1: board 14
abbrev pub large_block1 : List ℕ
large_block1 =
    (none 14 ++ 58 ∷ 0 ∷ []) ++ none 16 ++ (none 14 ++ 1 ∷ 0 ∷ []) ++ none 16 ++ room 16 ++ none 34 ++ room 6 ++ none (14 * 32) ++ large_words ++ none 32

-- block 2: board 1
abbrev pub large_block2 : List ℕ
large_block2 = (0 ∷ 53 ∷ none 14) ++ none 16 ++ (0 ∷ 1 ∷ none 14) ++ none 16 ++ room 16 ++ none 34 ++ room 6 ++ none (16 * 32)

abbrev pub large_record : List ℕ
large_record = large_header ++ large_mesh ++ large_block0 ++ large_block1 ++ large_block2

pub record RecordBytes : Type 0 where
  pub small_length : length small_record ≡ 3224
  pub large_length : length large_record ≡ 4488
  -- written over a buffer of AA, and read
  pub small_put : put small (room 3224) ≡ small_record
  pub small_get : get small_record ≡ small
  pub small_sound : sound_bytes small_record ≡ true
  pub large_put : put large (room 4488) ≡ large_record
  pub large_get : get large_record ≡ large
  pub large_sound : sound_bytes large_record ≡ true

-- ---- what an opening and a step leave of a whole buffer, six bytes behind the record among it: room, places of messages and words above N stay

abbrev pub opened_small : List ℕ
opened_small =
    (2 ∷ 1 ∷ 3 ∷ 0 ∷ room 24 ++ format) ++ room (64 * 40) ++ (2 ∷ none 15) ++ (1 ∷ none 15) ++ (1 ∷ none 15) ++ none 16 ++ room 16 ++ none 34 ++ room 6
    ++ none (3 * 32) ++ room (13 * 32) ++ room 6

-- `small` after its message is delivered: home has a plain token, is valid and has the words; the message's bytes are left where they were
abbrev pub delivered_small : List ℕ
delivered_small =
    (2 ∷ 1 ∷ 3 ∷ 0 ∷ room 24 ++ format) ++ small_mesh ++ (1 ∷ 0 ∷ 1 ∷ none 13) ++ (0 ∷ 1 ∷ 0 ∷ none 13) ++ (1 ∷ 1 ∷ 1 ∷ none 13) ++ (0 ∷ 1 ∷ 0 ∷ none 13) ++ room 16
    ++ small_sets ++ small_words ++ small_words ++ small_words ++ room (13 * 32) ++ room 6

pub record BytesAfter : Type 0 where
  pub opened : open_after 2 1 3 (room 3230) ≡ opened_small
  pub delivered : step_after (small_record ++ room 6) (0x13 ∷ 0x00 ∷ 0x04 ∷ 0x09 ∷ 0x00 ∷ 0x01 ∷ 0x00 ∷ []) ≡ delivered_small

-- ---- the record with other bytes at some places

abbrev pub altered : List ℕ → List (ℕ × ℕ) → List ℕ
altered s [] = s
altered s (p ∷ ps) = altered (set s p.0 p.1) ps

-- where the only block of `small` starts
abbrev pub block : ℕ
block = 32 + 64 * 40

pub record AlteredBytes : Type 0 where
  -- one byte of each sort that makes `small` unsound: the mark of board 2, which has no owner; a plain token and a mark above N; a mark of the message, which
  -- has no owner; its byte 7; place 0 of the barring sets, and place 3; a valid byte that is 2
  pub unsound :
      map (λ p. sound_bytes (altered small_record (p ∷ [])))
      ((block + 50, 1) ∷ (block + 3, 1) ∷ (block + 51, 1) ∷ (32 + 6, 1) ∷ (32 + 7, 1) ∷ (block + 81, 1) ∷ (block + 87, 1) ∷ (block + 33, 2) ∷ [])
      ≡ replicate 8 false
  -- another byte at each place of the format, as it would be in a record of another layout: a letter of the name; the number before, the next, the last
  pub another_format :
      map (λ p. sound_bytes (altered small_record (p ∷ [])))
      ((28, 0x68) ∷ (29, 0x58) ∷ (30, 0x00) ∷ (31, layout.format_number - 1) ∷ (31, layout.format_number + 1) ∷ (31, 255) ∷ [])
      ≡ replicate 6 false
  -- no format: low byte first; bytes that were cleared; bytes that nobody wrote
  pub no_format :
      map (λ bytes. sound_bytes (altered small_record (zip (28 ∷ 29 ∷ 30 ∷ 31 ∷ []) bytes)))
      ((layout.format_number ∷ 0x4C ∷ 0x59 ∷ 0x48 ∷ []) ∷ none 4 ∷ room 4 ∷ [])
      ≡ replicate 3 false
  -- a byte that is lacking
  pub short : sound_bytes (take 3223 small_record) ≡ false
  -- these do not: the first and the last room in the header, room behind the lanes and behind the sets; a message past the count; a word of a component above N
  pub sound : sound_bytes (altered small_record ((4, 0x55) ∷ (27, 0x55) ∷ (72, 0x55) ∷ (block + 64, 0x55) ∷ (block + 114, 0x55) ∷ (block + 120 + 3 * 32, 0x55) ∷ [])) ≡ true

-- ---- the offsets and sizes of RecordLayout.antt, those too that its layouts do not use: each is where the layout has that figure

pub record Offsets : Type 0 where
  -- N, B, T and the count of messages
  pub counts : map (λ (count : List ℕ → ℕ). count large_record) (layout.boards_in ∷ layout.blocks_in ∷ layout.tokens_in ∷ layout.messages_in ∷ []) ≡ 15 ∷ 3 ∷ 64 ∷ 4 ∷ []
  -- the format, as bytes and as one number
  pub format_bytes_lem : slice layout.format_offset 4 large_record ≡ format
  pub format_number_lem : layout.format_in large_record ≡ layout.format_magic
  -- a message of any header
  pub message : (c k b p : ℕ) (o : Owner) (d : Bool)
      → map (λ at. get_or ((layout.message).write (record { header = record { sender = c; target = k; block = b; plain = p; owner = o; «data» = d }; words = replicate 8 0x01010101 }) (room 40)) at 1)
      (layout.sender_offset ∷ layout.target_offset ∷ layout.message_block_offset ∷ layout.message_plain_offset ∷ layout.message_owner_offset ∷ layout.data_offset
      ∷ layout.message_dirty_offset ∷ layout.message_zero_offset ∷ [])
      ≡ c ∷ k ∷ b ∷ p ∷ toℕ (present o) ∷ toℕ d ∷ toℕ (layout.dirty o) ∷ 0 ∷ []
  -- where messages, blocks and the words of a component start
  pub messages : map (λ i. slice (layout.message_offset i) 8 large_record) (0 ∷ 1 ∷ []) ≡ (14 ∷ 15 ∷ 1 ∷ 5 ∷ 1 ∷ 1 ∷ 1 ∷ 0 ∷ []) ∷ (15 ∷ 0 ∷ 0 ∷ 3 ∷ 0 ∷ 0 ∷ 0 ∷ 0 ∷ []) ∷ []
  pub message_words : slice (layout.message_offset 0 + layout.message_words_offset) layout.words_size large_record ≡ large_words
  pub blocks :
      map (λ b. slice (layout.block_offset b) 16 large_record) (0 ∷ 1 ∷ 2 ∷ [])
      ≡ (43 ∷ none 14 ++ 17 ∷ []) ∷ (none 14 ++ 58 ∷ 0 ∷ []) ∷ (0 ∷ 53 ∷ none 14) ∷ []
  pub words : slice (layout.cell_words_offset 1 14) layout.words_size large_record ≡ large_words
  -- the four lanes of a block: a clean owner at board 15 of the one, a dirty one at board 1 of the other
  pub large_lanes : map (λ c. layout.lanes_at c large_block0) (0 ∷ 14 ∷ 15 ∷ []) ≡ (43, (Away, true)) ∷ (0, (Away, false)) ∷ (17, (Clean, true)) ∷ []
  pub small_lanes_lem : map (λ c. layout.lanes_at c small_lanes) (0 ∷ 1 ∷ 2 ∷ []) ≡ (0, (Away, false)) ∷ (0, (Dirty, true)) ∷ (1, (Away, true)) ∷ []
  pub lanes_size_lem : (layout.byte_lanes 15).size ≡ layout.lanes_size
  -- the sets of a block
  pub claims : layout.claims_at_offset 15 layout.claims_offset large_block0 ≡ 0x8002 ∷ none 13 ++ 0x8002 ∷ 0 ∷ []
  pub sets : map (λ i. (big 2).read (slice (layout.claims_offset + layout.set_offset i) 2 large_block0)) (0 ∷ 13 ∷ 14 ∷ 15 ∷ []) ≡ 0x8002 ∷ 0 ∷ 0x8002 ∷ 0 ∷ []
  pub claims_size_lem : (layout.claims 15).size ≡ layout.claims_size
  -- sizes, and the longest record
  pub sizes : (layout.message).size ∷ (layout.words).size ∷ (layout.block 15).size ∷ (layout.header).size ∷ [] ≡ layout.message_size ∷ layout.words_size ∷ layout.block_size ∷ layout.header_size ∷ []
  pub record_sizes : (layout.rack_layout 15 3 4).size ∷ (layout.rack_layout 15 32 64).size ∷ [] ≡ layout.record_length 3 ∷ layout.longest_record ∷ []
