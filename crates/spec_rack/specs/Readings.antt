-- Document 01, "The rack", "Steps", "Refusal table" and "State letter", with document 02, Nos. 1, 2, 4 and 7: sentences that the W lines leave out, each an
-- equation on a small rack that is computed. They hold the definitions to the paper where a theorem about both definition and code could not tell a wrong
-- reading.
use Rattle.std.specs.Prelude.{ℕ, ◌<◌, ◌≡◌, Bool, true, false, ◌||◌, List, [], ◌∷◌, ◌++◌, map, length, replicate, eqb, leb, Ok, Err}
use Rattle.spec_wire.specs.Refusals.{number}
use Rattle.spec_wire.specs.declared.Refusal.TheVariants.{Torn, Unsound, OffRack, Home}
use Rattle.spec_wire.specs.Answers.{Check}
use Rattle.spec_wire.specs.declared.Step.{Step}
use Rattle.spec_wire.specs.declared.Step.TheVariants.{Load, Store, Send, Deliver, Raise, Lower, Forward}
use Rattle.spec_wire.specs.StepRecord.{step_bytes}
use Rattle.spec_arbiter.specs.Claims.{Claims, no_claims, active}
use Rattle.spec_rack.specs.declared.Owner.{Owner}
use Rattle.spec_rack.specs.declared.Owner.TheVariants.{Away, Dirty, Clean}
use Rattle.spec_rack.specs.declared.Message.{Message}
use Rattle.spec_rack.specs.declared.Letter.TheVariants.{M, E, I}
use Rattle.spec_rack.specs.Rack.{Cell, Rack, zeros, no_cell, fresh, cell_at, claims_at}
use Rattle.spec_rack.specs.Soundness.{sound}
use Rattle.spec_rack.specs.Rules.{check, rules, reply, reply_of, with_claims}
use Rattle.spec_rack.specs.Letter.{letter, letter_reply}
use Rattle.spec_rack.specs.FlatMemory.{load, store, blank, flat}
use Rattle.spec_rack.specs.Lists.{run, rack_answers, rack_accesses}
use Rattle.spec_rack.specs.RecordLayout.{record_length, longest_record, blocks_in}
use Rattle.spec_rack.specs.Opening.{open_check, open_reply}
use Rattle.spec_rack.specs.Entries.{step_reply}
use Rattle.spec_rack.specs.Examples.{code, send_plain}

-- ---- "A step meets only the refusals that name it": those that may answer a step, in the order of "First match"

abbrev pub naming : Step → List ℕ
naming (Load c b w) = 3 ∷ 5 ∷ 6 ∷ []
naming (Store c b w v) = 3 ∷ 4 ∷ 7 ∷ []
naming (Send c b t p o d) = 3 ∷ 8 ∷ 9 ∷ 10 ∷ 11 ∷ 12 ∷ 6 ∷ 13 ∷ []
naming (Deliver i) = 14 ∷ []
naming (Raise c b) = 3 ∷ 4 ∷ 15 ∷ 16 ∷ []
naming (Lower c b) = 3 ∷ 4 ∷ 17 ∷ []
naming (Forward c b) = 3 ∷ 18 ∷ 8 ∷ 5 ∷ 13 ∷ []

abbrev pub listed : ℕ → List ℕ → Bool
listed k [] = false
listed k (n ∷ ns) = eqb k n || listed k ns

-- the verdict is a pass, or a refusal with a number of the list
abbrev pub among : List ℕ → Check → Bool
among ns (Ok _) = true
among ns (Err r) = listed (number r) ns

-- so a deliver never meets 3 or 4, a load, a send or a forward never 4, a forward never 9
abbrev pub OnlyNaming : Type 0
OnlyNaming = (r : Rack) (s : Step) → among (naming s) (check r s) ≡ true

-- ---- a letter asks 2 before 3 and 4: a buffer with too few bytes for its count of blocks gives 2, whatever the component and the block

abbrev pub ShortRecord : Type 0
ShortRecord = (s : List ℕ) (c b : ℕ) → length s < record_length (blocks_in s) → letter_reply s c b ≡ Err Unsound

-- ---- a rack at a time: what each of several steps would meet on it, 0 for accepted

abbrev pub met : Rack → List Step → List ℕ
met r ss = map (λ s. code (reply (rules r s))) ss

-- a fresh rack of 2 boards and 2 blocks
abbrev pub two : Rack
two = fresh 2 2 3

-- the rack after steps on a fresh rack of 2 boards and 2 blocks with 64 tokens each
abbrev pub from64 : List Step → Rack
from64 ss = run (fresh 2 2 64) ss

-- 64 messages in flight: all of block 0. Board 1 has a plain token of block 1 without data, home has the rest of that block.
abbrev pub full : Rack
full = from64 (Send 0 1 1 1 false false ∷ Deliver 0 ∷ replicate 63 (send_plain 0 1 1) ++ Send 0 0 1 0 true true ∷ [])

-- the same, but board 1 has all of block 1, and has made the steps ss on it
abbrev pub full_with : List Step → Rack
full_with ss = from64 (Send 0 1 1 63 true true ∷ Deliver 0 ∷ ss ++ replicate 63 (send_plain 0 1 1) ++ Send 0 0 1 0 true true ∷ [])

-- `full`, and board 2 waits for both blocks
abbrev pub claimed_full : Rack
claimed_full = run full (Raise 2 0 ∷ Raise 2 1 ∷ [])

-- ---- "First match": of two lines that match together the earlier answers. Each step is written so that as many lines as can match from its answer on.
pub record FirstMatch : Type 0 where
  -- send: 3, 8, 9, 10, 11, 12, 6, 13
  -- off the rack, to itself, claimed, with no token and data that is not valid; then with an owner that is not held, and no data
  pub send_3 : met claimed_full (Send 3 0 3 0 false true ∷ Send 3 0 3 1 true false ∷ Send 1 0 3 0 false true ∷ Send 1 2 1 0 false true ∷ []) ≡ 3 ∷ 3 ∷ 3 ∷ 3 ∷ []
  pub send_8 : met claimed_full (Send 1 0 1 0 false true ∷ Send 1 0 1 1 true false ∷ []) ≡ 8 ∷ 8 ∷ []
  pub send_9 : met claimed_full (Send 1 0 2 0 false true ∷ Send 1 0 2 1 true false ∷ []) ≡ 9 ∷ 9 ∷ []
  pub send_10 : met full (Send 1 0 2 0 false true ∷ Send 1 0 2 0 false false ∷ []) ≡ 10 ∷ 10 ∷ []
  pub send_11 : met full (Send 1 0 2 1 true false ∷ Send 1 0 2 1 false true ∷ Send 1 1 2 0 true false ∷ []) ≡ 11 ∷ 11 ∷ 11 ∷ []
  pub send_12 : met full (Send 0 1 1 0 true false ∷ []) ≡ 12 ∷ []
  -- with the owner at board 1: a bare dirty one home is 12, a bare clean one 13
  pub send_12_bare : met (full_with (Store 1 1 0 1 ∷ [])) (Send 1 1 0 0 true false ∷ []) ≡ 12 ∷ []
  pub send_13_bare : met (full_with []) (Send 1 1 0 0 true false ∷ []) ≡ 13 ∷ []
  pub send_6 : met full (Send 1 1 2 1 false true ∷ []) ≡ 6 ∷ []
  pub send_13 : met full (Send 1 1 2 1 false false ∷ Send 0 1 1 1 true true ∷ []) ≡ 13 ∷ 13 ∷ []
  -- forward: 3, 18, 8, 5, 13
  pub forward_3 : met full (Forward 3 0 ∷ Forward 1 2 ∷ []) ≡ 3 ∷ 3 ∷ []
  pub forward_3_claimed : met claimed_full (Forward 3 0 ∷ []) ≡ 3 ∷ []
  pub forward_18 : met full (Forward 1 0 ∷ []) ≡ 18 ∷ []
  pub forward_8 : met claimed_full (Forward 2 0 ∷ []) ≡ 8 ∷ []
  pub forward_5 : met claimed_full (Forward 1 0 ∷ []) ≡ 5 ∷ []
  pub forward_13 : met claimed_full (Forward 0 1 ∷ Forward 1 1 ∷ []) ≡ 13 ∷ 13 ∷ []
  -- 3 first, at home with a block or a word off the rack: before 4 of a store, a raise and a lower, before 5 of a load
  pub home_3 : met full (Load 0 2 0 ∷ Load 0 0 8 ∷ Store 0 2 0 1 ∷ Store 0 0 8 1 ∷ Raise 0 2 ∷ Lower 0 2 ∷ []) ≡ 3 ∷ 3 ∷ 3 ∷ 3 ∷ 3 ∷ 3 ∷ []
  -- 4 before 7, at home where it holds nothing; before 16 and 17 where a board waits, and where none does
  pub home_4 : met full (Store 0 0 0 1 ∷ Raise 0 0 ∷ Lower 0 0 ∷ []) ≡ 4 ∷ 4 ∷ 4 ∷ []
  pub home_4_claimed : met claimed_full (Raise 0 0 ∷ Lower 0 0 ∷ []) ≡ 4 ∷ 4 ∷ []
  -- and at home where it holds all T, so that no line but 4 stops a store
  pub home_4_all : met two (Store 0 0 0 1 ∷ []) ≡ 4 ∷ []
  -- a load at home (document 02, No. 7): 5 of block 0, of which it holds nothing; of block 1 it has tokens and valid words, and is answered
  pub home_5 : met full (Load 0 0 0 ∷ Load 0 1 0 ∷ []) ≡ 5 ∷ 0 ∷ []
  -- 6, and a store's 4: home gives all to board 1 and gets a plain token back without data
  pub home_6 :
      met (run (fresh 2 1 3) (Send 0 0 1 2 true true ∷ Deliver 0 ∷ send_plain 1 0 1 ∷ Deliver 0 ∷ [])) (Load 0 0 0 ∷ Store 0 0 0 1 ∷ []) ≡ 6 ∷ 4 ∷ []
  -- 3 before 5, 7 and 17
  pub board_3 : met full (Load 3 0 0 ∷ Store 3 0 0 1 ∷ Lower 3 0 ∷ []) ≡ 3 ∷ 3 ∷ 3 ∷ []
  -- load: 5 before 6, and 6 needs a token
  pub load_5 : met full (Load 1 0 0 ∷ Load 1 1 0 ∷ []) ≡ 5 ∷ 6 ∷ []
  -- letter: 2, 3, 4
  pub letter_2 : letter_reply [] 0 33 ≡ Err Unsound
  pub letter_3 : letter (fresh 2 2 3) 0 2 ≡ Err OffRack
  pub letter_4 : letter (fresh 2 2 3) 0 1 ≡ Err Home
  -- a step: 1, 2, 3, with a buffer that is too short for a record
  pub step_1 : step_reply [] [] ≡ Err Torn
  pub step_2 : step_reply [] (step_bytes (Load 255 255 255)) ≡ Err Unsound
  -- opening: 19, 20
  pub opening_19 : code (open_reply 0 0 0 []) ≡ 19
  pub opening_20 : code (open_reply 1 1 1 []) ≡ 20

-- ---- the edges of 3 and 19

-- what an opening with n, b and t meets in a buffer of 65,536 bytes
abbrev pub opens : ℕ → ℕ → ℕ → ℕ
opens n b t = code (reply_of (open_check n b t 65536))

pub record Edges : Type 0 where
  -- component N is on the rack, component N + 1 is not
  pub component_in : met two (Load 2 0 0 ∷ Store 2 0 0 1 ∷ send_plain 2 1 1 ∷ Raise 2 0 ∷ Lower 2 0 ∷ Forward 2 0 ∷ []) ≡ 5 ∷ 7 ∷ 11 ∷ 0 ∷ 17 ∷ 18 ∷ []
  pub component_out : met two (Load 3 0 0 ∷ Store 3 0 0 1 ∷ send_plain 3 1 1 ∷ Raise 3 0 ∷ Lower 3 0 ∷ Forward 3 0 ∷ []) ≡ 3 ∷ 3 ∷ 3 ∷ 3 ∷ 3 ∷ 3 ∷ []
  -- block B - 1 is, block B is not
  pub block_in : met two (Load 1 1 0 ∷ Store 1 1 0 1 ∷ Send 0 1 1 1 false false ∷ Raise 1 1 ∷ Lower 1 1 ∷ Forward 0 1 ∷ []) ≡ 5 ∷ 7 ∷ 0 ∷ 0 ∷ 17 ∷ 18 ∷ []
  pub block_out : met two (Load 1 2 0 ∷ Store 1 2 0 1 ∷ Send 0 2 1 1 false false ∷ Raise 1 2 ∷ Lower 1 2 ∷ Forward 0 2 ∷ []) ≡ 3 ∷ 3 ∷ 3 ∷ 3 ∷ 3 ∷ 3 ∷ []
  -- word 7 is, word 8 is not
  pub word_in : met two (Load 1 0 7 ∷ Store 1 0 7 1 ∷ []) ≡ 5 ∷ 7 ∷ []
  pub word_out : met two (Load 1 0 8 ∷ Store 1 0 8 1 ∷ []) ≡ 3 ∷ 3 ∷ []
  -- target N is, target N + 1 is not; home is a target as well
  pub target_in : met two (send_plain 0 2 1 ∷ send_plain 1 0 1 ∷ []) ≡ 0 ∷ 11 ∷ []
  pub target_out : met two (send_plain 0 3 1 ∷ []) ≡ 3 ∷ []
  -- the letter's component and block
  pub letter_in : letter two 2 1 ≡ Ok I
  pub letter_off : letter two 3 1 ≡ Err OffRack
  pub letter_off_block : letter two 2 2 ≡ Err OffRack
  -- fields that the table gives no bound of their own: a plain count above 64 is 11, a position above 63 is 14
  pub plain_high : met two (send_plain 0 1 65 ∷ send_plain 0 1 255 ∷ []) ≡ 11 ∷ 11 ∷ []
  pub position_high : met two (Deliver 0 ∷ Deliver 64 ∷ Deliver 255 ∷ []) ≡ 14 ∷ 14 ∷ 14 ∷ []
  -- N 1 to 15
  pub boards : map (λ n. opens n 1 64) (0 ∷ 1 ∷ 15 ∷ 16 ∷ 257 ∷ []) ≡ 19 ∷ 0 ∷ 0 ∷ 19 ∷ 19 ∷ []
  -- B 1 to 32
  pub blocks : map (λ b. opens 1 b 1) (0 ∷ 1 ∷ 32 ∷ 33 ∷ 257 ∷ []) ≡ 19 ∷ 0 ∷ 0 ∷ 19 ∷ 19 ∷ []
  -- T from N to 64
  pub tokens : map (opens 15 32) (14 ∷ 15 ∷ 64 ∷ 65 ∷ 271 ∷ []) ≡ 19 ∷ 0 ∷ 0 ∷ 19 ∷ 19 ∷ []
  -- the record takes at most 65,536 bytes
  pub lengths : map record_length (1 ∷ 32 ∷ []) ≡ 3224 ∷ 22816 ∷ []
  pub longest : longest_record ≡ 22816
  pub longest_fits : leb longest_record 65536 ≡ true
  -- 20 exactly where the buffer is shorter than the record
  pub buffer : map (λ l. code (reply_of (open_check 1 1 1 l))) (3223 ∷ 3224 ∷ []) ≡ 20 ∷ 0 ∷ []

-- ---- what the steps do

-- eight words, the first of them w
abbrev pub first : ℕ → List ℕ
first w = w ∷ replicate 7 0

-- board 1 holds all 3 tokens of block 0 and has stored 7 in word 0
abbrev pub stored : Rack
stored = run (fresh 2 1 3) (Send 0 0 1 2 true true ∷ Deliver 0 ∷ Store 1 0 0 7 ∷ [])

abbrev pub cell : ℕ → Owner → Bool → ℕ → Cell
cell p o v w = record { plain = p; owner = o; valid = v; words = first w }

-- a message of block b from c to t
abbrev pub mail : ℕ → ℕ → ℕ → ℕ → Owner → Bool → ℕ → Message
mail c t b p o d w = record { header = record { sender = c; target = t; block = b; plain = p; owner = o; «data» = d }; words = first w }

-- a rack of 2 boards and one block with 3 tokens
abbrev pub small : List Cell → Claims → List Message → Rack
small cells claims mesh = record { boards = 2; tokens = 3; blocks = record { cells = cells; claims = claims } ∷ []; mesh = mesh }

-- Board 1 is valid and has 4 in word 0. Two plain tokens are on their way to it, the first with data, 5 in word 0. No list of steps leads here from
-- a fresh rack, but the rack is sound, so a buffer may hold it.
abbrev pub meeting : Rack
meeting = small (no_cell ∷ cell 0 Clean true 4 ∷ no_cell ∷ []) (no_claims 2) (mail 0 1 0 1 Away true 5 ∷ mail 0 1 0 1 Away false 0 ∷ [])

-- a sound rack that no opening leads to: board 1 has all of block 0 with a clean owner, and home has another word
abbrev pub other_at_home : Rack
other_at_home = small (cell 0 Away false 5 ∷ cell 2 Clean true 4 ∷ no_cell ∷ []) (no_claims 2) []

pub record Effects : Type 0 where
  -- a fresh rack: home has all T, valid; boards have nothing; words 0, sets and mesh empty
  pub fresh_home : cell_at two 1 0 ≡ cell 2 Clean true 0
  pub fresh_boards : map (cell_at two 1) (1 ∷ 2 ∷ []) ≡ replicate 2 (cell 0 Away false 0)
  pub fresh_sets : map (claims_at two) (0 ∷ 1 ∷ []) ≡ replicate 2 (0 ∷ 0 ∷ 0 ∷ [])
  pub fresh_mesh : two.mesh ≡ []
  -- store: the word of that component and block only
  pub store_there : (cell_at stored 0 1).words ≡ first 7
  pub store_only : (cell_at stored 0 0).words ≡ zeros
  -- and of no other board
  pub store_no_board : (cell_at stored 0 2).words ≡ zeros
  pub store_last : rack_answers (fresh 2 2 3) (Send 0 1 1 2 true true ∷ Deliver 0 ∷ Store 1 1 7 9 ∷ Load 1 1 7 ∷ Load 1 1 6 ∷ []) ≡ 9 ∷ 0 ∷ []
  -- send: what is left when nothing is held; the words stay, valid goes
  pub send_all_lem : cell_at (run stored (Send 1 0 2 2 true true ∷ [])) 0 1 ≡ cell 0 Away false 7
  -- what is left when something is held
  pub send_some : cell_at (run stored (Send 1 0 2 0 true true ∷ [])) 0 1 ≡ cell 2 Away true 7
  -- raise and lower leave the words, also those that nobody can read
  pub claims_leave_words : map (λ ss. cell_at (run stored (Send 1 0 2 2 true true ∷ ss)) 0 1) ((Raise 1 0 ∷ []) ∷ (Raise 1 0 ∷ Lower 1 0 ∷ []) ∷ []) ≡ replicate 2 (cell 0 Away false 7)
  -- a message with data has the words; one without has eight times 0
  pub send_data :
      (run stored (Send 1 0 2 1 false true ∷ [])).mesh
      ≡ mail 1 2 0 1 Away true 7 ∷ []
  pub send_no_data :
      (run stored (Send 1 0 2 1 false false ∷ [])).mesh
      ≡ mail 1 2 0 1 Away false 0 ∷ []
  -- plain tokens alone with data, the owner alone with data
  pub send_accepted : met stored (Send 1 0 2 1 false true ∷ Send 1 0 2 0 true true ∷ Send 1 0 0 2 true true ∷ []) ≡ 0 ∷ 0 ∷ 0 ∷ []
  -- deliver: position 0 is the oldest; the rest keep their order
  pub deliver_position :
      map (λ i. map (λ m. m.header.plain) (run (fresh 2 1 8) (send_plain 0 1 1 ∷ send_plain 0 2 2 ∷ send_plain 0 1 3 ∷ Deliver i ∷ [])).mesh) (0 ∷ 1 ∷ 2 ∷ 3 ∷ [])
      ≡ (2 ∷ 3 ∷ []) ∷ (1 ∷ 3 ∷ []) ∷ (1 ∷ 2 ∷ []) ∷ (1 ∷ 2 ∷ 3 ∷ []) ∷ []
  -- with data, also a valid target takes the message's words; its tokens are added
  pub deliver_data : cell_at (run meeting (Deliver 0 ∷ [])) 0 1 ≡ cell 1 Clean true 5
  -- without data, a valid target keeps its words and stays valid; one that is not valid keeps them and stays so
  pub deliver_no_data : cell_at (run meeting (Deliver 1 ∷ [])) 0 1 ≡ cell 1 Clean true 4
  pub deliver_stale : cell_at (run stored (Send 1 0 2 2 true true ∷ Deliver 0 ∷ send_plain 2 1 1 ∷ Deliver 0 ∷ [])) 0 1 ≡ cell 1 Away false 7
  -- forward: data exactly if valid, to the lowest waiting board; here board 2 has a plain token without data
  pub forward_bare :
      (run (fresh 2 1 3) (send_plain 0 2 1 ∷ Deliver 0 ∷ Raise 2 0 ∷ Raise 1 0 ∷ Forward 2 0 ∷ [])).mesh
      ≡ mail 2 1 0 1 Away false 0 ∷ []
  -- by the claims on its own block: 18 where only another block is claimed, and to the active board of its own
  pub forward_own_block : met (run two (Raise 2 0 ∷ [])) (Forward 0 1 ∷ []) ≡ 18 ∷ []
  pub forward_own_target : map (λ m. m.header.target) (run two (Raise 2 0 ∷ Raise 1 1 ∷ Forward 0 1 ∷ [])).mesh ≡ 1 ∷ []
  -- 64 messages are the most: with 63 in flight a send and a forward are accepted, with 64 neither
  pub mesh_63 : met (run claimed_full (Deliver 0 ∷ [])) (Forward 0 1 ∷ []) ≡ 0 ∷ []
  pub mesh_63_send : met (run full (Deliver 63 ∷ [])) (Send 0 1 1 1 false false ∷ []) ≡ 0 ∷ []
  -- where T = 1 a board that holds the owner holds all: E, and M once it has stored
  pub letter_one : letter (run (fresh 1 1 1) (Send 0 0 1 0 true true ∷ Deliver 0 ∷ [])) 1 0 ≡ Ok E
  pub letter_one_stored : letter (run (fresh 1 1 1) (Send 0 0 1 0 true true ∷ Deliver 0 ∷ Store 1 0 0 7 ∷ [])) 1 0 ≡ Ok M
  -- E says that home has the words only after an opening: the mark is sound without it
  pub letter_other_at_home : (sound other_at_home ≡ true) × (letter other_at_home 1 0 ≡ Ok E)

-- ---- the flat memory

pub record FlatMemory : Type 0 where
  -- all 0 at the start; a store replaces the word at its block and word; a load changes nothing
  pub words : flat (blank 2) (load 1 7 ∷ store 1 7 9 ∷ load 1 7 ∷ load 1 7 ∷ load 1 6 ∷ load 0 7 ∷ store 1 7 8 ∷ load 1 7 ∷ []) ≡ 0 ∷ 9 ∷ 9 ∷ 0 ∷ 0 ∷ 8 ∷ []
  -- it is handed the accepted loads and stores in order, and nothing else
  pub handed :
      rack_accesses (fresh 2 1 3) (Load 1 0 0 ∷ Store 1 0 0 1 ∷ Send 0 0 1 2 true true ∷ Deliver 0 ∷ Store 1 0 2 7 ∷ Load 2 0 2 ∷ Raise 2 0 ∷ Load 1 0 2 ∷ [])
      ≡ store 0 2 7 ∷ load 0 2 ∷ []
  -- those at home like any other (document 02, No. 7)
  pub handed_at_home : rack_accesses (fresh 2 1 3) (Load 0 0 2 ∷ Store 0 0 2 7 ∷ Load 0 1 2 ∷ Load 0 0 3 ∷ []) ≡ load 0 2 ∷ load 0 3 ∷ []

-- ---- raise and lower. The sets of a block: the waiting set first, then the barring sets of boards 1, 2 and 3; board i adds 2 ^ i.

abbrev pub sets : List Step → Claims
sets ss = claims_at (run (fresh 3 2 3) ss) 0

-- boards 1, 2 and 3 wait for block 0
abbrev pub waiting3 : List Step
waiting3 = Raise 3 0 ∷ Raise 1 0 ∷ Raise 2 0 ∷ []

pub record RaiseAndLower : Type 0 where
  pub raise : sets waiting3 ≡ 14 ∷ 0 ∷ 0 ∷ 0 ∷ []
  -- the active board is the lowest, and a later raise displaces it
  pub active_first : active (sets (Raise 3 0 ∷ [])) ≡ 3
  pub active_displaced : active (sets (Raise 3 0 ∷ Raise 1 0 ∷ [])) ≡ 1
  -- a board that waits and is not active may lower; it is barred by the lower and by the higher numbers that remain
  pub lower : sets (waiting3 ++ Lower 2 0 ∷ []) ≡ 10 ∷ 0 ∷ 10 ∷ 0 ∷ []
  -- the next one leaves every barring set
  pub lower_next : sets (waiting3 ++ Lower 2 0 ∷ Lower 1 0 ∷ []) ≡ 8 ∷ 8 ∷ 8 ∷ 0 ∷ []
  pub lower_last : sets (waiting3 ++ Lower 2 0 ∷ Lower 1 0 ∷ Lower 3 0 ∷ []) ≡ 0 ∷ 0 ∷ 0 ∷ 0 ∷ []
  -- a board that raises later bars nobody who lowered before
  pub later : sets (Raise 1 0 ∷ Lower 1 0 ∷ Raise 2 0 ∷ []) ≡ 4 ∷ 0 ∷ 0 ∷ 0 ∷ []
  -- nor one who is barred by another
  pub later_beside : sets (Raise 1 0 ∷ Raise 2 0 ∷ Lower 1 0 ∷ Raise 3 0 ∷ []) ≡ 12 ∷ 4 ∷ 0 ∷ 0 ∷ []
  -- barred for block 0 only
  pub other_block : met (run (fresh 3 2 3) (waiting3 ++ Lower 2 0 ∷ [])) (Raise 2 0 ∷ Raise 2 1 ∷ Lower 2 0 ∷ Lower 1 1 ∷ []) ≡ 16 ∷ 0 ∷ 17 ∷ 17 ∷ []

-- ---- "Sound means": a sound rack beside each that has one fault

-- home has the owner and one plain token, a plain token is in flight
abbrev pub home : List Cell
home = cell 1 Clean true 0 ∷ no_cell ∷ no_cell ∷ []

-- home has all
abbrev pub all : List Cell
all = cell 2 Clean true 0 ∷ no_cell ∷ no_cell ∷ []

-- one message, the rest at home; cells alone; sets alone
abbrev pub sound_with : Message → Bool
sound_with m = sound (small home (no_claims 2) (m ∷ []))

abbrev pub sound_cells : List Cell → Bool
sound_cells cells = sound (small cells (no_claims 2) [])

abbrev pub sound_sets : Claims → Bool
sound_sets claims = sound (small all claims [])

-- 64 messages with all of block 0, and more of block 1; home has the rest of it
abbrev pub crowded : ℕ → List Message → Rack
crowded p more =
    record {
      boards = 2;
      tokens = 64;
      blocks = record { cells = no_cell ∷ no_cell ∷ no_cell ∷ []; claims = no_claims 2 } ∷ record { cells = cell p Clean true 0 ∷ no_cell ∷ no_cell ∷ []; claims = no_claims 2 } ∷ [];
      mesh = mail 0 1 0 0 Clean true 0 ∷ replicate 63 (mail 0 1 0 1 Away false 0) ++ more;
    }

pub record Soundness : Type 0 where
  pub opened : sound (fresh 2 1 3) ≡ true
  pub met_on_the_way : sound meeting ≡ true
  -- sizes in range
  pub no_board : sound (fresh 0 1 3) ≡ false
  pub many_boards : sound (fresh 16 1 16) ≡ false
  pub no_block : sound (fresh 2 0 3) ≡ false
  pub many_blocks : sound (fresh 2 33 3) ≡ false
  pub few_tokens : sound (fresh 2 1 1) ≡ false
  pub many_tokens : sound (fresh 2 1 65) ≡ false
  -- at most 64 messages
  pub messages_64 : sound (crowded 63 []) ≡ true
  pub messages_65 : sound (crowded 62 (mail 0 1 1 1 Away false 0 ∷ [])) ≡ false
  -- a message: words all 0 if it has no data
  pub no_data : sound_with (mail 0 1 0 1 Away false 0) ≡ true
  pub with_data : sound_with (mail 0 1 0 1 Away true 6) ≡ true
  pub words_without_data : sound_with (mail 0 1 0 1 Away false 6) ≡ false
  pub last_word_without_data :
      sound_with (record { header = record { sender = 0; target = 1; block = 0; plain = 1; owner = Away; «data» = false }; words = replicate 7 0 ++ 6 ∷ [] }) ≡ false
  -- a known sender
  pub sender_N : sound_with (mail 2 1 0 1 Away false 0) ≡ true
  pub sender_unknown : sound_with (mail 3 1 0 1 Away false 0) ≡ false
  -- a known and different target
  pub target_N : sound_with (mail 0 2 0 1 Away false 0) ≡ true
  pub target_home : sound_with (mail 1 0 0 1 Away false 0) ≡ true
  pub target_unknown : sound_with (mail 0 3 0 1 Away false 0) ≡ false
  pub target_same : sound_with (mail 1 1 0 1 Away false 0) ≡ false
  -- a known block: the tokens of block 0 are all at home here
  pub block_unknown : sound (small all (no_claims 2) (mail 0 1 1 1 Away false 0 ∷ [])) ≡ false
  -- at least one token
  pub no_token : sound (small all (no_claims 2) (mail 0 1 0 0 Away false 0 ∷ [])) ≡ false
  pub no_token_with_data : sound (small all (no_claims 2) (mail 0 1 0 0 Away true 0 ∷ [])) ≡ false
  -- data if it has the owner, unless that is clean and bound for home (document 02, No. 2)
  pub owner_with_data : sound (small (cell 2 Away true 0 ∷ no_cell ∷ no_cell ∷ []) (no_claims 2) (mail 0 1 0 0 Clean true 0 ∷ [])) ≡ true
  pub bare_clean_board : sound (small (cell 2 Away true 0 ∷ no_cell ∷ no_cell ∷ []) (no_claims 2) (mail 0 1 0 0 Clean false 0 ∷ [])) ≡ false
  pub bare_clean_home : sound (small (no_cell ∷ cell 2 Away true 0 ∷ no_cell ∷ []) (no_claims 2) (mail 1 0 0 0 Clean false 0 ∷ [])) ≡ true
  pub bare_dirty_home : sound (small (no_cell ∷ cell 2 Away true 0 ∷ no_cell ∷ []) (no_claims 2) (mail 1 0 0 0 Dirty false 0 ∷ [])) ≡ false
  pub dirty_with_data : sound (small (no_cell ∷ cell 2 Away true 0 ∷ no_cell ∷ []) (no_claims 2) (mail 1 0 0 0 Dirty true 6 ∷ [])) ≡ true
  -- no sentence forbids a dirty owner at home
  pub dirty_at_home : sound_cells (cell 2 Dirty true 0 ∷ no_cell ∷ no_cell ∷ []) ≡ true
  -- the tokens in components and mesh total T
  pub shared : sound_cells (cell 0 Clean true 0 ∷ cell 1 Away true 0 ∷ cell 1 Away false 0 ∷ []) ≡ true
  pub one_more : sound_cells (cell 3 Clean true 0 ∷ no_cell ∷ no_cell ∷ []) ≡ false
  pub one_less : sound_cells (cell 1 Clean true 0 ∷ no_cell ∷ no_cell ∷ []) ≡ false
  pub one_more_in_flight : sound (small all (no_claims 2) (mail 0 1 0 1 Away false 0 ∷ [])) ≡ false
  -- of every block: one less of block 1
  pub one_less_of_another : sound (crowded 62 []) ≡ false
  -- one owner
  pub two_owners : sound_cells (cell 1 Clean true 0 ∷ cell 0 Clean true 0 ∷ no_cell ∷ []) ≡ false
  pub no_owner : sound_cells (cell 3 Away true 0 ∷ no_cell ∷ no_cell ∷ []) ≡ false
  pub two_owners_in_flight : sound (small home (no_claims 2) (mail 0 1 0 0 Clean true 0 ∷ [])) ≡ false
  -- valid only where a token is held
  pub valid_without_token : sound_cells (cell 2 Clean true 0 ∷ cell 0 Away true 0 ∷ no_cell ∷ []) ≡ false
  pub home_valid_without_token : sound_cells (cell 0 Away true 0 ∷ cell 2 Clean true 0 ∷ no_cell ∷ []) ≡ false
  -- the owner's holder is valid
  pub owner_not_valid : sound_cells (cell 2 Clean false 0 ∷ no_cell ∷ no_cell ∷ []) ≡ false
  pub dirty_not_valid : sound_cells (no_cell ∷ cell 2 Dirty false 0 ∷ no_cell ∷ []) ≡ false
  -- words that were left behind are no fault
  pub left_behind : sound_cells (cell 2 Clean true 0 ∷ cell 0 Away false 6 ∷ no_cell ∷ []) ≡ true
  -- every set has boards 1 to N only
  pub waits_N : sound_sets (4 ∷ 0 ∷ 0 ∷ []) ≡ true
  pub waits_0 : sound_sets (1 ∷ 0 ∷ 0 ∷ []) ≡ false
  pub waits_above : sound_sets (8 ∷ 0 ∷ 0 ∷ []) ≡ false
  pub bars_0 : sound_sets (5 ∷ 1 ∷ 0 ∷ []) ≡ false
  pub bars_above : sound_sets (12 ∷ 8 ∷ 0 ∷ []) ≡ false
  -- a barring set lies within the waiting set
  pub bars_within : sound_sets (4 ∷ 4 ∷ 0 ∷ []) ≡ true
  pub bars_outside : sound_sets (0 ∷ 4 ∷ 0 ∷ []) ≡ false
  -- a waiting board's is empty
  pub both_wait : sound_sets (6 ∷ 0 ∷ 0 ∷ []) ≡ true
  pub waiting_is_barred : sound_sets (6 ∷ 4 ∷ 0 ∷ []) ≡ false
  pub last_is_barred : sound_sets (6 ∷ 0 ∷ 2 ∷ []) ≡ false
  -- of every block: board 1 barred by a board that does not wait, in block 1
  pub bars_outside_in_another : sound (with_claims (fresh 2 2 3) 1 (0 ∷ 4 ∷ 0 ∷ [])) ≡ false
