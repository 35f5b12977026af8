-- Document 01, "Steps", with document 02, Nos. 1, 2 and 7: a rack in which all cells and messages differ and two blocks have claims, and the answer and the
-- whole rack after a step of each kind. A step changes what its sentence names and nothing else: no other component, block, set or message, nor words that
-- nobody can read.
-- Each equation is computed.
use Rattle.std.specs.Prelude.{ℕ, ◌+◌, ◌≡◌, Bool, true, false, List, [], ◌∷◌, map}
use Rattle.spec_wire.specs.declared.Step.{Step}
use Rattle.spec_wire.specs.declared.Step.TheVariants.{Load, Store, Send, Deliver, Raise, Lower, Forward}
use Rattle.spec_arbiter.specs.Claims.{Claims}
use Rattle.spec_rack.specs.declared.Owner.{Owner}
use Rattle.spec_rack.specs.declared.Owner.TheVariants.{Away, Dirty, Clean}
use Rattle.spec_rack.specs.declared.Message.{Message}
use Rattle.spec_rack.specs.declared.Answer.TheVariants.{Done, Word, Served}
use Rattle.spec_rack.specs.Rack.{Cell, Block, Rack, zeros}
use Rattle.spec_rack.specs.Soundness.{sound}
use Rattle.spec_rack.specs.Rules.{accepted, rules, reply}
use Rattle.spec_rack.specs.Lists.{run}
use Rattle.spec_rack.specs.Examples.{code}

-- ---- the parts of a rack of 4 boards and 3 blocks with 60 tokens each

-- eight words: w, and each one more than the one before
abbrev pub eight : ℕ → List ℕ
eight w = w ∷ (w + 1) ∷ (w + 2) ∷ (w + 3) ∷ (w + 4) ∷ (w + 5) ∷ (w + 6) ∷ (w + 7) ∷ []

-- plain tokens, owner, valid, words
abbrev pub cell : ℕ → Owner → Bool → List ℕ → Cell
cell p o v ws = record { plain = p; owner = o; valid = v; words = ws }

-- nothing held, and words left behind
abbrev pub stale : ℕ → Cell
stale w = cell 0 Away false (eight w)

-- what home and boards 1 to 4 have of a block; its waiting set, and the barring sets of boards 1 to 4. Board i adds 2 ^ i to a set.
abbrev pub block : Cell → Cell → Cell → Cell → Cell → Claims → Block
block home one two three four sets = record { cells = home ∷ one ∷ two ∷ three ∷ four ∷ []; claims = sets }

-- from c to t, of block b: plain tokens, owner, data, words
abbrev pub mail : ℕ → ℕ → ℕ → ℕ → Owner → Bool → List ℕ → Message
mail c t b p o d ws = record { header = record { sender = c; target = t; block = b; plain = p; owner = o; «data» = d }; words = ws }

abbrev pub rack : Block → Block → Block → List Message → Rack
rack zero one two mesh = record { boards = 4; tokens = 60; blocks = zero ∷ one ∷ two ∷ []; mesh = mesh }

-- ---- The rack before the steps. No list of steps leads to it from an opening, since those who are valid for a block differ in their words; but it is sound,
-- so a buffer may hold it. A cell's name has the block's number and the component's: `cell23` is what board 3 has of block 2, and its word 5 is 0xC35.

-- block 0 is shared, with its owner at board 1, dirty; nobody waits
abbrev pub cell00 : Cell
cell00 = cell 4 Away true (eight 0xA00)

abbrev pub cell01 : Cell
cell01 = cell 6 Dirty true (eight 0xA10)

abbrev pub cell02 : Cell
cell02 = cell 8 Away false (eight 0xA20)

abbrev pub cell04 : Cell
cell04 = cell 2 Away true (eight 0xA40)

abbrev pub sets0 : Claims
sets0 = 0 ∷ 0 ∷ 0 ∷ 0 ∷ 0 ∷ []

abbrev pub block0 : Block
block0 = block cell00 cell01 cell02 (stale 0xA30) cell04 sets0

-- block 1 is all at board 2, clean; board 4 waits, and bars board 3
abbrev pub cell12 : Cell
cell12 = cell 59 Clean true (eight 0xB20)

abbrev pub sets1 : Claims
sets1 = 16 ∷ 0 ∷ 0 ∷ 16 ∷ 0 ∷ []

abbrev pub block1 : Block
block1 = block (stale 0xB00) (stale 0xB10) cell12 (stale 0xB30) (stale 0xB40) sets1

-- block 2 is shared, with its owner on the way home; boards 1, 3 and 4 wait, and 1 and 4 of them bar board 2
abbrev pub cell20 : Cell
cell20 = cell 3 Away false (eight 0xC00)

abbrev pub cell21 : Cell
cell21 = cell 7 Away false (eight 0xC10)

abbrev pub cell23 : Cell
cell23 = cell 9 Away true (eight 0xC30)

abbrev pub sets2 : Claims
sets2 = 26 ∷ 0 ∷ 18 ∷ 0 ∷ 0 ∷ []

abbrev pub block2 : Block
block2 = block cell20 cell21 (stale 0xC20) cell23 (stale 0xC40) sets2

-- in flight: of block 2, data to a board that waits, no data to one that is barred, and the owner, clean and bare, to home, none of whom is valid; of
-- block 0, data and no data to those who are valid
abbrev pub mail0 : Message
mail0 = mail 3 1 2 13 Away true (eight 0xD00)

abbrev pub mail1 : Message
mail1 = mail 0 2 2 11 Away false zeros

abbrev pub mail2 : Message
mail2 = mail 4 0 2 16 Clean false zeros

abbrev pub mail3 : Message
mail3 = mail 1 4 0 12 Away true (eight 0xE00)

abbrev pub mail4 : Message
mail4 = mail 2 0 0 27 Away false zeros

abbrev pub mesh : List Message
mesh = mail0 ∷ mail1 ∷ mail2 ∷ mail3 ∷ mail4 ∷ []

abbrev pub diverse : Rack
diverse = rack block0 block1 block2 mesh

-- steps that are refused, each with the refusal's number
abbrev pub refusals : List (Step × ℕ)
refusals =
    (Load 3 0 5, 5) ∷ (Load 2 0 5, 6) ∷ (Load 5 0 5, 3)
    ∷ (Store 0 0 5 99, 4) ∷ (Store 1 0 5 99, 7)
    ∷ (Send 1 0 1 1 false true, 8) ∷ (Send 3 2 1 9 false true, 9) ∷ (Send 1 0 3 0 false true, 10) ∷ (Send 1 0 3 7 false true, 11)
    ∷ (Send 4 0 3 1 true true, 11) ∷ (Send 1 0 0 6 true false, 12) ∷ (Send 2 0 3 8 false true, 6)
    ∷ (Deliver 5, 14)
    ∷ (Raise 0 1, 4) ∷ (Raise 4 2, 15) ∷ (Raise 2 2, 16)
    ∷ (Lower 0 2, 4) ∷ (Lower 2 2, 17)
    ∷ (Forward 1 0, 18) ∷ (Forward 1 2, 8) ∷ (Forward 4 2, 5) ∷ []

pub record AfterEachStep : Type 0 where
  pub is_sound : sound diverse ≡ true
  -- load: gives the word, at home and at a board
  pub load_home : rules diverse (Load 0 0 5) ≡ accepted (Word 0xA05) diverse
  pub load : rules diverse (Load 3 2 5) ≡ accepted (Word 0xC35) diverse
  -- store: the word in that component only; the owner there becomes dirty
  pub store :
      rules diverse (Store 2 1 5 99)
      ≡ accepted Done
      (rack block0
      (block (stale 0xB00) (stale 0xB10) (cell 59 Dirty true (0xB20 ∷ 0xB21 ∷ 0xB22 ∷ 0xB23 ∷ 0xB24 ∷ 99 ∷ 0xB26 ∷ 0xB27 ∷ [])) (stale 0xB30) (stale 0xB40) sets1)
      block2 mesh)
  -- send: takes those tokens and appends the message, with the words if data is yes; the component's words stay
  pub send :
      rules diverse (Send 1 0 3 5 true true)
      ≡ accepted Done
      (rack (block cell00 (cell 1 Away true (eight 0xA10)) cell02 (stale 0xA30) cell04 sets0) block1 block2
      (mail0 ∷ mail1 ∷ mail2 ∷ mail3 ∷ mail4 ∷ mail 1 3 0 5 Dirty true (eight 0xA10) ∷ []))
  -- if nothing is held afterwards, valid becomes no
  pub send_all_lem :
      rules diverse (Send 4 0 1 2 false false)
      ≡ accepted Done
      (rack (block cell00 cell01 cell02 (stale 0xA30) (stale 0xA40) sets0) block1 block2
      (mail0 ∷ mail1 ∷ mail2 ∷ mail3 ∷ mail4 ∷ mail 4 1 0 2 Away false zeros ∷ []))
  -- deliver: removes that message, the rest keeping their order, and adds its tokens to the target; with data, the target's words become the message's and
  -- valid becomes yes
  pub deliver_data :
      rules diverse (Deliver 0)
      ≡ accepted (Served 1 2)
      (rack block0 block1 (block cell20 (cell 20 Away true (eight 0xD00)) (stale 0xC20) cell23 (stale 0xC40) sets2) (mail1 ∷ mail2 ∷ mail3 ∷ mail4 ∷ []))
  pub deliver_no_data :
      rules diverse (Deliver 1)
      ≡ accepted (Served 2 2)
      (rack block0 block1 (block cell20 cell21 (cell 11 Away false (eight 0xC20)) cell23 (stale 0xC40) sets2) (mail0 ∷ mail2 ∷ mail3 ∷ mail4 ∷ []))
  -- home, receiving a clean owner without data, becomes valid with the words it already has
  pub deliver_bare :
      rules diverse (Deliver 2)
      ≡ accepted (Served 0 2)
      (rack block0 block1 (block (cell 19 Clean true (eight 0xC00)) cell21 (stale 0xC20) cell23 (stale 0xC40) sets2) (mail0 ∷ mail1 ∷ mail3 ∷ mail4 ∷ []))
  pub deliver_data_to_valid :
      rules diverse (Deliver 3)
      ≡ accepted (Served 4 0)
      (rack (block cell00 cell01 cell02 (stale 0xA30) (cell 14 Away true (eight 0xE00)) sets0) block1 block2 (mail0 ∷ mail1 ∷ mail2 ∷ mail4 ∷ []))
  pub deliver_no_data_to_valid :
      rules diverse (Deliver 4)
      ≡ accepted (Served 0 0)
      (rack (block (cell 31 Away true (eight 0xA00)) cell01 cell02 (stale 0xA30) cell04 sets0) block1 block2 (mail0 ∷ mail1 ∷ mail2 ∷ mail3 ∷ []))
  -- raise: the board joins the waiting set, and no barring set; so does a board that has all
  pub raise :
      rules diverse (Raise 1 1)
      ≡ accepted Done (rack block0 (block (stale 0xB00) (stale 0xB10) cell12 (stale 0xB30) (stale 0xB40) (18 ∷ 0 ∷ 0 ∷ 16 ∷ 0 ∷ [])) block2 mesh)
  pub raise_with_all :
      rules diverse (Raise 2 1)
      ≡ accepted Done (rack block0 (block (stale 0xB00) (stale 0xB10) cell12 (stale 0xB30) (stale 0xB40) (20 ∷ 0 ∷ 0 ∷ 16 ∷ 0 ∷ [])) block2 mesh)
  -- lower: the board leaves the waiting set and every barring set of that block; its own barring set becomes the waiting set that remains
  pub lower :
      rules diverse (Lower 4 2)
      ≡ accepted Done (rack block0 block1 (block cell20 cell21 (stale 0xC20) cell23 (stale 0xC40) (10 ∷ 0 ∷ 2 ∷ 0 ∷ 10 ∷ [])) mesh)
  pub lower_valid :
      rules diverse (Lower 3 2)
      ≡ accepted Done (rack block0 block1 (block cell20 cell21 (stale 0xC20) cell23 (stale 0xC40) (18 ∷ 0 ∷ 18 ∷ 18 ∷ 0 ∷ [])) mesh)
  -- forward: all held tokens to the active board, which is board 1; data exactly if valid
  pub forward :
      rules diverse (Forward 3 2)
      ≡ accepted Done
      (rack block0 block1 (block cell20 cell21 (stale 0xC20) (stale 0xC30) (stale 0xC40) sets2)
      (mail0 ∷ mail1 ∷ mail2 ∷ mail3 ∷ mail4 ∷ mail 3 1 2 9 Away true (eight 0xC30) ∷ []))
  pub forward_no_data :
      rules diverse (Forward 0 2)
      ≡ accepted Done
      (rack block0 block1 (block (stale 0xC00) cell21 (stale 0xC20) cell23 (stale 0xC40) sets2)
      (mail0 ∷ mail1 ∷ mail2 ∷ mail3 ∷ mail4 ∷ mail 0 1 2 3 Away false zeros ∷ []))
  -- the active board stores: it waits on, and is still the active board
  pub store_active :
      rules (run diverse (Raise 2 1 ∷ [])) (Store 2 1 5 99)
      ≡ accepted Done
      (rack block0
      (block (stale 0xB00) (stale 0xB10) (cell 59 Dirty true (0xB20 ∷ 0xB21 ∷ 0xB22 ∷ 0xB23 ∷ 0xB24 ∷ 99 ∷ 0xB26 ∷ 0xB27 ∷ [])) (stale 0xB30) (stale 0xB40)
      (20 ∷ 0 ∷ 0 ∷ 16 ∷ 0 ∷ []))
      block2 mesh)
  -- all goes home, with data and bare: the words of the sender stay
  pub send_home :
      rules diverse (Send 1 0 0 6 true true)
      ≡ accepted Done
      (rack (block cell00 (stale 0xA10) cell02 (stale 0xA30) cell04 sets0) block1 block2
      (mail0 ∷ mail1 ∷ mail2 ∷ mail3 ∷ mail4 ∷ mail 1 0 0 6 Dirty true (eight 0xA10) ∷ []))
  pub send_bare_lem :
      rules (run diverse (Lower 4 1 ∷ [])) (Send 2 1 0 59 true false)
      ≡ accepted Done
      (rack block0 (block (stale 0xB00) (stale 0xB10) (stale 0xB20) (stale 0xB30) (stale 0xB40) sets0) block2
      (mail0 ∷ mail1 ∷ mail2 ∷ mail3 ∷ mail4 ∷ mail 2 0 1 59 Clean false zeros ∷ []))
  -- a board that holds tokens and is not valid raises and lowers
  pub raise_not_valid :
      rules diverse (Raise 2 0) ≡ accepted Done (rack (block cell00 cell01 cell02 (stale 0xA30) cell04 (4 ∷ 0 ∷ 0 ∷ 0 ∷ 0 ∷ [])) block1 block2 mesh)
  pub lower_not_valid :
      rules diverse (Lower 1 2)
      ≡ accepted Done (rack block0 block1 (block cell20 cell21 (stale 0xC20) cell23 (stale 0xC40) (24 ∷ 24 ∷ 16 ∷ 0 ∷ 0 ∷ [])) mesh)
  -- forward with the owner: all goes, the words of the sender stay
  pub forward_owner :
      rules diverse (Forward 2 1)
      ≡ accepted Done
      (rack block0 (block (stale 0xB00) (stale 0xB10) (stale 0xB20) (stale 0xB30) (stale 0xB40) sets1) block2
      (mail0 ∷ mail1 ∷ mail2 ∷ mail3 ∷ mail4 ∷ mail 2 4 1 59 Clean true (eight 0xB20) ∷ []))
  -- a refusal gives only its number and changes nothing
  pub refused : map (λ p. code (reply (rules diverse p.0))) refusals ≡ map (λ p. p.1) refusals
  pub unchanged : run diverse (map (λ p. p.0) refusals) ≡ diverse
