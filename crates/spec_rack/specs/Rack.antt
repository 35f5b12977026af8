-- Document 01, "The rack": the figures of a rack, the fresh rack, and the tokens of a block; document 02, No. 2: the owner's mark.
use Rattle.std.specs.Prelude.{ℕ, ◌+◌, ◌-◌, Bool, true, false, cond, ◌&&◌, ◌||◌, List, [], ◌∷◌, get_or, replicate, eqb}
use Rattle.spec_base.specs.Folds.{toℕ, sum}
use Rattle.spec_arbiter.specs.Claims.{Claims, no_claims}
use Rattle.spec_rack.specs.declared.Owner.{Owner}
use Rattle.spec_rack.specs.declared.Owner.TheVariants.{Away, Dirty, Clean}
use Rattle.spec_rack.specs.declared.MessageHeader.{MessageHeader}
use Rattle.spec_rack.specs.declared.Message.{Message}

-- the most messages that the mesh holds
unfoldable pub mesh_limit : ℕ
mesh_limit = 64

-- component 0 is the home memory
abbrev pub is_home : ℕ → Bool
is_home c = eqb c 0

-- ---- the owner token as a component or a message has it: Away, or there with its mark (document 02, No. 2), Clean or Dirty

-- whether it is there
abbrev pub present : Owner → Bool
present Away = false
present Clean = true
present Dirty = true

-- whether it is there and clean
abbrev pub clean : Owner → Bool
clean Away = false
clean Clean = true
clean Dirty = false

-- how many owner tokens that is
abbrev pub owners : Owner → ℕ
owners o = toℕ (present o)

-- whether it may be sent to component c without data: clean, and to home
abbrev pub may_go_bare : Owner → ℕ → Bool
may_go_bare o c = clean o && is_home c

-- whether the delivery of a message makes its target valid: it has data, or it brings home a clean owner, and home has the words
abbrev pub supplied : MessageHeader → Bool
supplied h = h.«data» || may_go_bare h.owner h.target

-- what a component has of a block
pub record Cell : Type 0 where
  pub plain : ℕ
  pub owner : Owner
  pub valid : Bool
  pub words : List ℕ

-- a cell for each component, 0 (the home) to N; the waiting set and the barring sets
pub record Block : Type 0 where
  pub cells : List Cell
  pub claims : Claims

-- N, T, the B blocks, and the messages in flight, oldest first
pub record Rack : Type 0 where
  pub boards : ℕ
  pub tokens : ℕ
  pub blocks : List Block
  pub mesh : List Message

-- eight words, all 0
abbrev pub zeros : List ℕ
zeros = replicate 8 0

-- nothing of a block
abbrev pub no_cell : Cell
no_cell = record { plain = 0; owner = Away; valid = false; words = zeros }

-- what stands past the ends of the lists; on a sound rack no step that passes its checks reads there (InRange.antt)
abbrev pub no_block : Block
no_block = record { cells = []; claims = [] }

abbrev pub no_header : MessageHeader
no_header = record { sender = 0; target = 0; block = 0; plain = 0; owner = Away; «data» = false }

abbrev pub no_message : Message
no_message = record { header = no_header; words = zeros }

abbrev pub block_at : Rack → ℕ → Block
block_at r b = get_or r.blocks b no_block

abbrev pub claims_at : Rack → ℕ → Claims
claims_at r b = (block_at r b).claims

abbrev pub cell_at : Rack → ℕ → ℕ → Cell
cell_at r b c = get_or (block_at r b).cells c no_cell

abbrev pub message_at : Rack → ℕ → Message
message_at r i = get_or r.mesh i no_message

-- ---- the fresh rack: home holds all T of each block, valid; the owner is clean

abbrev pub full_cell : ℕ → Cell
full_cell t = record { plain = t - 1; owner = Clean; valid = true; words = zeros }

abbrev pub fresh_block : ℕ → ℕ → Block
fresh_block n t = record { cells = full_cell t ∷ replicate n no_cell; claims = no_claims n }

abbrev pub fresh : ℕ → ℕ → ℕ → Rack
fresh n b t = record { boards = n; tokens = t; blocks = replicate b (fresh_block n t); mesh = [] }

-- ---- the tokens of a block, in its cells and in the messages of the mesh

-- "held" is plain plus owner
abbrev pub held : Cell → ℕ
held x = x.plain + owners x.owner

abbrev pub carried : Message → ℕ
carried m = m.header.plain + owners m.header.owner

-- a figure of the messages of block b, added up
abbrev pub in_flight : (Message → ℕ) → ℕ → List Message → ℕ
in_flight g b ms = sum (λ m. cond (eqb m.header.block b) (g m) 0) ms

-- a figure f of the cells and g of the messages of block b, added up
abbrev pub total : (Cell → ℕ) → (Message → ℕ) → Rack → ℕ → ℕ
total f g r b = sum f (block_at r b).cells + in_flight g b r.mesh

abbrev pub tokens_of : Rack → ℕ → ℕ
tokens_of r b = total held carried r b

abbrev pub owners_of : Rack → ℕ → ℕ
owners_of r b = total (λ x. owners x.owner) (λ m. owners m.header.owner) r b
