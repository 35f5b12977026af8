-- What a change of one block and the mesh leaves sound, coherent and of words that fit: the other blocks are as they were.
use mathlib.Core.Path.{◌≡◌, refl, ap, ◌∙◌, subst}
use mathlib.Core.Bool.{Bool, true, cond}
use mathlib.Core.List.{List, [], ◌∷◌}
use Prim.Native.Nat.{ℕ, zero, suc, ◌+◌, ◌^◌, ◌≤◌, ◌<◌}
use native.Mathlib.Omega.{arith}
use borrow.Author.Tests.{eq-eqb, ne_eqb, leb-true}
use lib.ListN.{length, get_or, set, length-set}
use lib.Dec.{eqb}
use Rattle.spec_base.specs.Folds.{toℕ, sum, All}
use Rattle.spec_base.proofs.Tests.{and_r}
use Rattle.spec_base.proofs.Folds.{all_at, all_map, all_set, sum_at, sum_set, at_set}
use Rattle.spec_rack.specs.declared.Owner.TheVariants.{Away}
use Rattle.spec_rack.specs.declared.Message.{Message}
use Rattle.spec_rack.specs.Rack.{Cell, Block, Rack, mesh_limit, present, clean, no_cell, no_block, no_message, block_at, claims_at, cell_at, message_at, owners, held, carried, in_flight, total}
use Rattle.spec_rack.specs.Rules.{changed, with_cell}
use Rattle.spec_rack.specs.FlatMemory.{Memory}
use Rattle.spec_rack.proofs.SoundnessFacts.{SoundCell, SoundMessage, SoundShape, Sound}
use Rattle.spec_rack.proofs.OwnerLaws.{NotDirty, is_away}

-- the owners of a cell and of a message, as figures beside `held` and `carried`

abbrev pub cell_owners : Cell → ℕ
cell_owners x = owners x.owner

abbrev pub message_owners : Message → ℕ
message_owners m = owners m.header.owner

-- ---- a figure of one message, in the sum of a block's

pub counted : (g : Message → ℕ) (b : ℕ) (m : Message) → m.header.block ≡ b → cond (eqb m.header.block b) (g m) 0 ≡ g m
counted g b m e = ap (λ (t : Bool). cond t (g m) 0) (eq-eqb m.header.block b e)

pub not_counted : (g : Message → ℕ) (b : ℕ) (m : Message) → (m.header.block ≡ b → ⊥) → cond (eqb m.header.block b) (g m) 0 ≡ 0
not_counted g b m ne = ap (λ (t : Bool). cond t (g m) 0) (ne_eqb m.header.block b ne)

pub in_flight_at : (r : Rack) (g : Message → ℕ) (i : ℕ) → i < length r.mesh → g (message_at r i) ≤ in_flight g (message_at r i).header.block r.mesh
in_flight_at r g i h =
    let m = message_at r i in
    omega (arith, counted g m.header.block m refl, sum_at (λ (y : Message). cond (eqb y.header.block m.header.block) (g y) 0) r.mesh i no_message h)

-- ---- a property of every cell, by its block, and of every message

-- what holds of each element, and of what stands past the end, holds at every place
pub all_anywhere : {A : Type 0} (P : A → Type 0) (l : List A) → All P l → (d : A) → P d → (i : ℕ) → P (get_or l i d)
all_anywhere P [] h d p i = p
all_anywhere P (x ∷ xs) h d p zero = h.0
all_anywhere P (x ∷ xs) h d p (suc i) = all_anywhere P xs h.1 d p i

pub record Everywhere (P : ℕ → Cell → Type 0) (Q : Message → Type 0) (r : Rack) : Type 0 where
  pub cells : (b : ℕ) → b < length r.blocks → All (P b) (block_at r b).cells
  pub mesh : All Q r.mesh

pub everywhere_map : (P P' : ℕ → Cell → Type 0) (Q Q' : Message → Type 0) (r : Rack)
    → ((b : ℕ) (x : Cell) → P b x → P' b x) → ((m : Message) → Q m → Q' m) → Everywhere P Q r → Everywhere P' Q' r
everywhere_map P P' Q Q' r f g h =
    record {
      cells = λ b l. all_map (P b) (P' b) (block_at r b).cells (h.cells b l) (f b);
      mesh = all_map Q Q' r.mesh h.mesh g;
    }

-- coherence: a valid cell, and a message with data, has the flat memory's words; and where the owner of a block is clean, in a cell or a message, home's
-- words of the block are the flat memory's, home valid or not; home's own owner is never dirty

abbrev pub CellHas : Memory → ℕ → Cell → Type 0
CellHas mem b x = x.valid ≡ true → x.words ≡ get_or mem b []

abbrev pub MessageHas : Memory → Message → Type 0
MessageHas mem m = m.header.«data» ≡ true → m.words ≡ get_or mem m.header.block []

abbrev pub HomeHas : Memory → Rack → ℕ → Type 0
HomeHas mem r b = (cell_at r b 0).words ≡ get_or mem b []

-- H of each block whose owner is clean
abbrev pub CleanCell : (ℕ → Type 0) → ℕ → Cell → Type 0
CleanCell H b x = clean x.owner ≡ true → H b

abbrev pub CleanMessage : (ℕ → Type 0) → Message → Type 0
CleanMessage H m = clean m.header.owner ≡ true → H m.header.block

abbrev pub WhereClean : (ℕ → Type 0) → Rack → Type 0
WhereClean H r = Everywhere (CleanCell H) (CleanMessage H) r

pub where_clean_map : (H H' : ℕ → Type 0) (r : Rack) → ((b : ℕ) → H b → H' b) → WhereClean H r → WhereClean H' r
where_clean_map H H' r f =
    everywhere_map (CleanCell H) (CleanCell H') (CleanMessage H) (CleanMessage H') r (λ b x h u. f b (h u)) (λ m h u. f m.header.block (h u))

pub record Coherent (r : Rack) (mem : Memory) : Type 0 where
  pub rows : length mem ≡ length r.blocks
  pub has : Everywhere (CellHas mem) (MessageHas mem) r
  pub home : WhereClean (HomeHas mem r) r
  pub not_dirty : (b : ℕ) → NotDirty (cell_at r b 0).owner

-- every word fits 32 bits: what the byte layout asks besides soundness

abbrev pub Fit : List ℕ → Type 0
Fit ws = All (λ (w : ℕ). w < 2 ^ 32) ws

abbrev pub CellFits : ℕ → Cell → Type 0
CellFits b x = Fit x.words

abbrev pub MessageFits : Message → Type 0
MessageFits m = Fit m.words

abbrev pub Fits : Rack → Type 0
Fits r = Everywhere CellFits MessageFits r

-- ---- a cell and a message of a sound rack

module _ (r : Rack) (s : Sound r) where
  pub message_sound : (i : ℕ) → i < length r.mesh → SoundMessage r.boards (length r.blocks) (message_at r i)
  message_sound i h = all_at (SoundMessage r.boards (length r.blocks)) r.mesh s.messages i no_message h

  module _ (b c : ℕ) (in_b : b < length r.blocks) (in_n : c ≤ r.boards) where
    pub cell_in : c < length (block_at r b).cells
    cell_in = omega (arith, (s.blocks b in_b).shape.width)

    pub cell_sound : SoundCell (cell_at r b c)
    cell_sound = all_at SoundCell (block_at r b).cells (s.blocks b in_b).shape.cells c no_cell cell_in

    pub cell_is : (P : ℕ → Cell → Type 0) (Q : Message → Type 0) → Everywhere P Q r → P b (cell_at r b c)
    cell_is P Q h = all_at (P b) (block_at r b).cells (h.cells b in_b) c no_cell cell_in

    pub cell_has : (mem : Memory) → Coherent r mem → CellHas mem b (cell_at r b c)
    cell_has mem coh = cell_is (CellHas mem) (MessageHas mem) coh.has

  -- no cell and no message has more than the 64 tokens that a block has at most

  few_tokens : r.tokens ≤ 64
  few_tokens = leb-true r.tokens 64 (search (and_r, s.size))

  pub cell_few : (b c : ℕ) → b < length r.blocks → c ≤ r.boards → (cell_at r b c).plain ≤ 64
  cell_few b c in_b in_n =
      omega (arith, few_tokens, (s.blocks b in_b).tokens, sum_at held (block_at r b).cells c no_cell (cell_in b c in_b in_n))

  pub message_few : (i : ℕ) → i < length r.mesh → (message_at r i).header.plain ≤ 64
  message_few i h =
      omega (arith, few_tokens, (s.blocks (message_at r i).header.block (message_sound i h).block).tokens, in_flight_at r carried i h)

  -- the owner of a block is in one place: where a message has it, no component does
  pub owner_in_flight : (i : ℕ) → i < length r.mesh → present (message_at r i).header.owner ≡ true → (c : ℕ) → c ≤ r.boards
      → (cell_at r (message_at r i).header.block c).owner ≡ Away
  owner_in_flight i h here c in_n =
      let b = (message_at r i).header.block in
      let in_b = (message_sound i h).block in
      is_away (cell_at r b c).owner
      (omega (
        arith,
        ap toℕ here,
        (s.blocks b in_b).owners,
        sum_at cell_owners (block_at r b).cells c no_cell (cell_in b c in_b in_n),
        in_flight_at r message_owners i h,
      ))

-- ---- the rack with another block k at b, and another mesh

module _ (r : Rack) (b : ℕ) (k : Block) (ms : List Message) where
  -- a figure that stays as it was in all, for this block and for the others
  pub record Balanced (f : Cell → ℕ) (g : Message → ℕ) : Type 0 where
    pub here : sum f k.cells + in_flight g b ms ≡ total f g r b
    pub there : (j : ℕ) → (j ≡ b → ⊥) → in_flight g j ms ≡ in_flight g j r.mesh

  module _ (in_b : b < length r.blocks) where
    -- a property of a block's number and the block, from that of k and of the old ones
    at_block : (P : ℕ → Block → Type 0) → P b k → ((j : ℕ) → j < length r.blocks → (j ≡ b → ⊥) → P j (block_at r j))
        → (j : ℕ) → j < length (changed r b k ms).blocks → P j (block_at (changed r b k ms) j)
    at_block P new old j l =
        at_set (P j) r.blocks b j k no_block in_b (λ e. rw e new) (old j (rw length-set at l))

    total_changed : (f : Cell → ℕ) (g : Message → ℕ) → Balanced f g
        → (j : ℕ) → j < length (changed r b k ms).blocks → total f g (changed r b k ms) j ≡ total f g r j
    total_changed f g bal =
        at_block (λ j y. sum f y.cells + in_flight g j ms ≡ total f g r j) bal.here (λ j l ne. omega (arith, bal.there j ne))

    pub changed_sound : Sound r → SoundShape r.boards k → length ms ≤ mesh_limit
        → All (SoundMessage r.boards (length r.blocks)) ms
        → Balanced held carried → Balanced cell_owners message_owners → Sound (changed r b k ms)
    changed_sound s shape few sms tok own =
        record {
          size = rw length-set s.size;
          few = few;
          messages = rw length-set sms;
          blocks = λ j l. let old = s.blocks j (rw length-set at l) in
              record {
                shape = at_block (λ j y. SoundShape r.boards y) shape (λ j h ne. (s.blocks j h).shape) j l;
                tokens = total_changed held carried tok j l ∙ old.tokens;
                owners = total_changed cell_owners message_owners own j l ∙ old.owners;
              };
        }

    pub changed_everywhere : (P : ℕ → Cell → Type 0) (Q : Message → Type 0) → All (P b) k.cells
        → ((j : ℕ) → j < length r.blocks → (j ≡ b → ⊥) → All (P j) (block_at r j).cells)
        → All Q ms → Everywhere P Q (changed r b k ms)
    changed_everywhere P Q new old qms = record { cells = at_block (λ j y. All (P j) y.cells) new old; mesh = qms }

-- ---- the rack with another cell x of one component, and another mesh

-- a figure that stays as it was in the cell and its block's messages, and in the other blocks' messages
pub record CellBalanced (r : Rack) (b c : ℕ) (x : Cell) (ms : List Message) (f : Cell → ℕ) (g : Message → ℕ) : Type 0 where
  pub here : f x + in_flight g b ms ≡ f (cell_at r b c) + in_flight g b r.mesh
  pub there : (j : ℕ) → (j ≡ b → ⊥) → in_flight g j ms ≡ in_flight g j r.mesh

module _ (r : Rack) (s : Sound r) (b c : ℕ) (in_b : b < length r.blocks) (in_n : c ≤ r.boards) (x : Cell) (ms : List Message) where
  block : Block
  block = record { cells = set (block_at r b).cells c x; claims = claims_at r b }

  balanced : (f : Cell → ℕ) (g : Message → ℕ) → CellBalanced r b c x ms f g → Balanced r b block ms f g
  unfolding block
  balanced f g bal =
      record {
        here = omega (arith, sum_set f (block_at r b).cells c x no_cell (cell_in r s b c in_b in_n), bal.here);
        there = bal.there;
      }

  pub with_cell_sound : SoundCell x → length ms ≤ mesh_limit → All (SoundMessage r.boards (length r.blocks)) ms
      → CellBalanced r b c x ms held carried → CellBalanced r b c x ms cell_owners message_owners → Sound (with_cell r b c x ms)
  unfolding block
  with_cell_sound sx few sms tok own =
      let old = (s.blocks b in_b).shape in
      changed_sound r b block ms in_b s
      (record {
        width = rw length-set old.width;
        cells = all_set SoundCell (block_at r b).cells c x old.cells sx;
        claims = old.claims;
      })
      few sms (balanced held carried tok) (balanced cell_owners message_owners own)

  pub with_cell_everywhere : (P : ℕ → Cell → Type 0) (Q : Message → Type 0) → Everywhere P Q r → P b x → All Q ms
      → Everywhere P Q (with_cell r b c x ms)
  unfolding block
  with_cell_everywhere P Q h px qms =
      changed_everywhere r b block ms in_b P Q (all_set (P b) (block_at r b).cells c x (h.cells b in_b) px) (λ j l ne. h.cells j l) qms

  -- a cell after the change: x where it is the one that changed, else as it was
  pub cell_after : (j k : ℕ) (G : Cell → Type 0) → (j ≡ b → k ≡ c → G x) → ((j ≡ b → k ≡ c → ⊥) → G (cell_at r j k)) → G (cell_at (with_cell r b c x ms) j k)
  unfolding block
  cell_after j k G new old =
      at_set (λ y. G (get_or y.cells k no_cell)) r.blocks b j block no_block in_b
      (λ e.
      at_set G (block_at r b).cells c k x no_cell (cell_in r s b c in_b in_n) (new e)
      (λ ne. subst (λ (i : ℕ). G (cell_at r i k)) e (old (λ q. ne))))
      (λ ne. old (λ e z. ne e))

  pub home_after : (j : ℕ) (G : Cell → Type 0) → (j ≡ b → 0 ≡ c → G x) → ((j ≡ b → 0 ≡ c → ⊥) → G (cell_at r j 0)) → G (cell_at (with_cell r b c x ms) j 0)
  home_after j = cell_after j 0

  pub cell_changed : cell_at (with_cell r b c x ms) b c ≡ x
  cell_changed = cell_after b c (λ y. y ≡ x) (λ _ _. refl) (λ ne. absurd (ne refl refl))

  -- so what holds of home's cell of every block stays, if the change keeps it in x where that is home's
  pub home_kept : (G : ℕ → Cell → Type 0) → (0 ≡ c → G b (cell_at r b c) → G b x)
      → (j : ℕ) → G j (cell_at r j 0) → G j (cell_at (with_cell r b c x ms) j 0)
  home_kept G f j h =
      home_after j (G j)
      (λ e z. rw e (f z (subst (λ (k : ℕ). G b (cell_at r b k)) z (subst (λ (k : ℕ). G k (cell_at r k 0)) e h))))
      (λ ne. h)
