-- Document 01, "The flat memory", in the field's words: its two invariants of a coherent memory, single writer and multiple readers and data value, and Token
-- Coherence's own, token conservation, of every list from every opening. Demand 3 (Coherence.antt) is about what loads give; these are about the rack that a
-- list leaves.
use Rattle.std.specs.Prelude.{◌≡◌, true, List, [], get_or, ℕ, Ok}
use Rattle.spec_base.specs.Number.{Bytes}
use Rattle.spec_wire.specs.declared.Step.{Step}
use Rattle.spec_wire.specs.declared.Step.TheVariants.{Load, Store}
use Rattle.spec_rack.specs.Replies.{Reply}
use Rattle.spec_wire.specs.Reader.{read_record}
use Rattle.spec_rack.specs.declared.Answer.{Answer}
use Rattle.spec_rack.specs.declared.Answer.TheVariants.{Done}
use Rattle.spec_rack.specs.Rack.{Rack, cell_at, message_at, carried, in_flight}
use Rattle.spec_rack.specs.Rules.{accepted, opening}
use Rattle.spec_rack.specs.FlatMemory.{Memory, blank, memory_after}
use Rattle.spec_rack.specs.RecordLayout.{get}
use Rattle.spec_rack.specs.Opening.{open_reply, open_after}
use Rattle.spec_rack.specs.Entries.{step_reply}
use Rattle.spec_rack.specs.Lists.{ruled_reply, run, rack_accesses, after, accesses}
use Rattle.spec_rack.specs.Coherence.{Counts}

-- ---- single writer, multiple readers

-- Of a state from which a rack is read, by the reply that an item would get, and by which step an item is. A state is a rack and an item a step; or a state
-- is a lent buffer and an item a byte string.
module _ {S I : Type 0} (reply : S → I → Reply) (is : I → Step → Type 0) (rack_in : S → Rack) where
  -- component c has block b to itself: no load of the block by another component would be accepted, and no store; and no token of it is in flight
  pub record Alone (s : S) (c b : ℕ) : Type 0 where
    pub no_reader : (x : I) (j w : ℕ) (a : Answer) → (j ≡ c → ⊥) → is x (Load j b w) → reply s x ≡ Ok a → ⊥
    pub no_writer : (x : I) (j w v : ℕ) (a : Answer) → (j ≡ c → ⊥) → is x (Store j b w v) → reply s x ≡ Ok a → ⊥
    pub none_in_flight : in_flight carried b (rack_in s).mesh ≡ 0

  -- so it is wherever a store by c of a word of b would be accepted
  abbrev pub SingleWriter : S → Type 0
  SingleWriter s = (x : I) (c b w v : ℕ) (a : Answer) → is x (Store c b w v) → reply s x ≡ Ok a → Alone s c b

-- ---- data value

-- every component that is valid for a block has the eight words that the memory has of it, and so has every message with data
pub record Current (r : Rack) (mem : Memory) : Type 0 where
  pub component : (b c : ℕ) → (cell_at r b c).valid ≡ true → (cell_at r b c).words ≡ get_or mem b []
  pub message : (i : ℕ) → (message_at r i).header.«data» ≡ true → (message_at r i).words ≡ get_or mem (message_at r i).header.block []

-- ---- of every list of steps from every opening; the flat memory is handed the accepted loads and stores of the list

abbrev pub OfSteps : (ℕ → ℕ → ℕ → Rack → List Step → Type 0) → Type 0
OfSteps Holds = (n b t : ℕ) (r : Rack) (steps : List Step) → opening n b t ≡ accepted Done r → Holds n b t r steps

abbrev pub SingleWriterMultipleReaders : Type 0
SingleWriterMultipleReaders = OfSteps (λ n b t r steps. SingleWriter ruled_reply (λ x y. x ≡ y) (λ rack. rack) (run r steps))

abbrev pub DataValue : Type 0
DataValue = OfSteps (λ n b t r steps. Current (run r steps) (memory_after (blank b) (rack_accesses r steps)))

-- of each block T tokens, one of them the owner, in components and mesh
abbrev pub TokenConservation : Type 0
TokenConservation = OfSteps (λ n b t r steps. Counts n b t (run r steps))

-- ---- and of every list of byte strings, torn and refused ones among them, from every opening that is accepted, in every buffer

abbrev pub OfBytes : (ℕ → ℕ → ℕ → List ℕ → List (List ℕ) → Type 0) → Type 0
OfBytes Holds = (n b t : ℕ) (s : List ℕ) (steps : List (List ℕ)) → Bytes s → open_reply n b t s ≡ Ok Done → Holds n b t (open_after n b t s) steps

-- the store that would be accepted, and the loads and stores that would not, are given as bytes too
abbrev pub SingleWriterMultipleReadersBytes : Type 0
SingleWriterMultipleReadersBytes = OfBytes (λ n b t s steps. SingleWriter step_reply (λ bytes step. read_record bytes ≡ Ok step) get (after s steps))

abbrev pub DataValueBytes : Type 0
DataValueBytes = OfBytes (λ n b t s steps. Current (get (after s steps)) (memory_after (blank b) (accesses s steps)))

abbrev pub TokenConservationBytes : Type 0
TokenConservationBytes = OfBytes (λ n b t s steps. Counts n b t (get (after s steps)))
