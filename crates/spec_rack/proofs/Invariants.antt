-- A store is accepted only of a component that holds all T, so no other holds a token and none is in flight; the rest is part of what every list keeps.
use Prim.Native.Nat.{ℕ, zero, suc, ◌≤◌, ◌<◌, suc-le-suc}
use native.Mathlib.Omega.{arith}
use mathlib.Core.Path.{◌≡◌, refl, sym, ap, ◌∙◌, subst}
use mathlib.Core.Bool.{Bool, true, false, not, ◌||◌}
use mathlib.Core.List.{List, [], ◌∷◌}
use lib.ListN.{length, get_or}
use lib.Dec.{eqb, ltb}
use borrow.Author.Tests.{ltb-false, eqb-false, leb-true}
use Rattle.spec_base.proofs.Tests.{differs, and_l, and_r, or_l}
use Rattle.spec_base.proofs.Folds.{sum_at, sum_two}
use Rattle.spec_wire.specs.declared.Refusal.TheVariants.{OffRack, Home, NoToken, NoData, Short}
use Rattle.std.specs.Prelude.{Ok, Err}
use Rattle.spec_rack.specs.Replies.{Reply}
use Rattle.spec_wire.specs.Answers.{Check, Reading, no_refusal}
use Rattle.spec_wire.specs.Refusals.{when◌refuse◌else◌}
use Rattle.spec_wire.specs.declared.Step.{Step}
use Rattle.spec_wire.specs.declared.Step.TheVariants.{Load, Store}
use Rattle.spec_wire.specs.Reader.{read_record}
use Rattle.spec_rack.specs.declared.Answer.{Answer}
use Rattle.spec_rack.specs.Rack.{Block, Rack, no_cell, no_block, no_message, is_home, fresh, block_at, cell_at, held, carried, in_flight}
use Rattle.spec_rack.specs.Soundness.{sizes}
use Rattle.spec_rack.specs.Rules.{settled, check, rules, off_rack, past_words, reply}
use Rattle.spec_rack.specs.FlatMemory.{Memory, blank, memory_after}
use Rattle.spec_rack.specs.RecordLayout.{get}
use Rattle.spec_rack.specs.Entries.{outcome, step_reply}
use Rattle.spec_rack.specs.Lists.{ruled_reply, run, rack_accesses, steps_of}
use Rattle.spec_rack.specs.Invariants.{SingleWriter, Current, SingleWriterMultipleReaders, DataValue, TokenConservation, SingleWriterMultipleReadersBytes, DataValueBytes, TokenConservationBytes}
use Rattle.spec_rack.proofs.SoundnessFacts.{Sound}
use Rattle.spec_rack.proofs.BlockInvariant.{all_anywhere, CellHas, MessageHas, Coherent, cell_in}
use Rattle.spec_rack.proofs.StepPreservation.{in_n, in_b}
use Rattle.spec_rack.proofs.FreshRack.{opened}
use Rattle.spec_rack.proofs.ListCoherence.{run_fresh, rack_coherence}
use Rattle.spec_rack.proofs.SoundRecord.{Live}
use Rattle.spec_rack.proofs.ByteLists.{outcome_read}
use Rattle.spec_rack.proofs.Coherence.{from_opening, coherence}

-- ---- what an accepted load and an accepted store are past

accepted_past : (k : Check) (x a : Answer) (r : Rack) → reply (settled k x r) ≡ Ok a → k ≡ no_refusal
accepted_past (Ok _) x a r e = refl
accepted_past (Err n) x a r e = cc

load_past : (off none stale : Bool) → (when off refuse OffRack else when none refuse NoToken else when stale refuse NoData else no_refusal) ≡ no_refusal
    → (off ≡ false) × (none ≡ false)
unfolding when◌refuse◌else◌
load_past true none stale e = (cc, cc)
load_past false true stale e = (cc, cc)
load_past false false stale e = (refl, refl)

store_past : (off home short : Bool) → (when off refuse OffRack else when home refuse Home else when short refuse Short else no_refusal) ≡ no_refusal
    → (off ≡ false) × (short ≡ false)
unfolding when◌refuse◌else◌
store_past true home short e = (cc, cc)
store_past false true short e = (cc, cc)
store_past false false true e = (cc, cc)
store_past false false false e = (refl, refl)

-- the component is one of the rack, the block too, and it holds at least so many tokens of it
record Holder (r : Rack) (c b least : ℕ) : Type 0 where
  on : off_rack r c b ≡ false
  tokens : least ≤ held (cell_at r b c)

module _ (r : Rack) (c b w : ℕ) where
  reader : (a : Answer) → ruled_reply r (Load c b w) ≡ Ok a → Holder r c b 1
  unfolding rules check
  reader a e =
      let p = load_past (off_rack r c b || past_words w) (eqb (held (cell_at r b c)) 0) (not (cell_at r b c).valid) (accepted_past _ _ a _ e) in
      record { on = or_l (off_rack r c b) (past_words w) p.0; tokens = some (held (cell_at r b c)) (eqb-false _ _ p.1) }
    where
      some : (k : ℕ) → (k ≡ 0 → ⊥) → 1 ≤ k
      some zero ne = absurd (ne refl)
      some (suc k) ne = omega arith

  writer : (v : ℕ) (a : Answer) → ruled_reply r (Store c b w v) ≡ Ok a → Holder r c b r.tokens
  unfolding rules check
  writer v a e =
      let p = store_past (off_rack r c b || past_words w) (is_home c) (ltb (held (cell_at r b c)) r.tokens) (accepted_past _ _ a _ e) in
      record { on = or_l (off_rack r c b) (past_words w) p.0; tokens = ltb-false _ _ p.1 }

-- ---- who holds all has the block to itself

module _ (r : Rack) (s : Sound r) (c b : ℕ) (all : Holder r c b r.tokens) where
  no_other : (j : ℕ) → (j ≡ c → ⊥) → Holder r j b 1 → ⊥
  no_other j ne h =
      let k = in_b r s c b all.on in
      omega (
        arith,
        (s.blocks b k).tokens,
        sum_two held (block_at r b).cells j c no_cell (cell_in r s b j k (in_n r s j b h.on)) (cell_in r s b c k (in_n r s c b all.on)) ne,
        h.tokens,
        all.tokens,
      )

  quiet : in_flight carried b r.mesh ≡ 0
  quiet =
      let k = in_b r s c b all.on in
      omega (
        arith,
        (s.blocks b k).tokens,
        sum_at held (block_at r b).cells c no_cell (cell_in r s b c k (in_n r s c b all.on)),
        all.tokens,
      )

-- a rack has a token
some_tokens : (r : Rack) → Sound r → 1 ≤ r.tokens
some_tokens r s = omega (arith, leb-true 1 r.boards (search (and_l, and_r, s.size) depth 7), leb-true r.boards r.tokens (search (and_l, and_r, s.size) depth 7))

one_of_all : (r : Rack) → Sound r → (j b : ℕ) → Holder r j b r.tokens → Holder r j b 1
one_of_all r s j b h = record { on = h.on; tokens = omega (arith, some_tokens r s, h.tokens) }

-- by any reply that is the rules' for the item's step
module _ {S I : Type 0} (answered : S → I → Reply) (is : I → Step → Type 0) (rack_in : S → Rack) (s : S)
    (by_rules : (x : I) (t : Step) → is x t → answered s x ≡ ruled_reply (rack_in s) t) where
  pub single_writer : Sound (rack_in s) → SingleWriter answered is rack_in s
  single_writer ok x c b w v a store e =
      let r = rack_in s in
      let all = writer r c b w v a (sym (by_rules x (Store c b w v) store) ∙ e) in
      record {
        no_reader = λ y j w' a' ne load e'. no_other r ok c b all j ne (reader r j b w' a' (sym (by_rules y (Load j b w') load) ∙ e'));
        no_writer = λ y j w' v' a' ne other e'.
            no_other r ok c b all j ne (one_of_all r ok j b (writer r j b w' v' a' (sym (by_rules y (Store j b w' v') other) ∙ e')));
        none_in_flight = quiet r ok c b all;
      }

-- ---- a component that is valid is one of a block of the rack

within : (l : List Block) (b c : ℕ) → (get_or (get_or l b no_block).cells c no_cell).valid ≡ true → b < length l
within [] b c v = differs (sym v)
within (k ∷ l) zero c v = omega arith
within (k ∷ l) (suc b) c v = suc-le-suc (within l b c v)

current : (r : Rack) (mem : Memory) → Coherent r mem → Current r mem
current r mem coh =
    record {
      component = λ b c v.
          all_anywhere (CellHas mem b) (block_at r b).cells (coh.has.cells b (within r.blocks b c v)) no_cell (λ none. differs (sym none)) c v;
      message = λ i. all_anywhere (MessageHas mem) r.mesh coh.has.mesh no_message (λ none. differs (sym none)) i;
    }

-- ---- after a list from a fresh rack

module _ (n b t : ℕ) (ss : List Step) (fits : sizes n b t ≡ true) where
  rack_writer : SingleWriter ruled_reply (λ x y. x ≡ y) (λ rack. rack) (run (fresh n b t) ss)
  rack_writer =
      single_writer ruled_reply (λ x y. x ≡ y) (λ rack. rack) (run (fresh n b t) ss) (λ x y e. ap (ruled_reply (run (fresh n b t) ss)) e)
      (run_fresh n b t ss fits).sound

  rack_current : Current (run (fresh n b t) ss) (memory_after (blank b) (rack_accesses (fresh n b t) ss))
  rack_current = current (run (fresh n b t) ss) _ (run_fresh n b t ss fits).coherent

pub single_writer_multiple_readers : SingleWriterMultipleReaders
single_writer_multiple_readers n b t r ss e =
    let o = opened n b t r e in
    subst (λ (q : Rack). SingleWriter ruled_reply (λ x y. x ≡ y) (λ rack. rack) (run q ss)) o.1 (rack_writer n b t ss o.0)

pub data_value : DataValue
data_value n b t r ss e =
    let o = opened n b t r e in
    subst (λ (q : Rack). Current (run q ss) (memory_after (blank b) (rack_accesses q ss))) o.1 (rack_current n b t ss o.0)

pub token_conservation : TokenConservation
token_conservation n b t r ss e = (rack_coherence n b t r ss e).1

-- ---- and on a record that a list of byte strings leaves

live_reply : (s : List ℕ) → Live s → (bytes : List ℕ) (t : Step) → read_record bytes ≡ Ok t → step_reply s bytes ≡ ruled_reply (get s) t
unfolding step_reply
live_reply s live bytes t e = ap (λ (k : Reading). reply (outcome k s)) e ∙ ap reply (outcome_read s live t)

pub single_writer_multiple_readers_bytes : SingleWriterMultipleReadersBytes
single_writer_multiple_readers_bytes n b t s steps bytes e =
    let live = (from_opening n b t s steps bytes e).live in
    single_writer step_reply (λ item step. read_record item ≡ Ok step) get _ (live_reply _ live) live.sound

pub data_value_bytes : DataValueBytes
data_value_bytes n b t s steps bytes e =
    let ran = from_opening n b t s steps bytes e in
    rw (ran.rack, ran.accesses) (rack_current n b t (steps_of steps) ran.fits)

pub token_conservation_bytes : TokenConservationBytes
token_conservation_bytes n b t s steps bytes e = (coherence n b t s steps bytes e).1
