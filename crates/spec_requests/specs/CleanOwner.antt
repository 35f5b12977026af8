-- Document 02, No. 2: a clean owner may go home bare, that is without data. The definitions are in Rack.antt (the mark), Rules.antt (what a store, a send and
-- a deliver do with it; line 12 of a send) and Soundness.antt; here is what they mean for a sender, for home and for the flat memory, and what stays of
-- document 01.
use Rattle.std.specs.Prelude.{ℕ, ◌+◌, ◌<◌, ◌≡◌, Bool, true, false, not, cond, ◌&&◌, ◌||◌, List, [], ◌∷◌, map, length, get_or, eqb, ltb, Ok, Err}
use Rattle.spec_base.specs.Folds.{toℕ, implies, remove_at}
use Rattle.spec_base.specs.Number.{Bytes}
use Rattle.spec_wire.specs.declared.Refusal.TheVariants.{OffRack, NoData, SelfSend, Claimed, Empty, NotHeld, BareOwner, MeshFull, NoMessage}
use Rattle.spec_rack.specs.Replies.{Reply}
use Rattle.spec_wire.specs.Answers.{Check, no_refusal}
use Rattle.spec_wire.specs.Refusals.{when◌refuse◌else◌}
use Rattle.spec_wire.specs.declared.Step.{Step}
use Rattle.spec_wire.specs.declared.Step.TheVariants.{Load, Store, Send, Deliver, Raise, Lower, Forward}
use Rattle.spec_arbiter.specs.Claims.{unclaimed}
use Rattle.spec_rack.specs.declared.Owner.TheVariants.{Dirty, Clean}
use Rattle.spec_rack.specs.declared.Message.{Message}
use Rattle.spec_rack.specs.declared.Answer.TheVariants.{Done}
use Rattle.spec_rack.specs.declared.Answer.{Answer}
use Rattle.spec_rack.specs.Rack.{Cell, Rack, fresh, present, clean, may_go_bare, claims_at, cell_at, message_at}
use Rattle.spec_rack.specs.Soundness.{sound_contents, sound_message, sound}
use Rattle.spec_rack.specs.Rules.{Outcome, accepted, settled, opening, rules, sent, joined_owner, with_cell, answer, off_rack, mesh_full, past_mesh, reply, rack_after}
use Rattle.spec_rack.specs.FlatMemory.{blank, memory_after}
use Rattle.spec_rack.specs.RecordLayout.{get}
use Rattle.spec_rack.specs.Opening.{open_reply, open_after}
use Rattle.spec_rack.specs.Lists.{ruled_reply, ruled_after, run, rack_replies, rack_accesses, run_all, replies_of, after, accesses}
use Rattle.spec_rack.specs.Examples.{code, given_back}

-- ---- before: document 01's send, with 12 for every owner without data, and its deliver, which makes valid by data alone. Every other step is by the rules
-- of today; marks change as they do today, and these rules never ask for them.

abbrev pub send_check_before : Rack → ℕ → ℕ → ℕ → ℕ → Bool → Bool → Check
send_check_before r c b t p o d =
    when off_rack r c b || ltb r.boards t refuse OffRack else
    when eqb c t refuse SelfSend else
    when not (unclaimed (claims_at r b)) refuse Claimed else
    when eqb (p + toℕ o) 0 refuse Empty else
    when ltb (cell_at r b c).plain p || o && not (present (cell_at r b c).owner) refuse NotHeld else
    when o && not d refuse BareOwner else
    when d && not (cell_at r b c).valid refuse NoData else
    when mesh_full r refuse MeshFull else
    no_refusal

abbrev pub with_tokens_before : Cell → Message → Cell
with_tokens_before x m =
    record {
      plain = x.plain + m.header.plain;
      owner = joined_owner x.owner m.header.owner m.header.target;
      valid = x.valid || m.header.«data»;
      words = cond m.header.«data» m.words x.words;
    }

abbrev pub delivered_before : Rack → ℕ → Rack
delivered_before r i =
    let m = message_at r i in
    let b = m.header.block in
    let c = m.header.target in
    with_cell r b c (with_tokens_before (cell_at r b c) m) (remove_at r.mesh i)

abbrev pub rules_before_bare : Rack → Step → Outcome
rules_before_bare r (Load c b w) = rules r (Load c b w)
rules_before_bare r (Store c b w v) = rules r (Store c b w v)
rules_before_bare r (Send c b t p o d) = settled (send_check_before r c b t p o d) Done (sent r c b t p o d)
rules_before_bare r (Deliver i) = settled (when past_mesh r i refuse NoMessage else no_refusal) (answer r (Deliver i)) (delivered_before r i)
rules_before_bare r (Raise c b) = rules r (Raise c b)
rules_before_bare r (Lower c b) = rules r (Lower c b)
rules_before_bare r (Forward c b) = rules r (Forward c b)

abbrev pub reply_before_bare : Rack → Step → Reply
reply_before_bare r s = reply (rules_before_bare r s)

abbrev pub after_before_bare : Rack → Step → Rack
after_before_bare r s = rack_after r (rules_before_bare r s)

-- ---- which sends without data are accepted, and where 12 is left

pub record BareSends : Type 0 where
  -- a clean owner bound for home needs no data: on a sound rack its send has the reply that it has with data, with plain tokens beside the owner or none
  pub home : (r : Rack) (c b p : ℕ) → sound r ≡ true → (cell_at r b c).owner ≡ Clean
      → ruled_reply r (Send c b 0 p true false) ≡ ruled_reply r (Send c b 0 p true true)
  -- 12 is given where document 01 gave it, unless the owner may go bare,
  pub given : (r : Rack) (c b t p : ℕ) (o d : Bool) → reply_before_bare r (Send c b t p o d) ≡ Err BareOwner → may_go_bare (cell_at r b c).owner t ≡ false
      → ruled_reply r (Send c b t p o d) ≡ Err BareOwner
  -- and nowhere else
  pub only : (r : Rack) (c b t p : ℕ) (o d : Bool) → ruled_reply r (Send c b t p o d) ≡ Err BareOwner
      → (reply_before_bare r (Send c b t p o d) ≡ Err BareOwner) × (may_go_bare (cell_at r b c).owner t ≡ false)

-- ---- what home has once the owner is delivered there

-- Message i of a sound rack brings home the owner of its block. Home then has the owner, clean, whatever the mark was, and is valid; with data it has the
-- message's words, without data its own.
pub record HomeReceived (r : Rack) (i : ℕ) : Type 0 where
  pub owner : (cell_at (ruled_after r (Deliver i)) (message_at r i).header.block 0).owner ≡ Clean
  pub valid : (cell_at (ruled_after r (Deliver i)) (message_at r i).header.block 0).valid ≡ true
  pub words : (cell_at (ruled_after r (Deliver i)) (message_at r i).header.block 0).words ≡ cond (message_at r i).header.«data» (message_at r i).words (cell_at r (message_at r i).header.block 0).words

abbrev pub HomeReceives : Type 0
HomeReceives =
    (r : Rack) (i : ℕ) → sound r ≡ true → i < length r.mesh → (message_at r i).header.target ≡ 0 → present (message_at r i).header.owner ≡ true → HomeReceived r i

-- ---- what a clean mark says: home has the words

-- block b of a rack has a clean owner, in a component c or in a message i
pub data CleanIn (r : Rack) (b : ℕ) : Type 0 where
  in_component : (c : ℕ) → clean (cell_at r b c).owner ≡ true → CleanIn r b
  in_flight_lem : (i : ℕ) → (message_at r i).header.block ≡ b → clean (message_at r i).header.owner ≡ true → CleanIn r b

-- After every list of steps from every opening: where the owner of a block is clean, wherever it is, home's words of the block are the flat memory's, handed
-- the accepted loads and stores of the list. So home has the words of every bare send that such a list has accepted.
abbrev pub CleanHome : Type 0
CleanHome =
    (n b t : ℕ) (r : Rack) (steps : List Step) → opening n b t ≡ accepted Done r → (k : ℕ) → k < b → CleanIn (run r steps) k
    → (cell_at (run r steps) k 0).words ≡ get_or (memory_after (blank b) (rack_accesses r steps)) k []

-- The same of every list of byte strings, of the record that it leaves.
abbrev pub CleanHomeBytes : Type 0
CleanHomeBytes =
    (n b t : ℕ) (s : List ℕ) (steps : List (List ℕ)) → Bytes s → open_reply n b t s ≡ Ok Done → (k : ℕ) → k < b
    → CleanIn (get (after (open_after n b t s) steps)) k
    → (cell_at (get (after (open_after n b t s) steps)) k 0).words ≡ get_or (memory_after (blank b) (accesses (open_after n b t s) steps)) k []

-- and home's own owner is never dirty, though a sound record may have such a one
abbrev pub NeverDirtyAtHome : Type 0
NeverDirtyAtHome = (n b t : ℕ) (r : Rack) (steps : List Step) → opening n b t ≡ accepted Done r → (k : ℕ) → (cell_at (run r steps) k 0).owner ≡ Dirty → ⊥

-- ---- what stays

-- a step that would send, or deliver, a clean owner to home without data, accepted or not
abbrev pub is_bare : Rack → Step → Bool
is_bare r (Load c b w) = false
is_bare r (Store c b w v) = false
is_bare r (Send c b t p o d) = o && not d && may_go_bare (cell_at r b c).owner t
is_bare r (Deliver i) = not (message_at r i).header.«data» && may_go_bare (message_at r i).header.owner (message_at r i).header.target
is_bare r (Raise c b) = false
is_bare r (Lower c b) = false
is_bare r (Forward c b) = false

-- document 01 asks for data wherever a message has the owner. The rest of what it asks (`sound_contents`) did not move, and is not written a second time.
abbrev pub sound_message_before : ℕ → ℕ → Message → Bool
sound_message_before n b m = sound_contents n b m && implies (present m.header.owner) m.header.«data»

-- no step of a list is one, at its turn
abbrev pub none_bare : Rack → List Step → Bool
none_bare r [] = true
none_bare r (s ∷ ss) = not (is_bare r s) && none_bare (ruled_after r s) ss

pub record AsBefore : Type 0 where
  -- every other message is sound, or not, as before
  pub message : (n b : ℕ) (m : Message) → (not m.header.«data» && may_go_bare m.header.owner m.header.target) ≡ false
      → sound_message n b m ≡ sound_message_before n b m
  -- on every rack every other step is refused, or answered and made, as before
  pub step : (r : Rack) (s : Step) → is_bare r s ≡ false → rules r s ≡ rules_before_bare r s
  -- a send that was accepted before is accepted with the same answer and the same change
  pub accepted_send : (r : Rack) (c b t p : ℕ) (o d : Bool) (a : Answer) (r' : Rack) → rules_before_bare r (Send c b t p o d) ≡ accepted a r' → rules r (Send c b t p o d) ≡ accepted a r'
  -- and a list without such steps has the same replies and leaves the same rack
  pub list : (r : Rack) (ss : List Step) → none_bare r ss ≡ true
      → (rack_replies r ss ≡ replies_of after_before_bare reply_before_bare r ss) × (run r ss ≡ run_all after_before_bare r ss)

-- ---- an example by the rules before: of `given_back` every owner without data was refused with 12; so board 2 kept the block, and home had no token for
-- board 1

abbrev pub GivenBackBefore : Type 0
GivenBackBefore =
    map code (replies_of after_before_bare reply_before_bare (fresh 2 1 3) given_back)
    ≡ 0 ∷ 0 ∷ 0 ∷ 12 ∷ 0 ∷ 0 ∷ 0 ∷ 0 ∷ 0 ∷ 12 ∷ 12 ∷ 0 ∷ 14 ∷ 11 ∷ 14 ∷ 5 ∷ []
