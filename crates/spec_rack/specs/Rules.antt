-- Document 01, "Steps" and "Refusal table", with document 02, Nos. 1, 2 and 7: what each step of a rack does, and which refusal it meets first.
use Rattle.std.specs.Prelude.{ℕ, ◌+◌, ◌-◌, Bool, not, cond, ◌&&◌, ◌||◌, List, [], ◌∷◌, ◌++◌, length, get_or, set, eqb, leb, ltb, Ok, Err}
use Rattle.spec_base.specs.Folds.{remove_at, toℕ}
use Rattle.spec_wire.specs.declared.Refusal.{Refusal}
use Rattle.spec_wire.specs.declared.Refusal.TheVariants.{OffRack, Home, NoToken, NoData, Short, SelfSend, Claimed, Empty, NotHeld, BareOwner, MeshFull, NoMessage, Unclaimed, Size}
use Rattle.spec_rack.specs.Replies.{Reply}
use Rattle.spec_wire.specs.Answers.{Check, no_refusal}
use Rattle.spec_wire.specs.Refusals.{when◌refuse◌else◌}
use Rattle.spec_wire.specs.declared.Step.{Step}
use Rattle.spec_wire.specs.declared.Step.TheVariants.{Load, Store, Send, Deliver, Raise, Lower, Forward}
use Rattle.spec_arbiter.specs.Claims.{Claims, active, unclaimed, raise_check, raised, lower_check, lowered}
use Rattle.spec_rack.specs.declared.Owner.{Owner}
use Rattle.spec_rack.specs.declared.Owner.TheVariants.{Away, Dirty, Clean}
use Rattle.spec_rack.specs.declared.Message.{Message}
use Rattle.spec_rack.specs.declared.Answer.{Answer}
use Rattle.spec_rack.specs.declared.Answer.TheVariants.{Done, Word, Served}
use Rattle.spec_rack.specs.Rack.{Cell, Block, Rack, mesh_limit, is_home, present, may_go_bare, supplied, zeros, block_at, claims_at, cell_at, message_at, held, owners, fresh}
use Rattle.spec_rack.specs.Soundness.{sizes}

-- ---- the rack with one part of it changed: a block and the mesh, a cell and the mesh, the claims on a block

abbrev pub changed : Rack → ℕ → Block → List Message → Rack
changed r b k ms = record { boards = r.boards; tokens = r.tokens; blocks = set r.blocks b k; mesh = ms }

abbrev pub with_cell : Rack → ℕ → ℕ → Cell → List Message → Rack
with_cell r b c x ms = changed r b (record { cells = set (block_at r b).cells c x; claims = claims_at r b }) ms

abbrev pub with_claims : Rack → ℕ → Claims → Rack
with_claims r b k = changed r b (record { cells = (block_at r b).cells; claims = k }) r.mesh

-- ---- what the steps change

-- a store makes the owner dirty (document 02, No. 2), also a store of the value that is there
abbrev pub dirtied : Owner → Owner
dirtied Away = Away
dirtied Dirty = Dirty
dirtied Clean = Dirty

-- store: writes the word in that component only, and makes the owner there dirty
abbrev pub with_word : Cell → ℕ → ℕ → Cell
with_word x w v = record { plain = x.plain; owner = dirtied x.owner; valid = x.valid; words = set x.words w v }

unfoldable pub stored : Rack → ℕ → ℕ → ℕ → ℕ → Rack
stored r c b w v = with_cell r b c (with_word (cell_at r b c) w v) r.mesh

-- the owner w of a sender, where the send takes it or not: what the sender keeps, and what the message has, marked as it is
abbrev pub kept_owner : Bool → Owner → Owner
kept_owner o w = cond o Away w

abbrev pub taken_owner : Bool → Owner → Owner
taken_owner o w = cond o w Away

-- send: takes those tokens from the component; if nothing is held afterwards, valid becomes no; the words stay
abbrev pub without_tokens : Cell → ℕ → Bool → Cell
without_tokens x p o =
    let plain = x.plain - p in
    let owner = kept_owner o x.owner in
    record { plain = plain; owner = owner; valid = x.valid && ltb 0 (plain + owners owner); words = x.words }

-- and appends the message, with the component's words if data is yes
abbrev pub message : Cell → ℕ → ℕ → ℕ → ℕ → Bool → Bool → Message
message x c b t p o d =
    record {
      header = record { sender = c; target = t; block = b; plain = p; owner = taken_owner o x.owner; «data» = d };
      words = cond d x.words zeros;
    }

unfoldable pub sent : Rack → ℕ → ℕ → ℕ → ℕ → Bool → Bool → Rack
sent r c b t p o d =
    let x = cell_at r b c in
    with_cell r b c (without_tokens x p o) (r.mesh ++ message x c b t p o d ∷ [])

-- the owner of component c after a delivery, by its own and the message's: a dirty one becomes clean at home and stays dirty at a board
abbrev pub joined_owner : Owner → Owner → ℕ → Owner
joined_owner own Away c = own
joined_owner own Clean c = Clean
joined_owner own Dirty c = cond (is_home c) Clean Dirty

-- deliver: adds its tokens to the target; with data, the words become the message's and valid becomes yes; home becomes valid also by a clean owner, with
-- the words that it has
abbrev pub with_tokens : Cell → Message → Cell
with_tokens x m =
    record {
      plain = x.plain + m.header.plain;
      owner = joined_owner x.owner m.header.owner m.header.target;
      valid = x.valid || supplied m.header;
      words = cond m.header.«data» m.words x.words;
    }

-- removes that message, the rest keeping their order
unfoldable pub delivered : Rack → ℕ → Rack
delivered r i =
    let m = message_at r i in
    let b = m.header.block in
    let c = m.header.target in
    with_cell r b c (with_tokens (cell_at r b c) m) (remove_at r.mesh i)

-- forward: a send of all held tokens to the active board, data exactly if valid
unfoldable pub forwarded : Rack → ℕ → ℕ → Rack
forwarded r c b =
    let x = cell_at r b c in
    sent r c b (active (claims_at r b)) x.plain (present x.owner) x.valid

-- ---- the refusal table: for each step the lines that name it, the first match deciding

-- component above N, or block not below B
abbrev pub off_rack : Rack → ℕ → ℕ → Bool
off_rack r c b = ltb r.boards c || leb (length r.blocks) b

-- word above 7
abbrev pub past_words : ℕ → Bool
past_words w = ltb 7 w

-- 64 in flight
abbrev pub mesh_full : Rack → Bool
mesh_full r = leb mesh_limit (length r.mesh)

-- position not below the count in flight
abbrev pub past_mesh : Rack → ℕ → Bool
past_mesh r i = leb (length r.mesh) i

unfoldable pub check : Rack → Step → Check
-- at home as at a board (document 02, No. 7): document 01 had 4 there
check r (Load c b w) =
    when off_rack r c b || past_words w refuse OffRack else
    when eqb (held (cell_at r b c)) 0 refuse NoToken else  -- nothing held
    when not (cell_at r b c).valid refuse NoData else  -- tokens, not valid
    no_refusal
check r (Store c b w v) =
    when off_rack r c b || past_words w refuse OffRack else
    when is_home c refuse Home else  -- also where home holds all T
    when ltb (held (cell_at r b c)) r.tokens refuse Short else
    no_refusal
check r (Send c b t p o d) =
    when off_rack r c b || ltb r.boards t refuse OffRack else
    when eqb c t refuse SelfSend else
    when not (unclaimed (claims_at r b)) refuse Claimed else
    when eqb (p + toℕ o) 0 refuse Empty else
    when ltb (cell_at r b c).plain p || o && not (present (cell_at r b c).owner) refuse NotHeld else
    when o && not d && not (may_go_bare (cell_at r b c).owner t) refuse BareOwner else  -- dirty, or to a board
    when d && not (cell_at r b c).valid refuse NoData else
    when mesh_full r refuse MeshFull else
    no_refusal
check r (Deliver i) =
    when past_mesh r i refuse NoMessage else
    no_refusal
check r (Raise c b) =
    when off_rack r c b refuse OffRack else
    when is_home c refuse Home else  -- home never waits
    raise_check (claims_at r b) c
check r (Lower c b) =
    when off_rack r c b refuse OffRack else
    when is_home c refuse Home else  -- 4, and not 17
    lower_check (claims_at r b) c
check r (Forward c b) =
    when off_rack r c b refuse OffRack else
    when unclaimed (claims_at r b) refuse Unclaimed else
    when eqb c (active (claims_at r b)) refuse SelfSend else
    when eqb (held (cell_at r b c)) 0 refuse NoToken else
    when mesh_full r refuse MeshFull else
    no_refusal

-- ---- a step that passes its checks: the rack after it, and its answer

unfoldable pub after : Rack → Step → Rack
after r (Load c b w) = r
after r (Store c b w v) = stored r c b w v
after r (Send c b t p o d) = sent r c b t p o d
after r (Deliver i) = delivered r i
after r (Raise c b) = with_claims r b (raised (claims_at r b) c)
after r (Lower c b) = with_claims r b (lowered (claims_at r b) c)
after r (Forward c b) = forwarded r c b

-- A load gives the word. A deliver gives the target and the block of its message (document 02, No. 1). Every other step gives only "done".
unfoldable pub answer : Rack → Step → Answer
answer r (Load c b w) = Word (get_or (cell_at r b c).words w 0)
answer r (Store c b w v) = Done
answer r (Send c b t p o d) = Done
answer r (Deliver i) = Served (message_at r i).header.target (message_at r i).header.block
answer r (Raise c b) = Done
answer r (Lower c b) = Done
answer r (Forward c b) = Done

-- a refusal gives only its number and changes nothing
pub data Outcome : Type 0 where
  refused : Refusal → Outcome
  accepted : Answer → Rack → Outcome

abbrev pub settled : Check → Answer → Rack → Outcome
settled (Ok _) a r = accepted a r
settled (Err n) a r = refused n

unfoldable pub rules : Rack → Step → Outcome
rules r s = settled (check r s) (answer r s) (after r s)

-- the reply, and the rack afterwards
abbrev pub reply : Outcome → Reply
reply (refused n) = Err n
reply (accepted a r) = Ok a

abbrev pub rack_after : Rack → Outcome → Rack
rack_after r (refused n) = r
rack_after r (accepted a r') = r'

-- the reply to a step or an opening that gives only "done"
abbrev pub reply_of : Check → Reply
reply_of (Ok _) = Ok Done
reply_of (Err n) = Err n

-- ---- an opening with N, B and T; the buffer's length is asked for where there is one

-- the first line of its table, and the lines below it
abbrev pub opening_then : ℕ → ℕ → ℕ → Check → Check
opening_then n b t rest = when not (sizes n b t) refuse Size else rest

unfoldable pub opening_check : ℕ → ℕ → ℕ → Check
opening_check n b t = opening_then n b t no_refusal

unfoldable pub opening : ℕ → ℕ → ℕ → Outcome
opening n b t = settled (opening_check n b t) Done (fresh n b t)
