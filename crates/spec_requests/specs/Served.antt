-- Document 02, No. 1: a deliver says whom it served. The definition is `answer` in Rules.antt; here is what it means for the rack, and that every other
-- answer is document 01's.
use Rattle.std.specs.Prelude.{ℕ, ◌+◌, ◌<◌, ◌≡◌, true, List, map, get_or, Ok, Err}
use Rattle.spec_base.specs.Number.{Bytes}
use Rattle.spec_wire.specs.declared.Step.{Step}
use Rattle.spec_wire.specs.declared.Step.TheVariants.{Load, Store, Send, Deliver, Raise, Lower, Forward}
use Rattle.spec_rack.specs.Replies.{Reply}
use Rattle.spec_wire.specs.Reader.{read_record}
use Rattle.spec_rack.specs.declared.Answer.{Answer}
use Rattle.spec_rack.specs.declared.Answer.TheVariants.{Done, Word, Served}
use Rattle.spec_rack.specs.Rack.{Rack, cell_at, message_at, held, carried}
use Rattle.spec_rack.specs.Soundness.{sound}
use Rattle.spec_rack.specs.Rules.{accepted, settled, check, after, rules, reply}
use Rattle.spec_rack.specs.RecordLayout.{get}
use Rattle.spec_rack.specs.Opening.{open_reply}
use Rattle.spec_rack.specs.Entries.{step_reply, step_after}
use Rattle.spec_rack.specs.Lists.{replies_of, ruled_after, rack_replies}

-- ---- whom it served

-- r before the deliver of message i and r' after it: component c got the tokens of block b that the message carried, and no other cell changed
pub record Serves (r : Rack) (i c b : ℕ) (r' : Rack) : Type 0 where
  pub gains : held (cell_at r' b c) ≡ held (cell_at r b c) + carried (message_at r i)
  pub some : 0 < carried (message_at r i)
  pub others : (j k : ℕ) → ((j ≡ b) × (k ≡ c) → ⊥) → cell_at r' j k ≡ cell_at r j k

-- an answer that names a component and a block, and these are whom the deliver of message i served
pub record Names (r : Rack) (i : ℕ) (a : Answer) (r' : Rack) : Type 0 where
  pub component : ℕ
  pub block : ℕ
  pub named : a ≡ Served component block
  pub serves : Serves r i component block r'

-- So does every accepted deliver on every sound rack. None gives only "done", and tokens came where it says and nowhere else.
abbrev pub SaysWhom : Type 0
SaysWhom = (r : Rack) (i : ℕ) (a : Answer) (r' : Rack) → sound r ≡ true → rules r (Deliver i) ≡ accepted a r' → Names r i a r'

-- ---- the same of the bytes of a step, given to the record in a lent buffer

-- the bytes were a deliver, and this is whom it served
pub record ServedBy (s bytes : List ℕ) (c b : ℕ) : Type 0 where
  pub position : ℕ
  pub read : read_record bytes ≡ Ok (Deliver position)
  pub serves : Serves (get s) position c b (get (step_after s bytes))

-- whatever the buffer held and whatever the bytes were: who is told "served" can rely on it
abbrev pub EveryServed : Type 0
EveryServed = (s bytes : List ℕ) (c b : ℕ) → Bytes s → step_reply s bytes ≡ Ok (Served c b) → ServedBy s bytes c b

-- ---- all else is as it was

-- document 01: a load gives the word, every other step only "done"
abbrev pub answer_before : Rack → Step → Answer
answer_before r (Load c b w) = Word (get_or (cell_at r b c).words w 0)
answer_before r (Store c b w v) = Done
answer_before r (Send c b t p o d) = Done
answer_before r (Deliver i) = Done
answer_before r (Raise c b) = Done
answer_before r (Lower c b) = Done
answer_before r (Forward c b) = Done

abbrev pub reply_before : Rack → Step → Reply
reply_before r s = reply (settled (check r s) (answer_before r s) (after r s))

-- a reply to a reader who does not care whom a deliver served
abbrev pub without_served : Reply → Reply
without_served (Ok Done) = Ok Done
without_served (Ok (Word w)) = Ok (Word w)
without_served (Ok (Served c b)) = Ok Done
without_served (Err n) = Err n

-- Only a deliver's reply is new, and only where it is accepted. Which steps are accepted and what they change is said by `check` and `after`, of which
-- No. 1 says nothing.
pub record AsBefore : Type 0 where
  pub step : (r : Rack) (s : Step) → without_served (reply (rules r s)) ≡ reply_before r s
  pub other_step : (r : Rack) (s : Step) → ((i : ℕ) → s ≡ Deliver i → ⊥) → reply (rules r s) ≡ reply_before r s
  pub list : (r : Rack) (ss : List Step) → map without_served (rack_replies r ss) ≡ replies_of ruled_after reply_before r ss
  -- an opening gives only "done"
  pub opening : (n b t : ℕ) (s : List ℕ) (a : Answer) → open_reply n b t s ≡ Ok a → a ≡ Done
