-- Document 01, "Steps": what a deliver knows when it fills the target.
use Rattle.std.specs.Prelude.{ℕ, ◌≤◌, ◌<◌, ◌≡◌, List}
use Rattle.spec_rack.specs.declared.MessageHeader.{MessageHeader}
use Rattle.spec_rack.specs.Rack.{message_at}
use Rattle.spec_rack.specs.RecordLayout.{get, boards_in, messages_in}
use Rattle.record.specs.Needs.{SoundRecord, CellInRecord}

-- a message in flight, its header, and its ends on the rack
pub record CanFill (s : List ℕ) (i : ℕ) (h : MessageHeader) : Type 0 where
  pub sound : SoundRecord s
  pub position : i < messages_in s
  pub header : h ≡ (message_at (get s) i).header
  pub target : CellInRecord s h.block h.target
  pub sender : h.sender ≤ boards_in s
