-- Document 01, "Steps": what a send or a forward whose check passes has, for the taking of tokens and the making of a message.
use Rattle.std.specs.Prelude.{ℕ, ◌≤◌, ◌<◌, List}
use Rattle.spec_rack.specs.Rack.{cell_at}
use Rattle.spec_rack.specs.RecordLayout.{get, messages_in}
use Rattle.record.specs.Needs.{SoundRecord, CellInRecord}

-- p plain tokens of block b at component c of the record s, and room in the mesh
pub record CanSend (s : List ℕ) (c b p : ℕ) : Type 0 where
  pub ready : SoundRecord s
  pub in_cell : CellInRecord s b c
  pub enough : p ≤ (cell_at (get s) b c).plain
  pub room : messages_in s < 64
