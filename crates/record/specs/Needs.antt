-- What the functions on the record's figures ask of their caller; a sound record gives it (document 01, "Sound means").
use Rattle.std.specs.Prelude.{ℕ, ◌≤◌, ◌<◌, ◌≡◌, true, List, length}
use Rattle.spec_rack.specs.RecordLayout.{record_length, blocks_in, boards_in, messages_in}
use Rattle.spec_rack.specs.Soundness.{well_formed_record, sound_bytes}

-- a well-formed record of sizes that the layout has room for
pub record InLayout (s : List ℕ) : Type 0 where
  pub well_formed : well_formed_record s ≡ true
  pub boards : boards_in s ≤ 15
  pub blocks : blocks_in s ≤ 32
  pub messages : messages_in s ≤ 64
  pub room : record_length (blocks_in s) ≤ length s

-- a block and a component of it
pub record CellInRecord (s : List ℕ) (b c : ℕ) : Type 0 where
  pub whole : InLayout s
  pub block : b < blocks_in s
  pub component : c ≤ boards_in s

-- a sound record, and what follows from that for its places
pub record SoundRecord (s : List ℕ) : Type 0 where
  pub sound : sound_bytes s ≡ true
  pub whole : InLayout s
