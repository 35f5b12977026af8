-- What the functions on the record's figures ask of their caller, from a sound record.
use native.Mathlib.Omega.{arith}
use Prim.Native.Nat.{ℕ}
use mathlib.Core.List.{List}
use Rattle.spec_rack.specs.RecordLayout.{get}
use Rattle.spec_rack.proofs.GetPut.{well_formed_lem, blocks_is}
use Rattle.spec_rack.proofs.Representable.{blocks_low}
use Rattle.spec_rack.proofs.SoundRecord.{Live}
use Rattle.record.specs.Needs.{InLayout}

pub in_layout : (s : List ℕ) → Live s → InLayout s
in_layout s live =
    let ok = live.well_formed in
    record {
      well_formed = well_formed_lem s ok;
      boards = ok.boards;
      blocks = omega (arith, blocks_is s, blocks_low (get s) live.sound);
      messages = ok.messages;
      room = ok.room;
    }
