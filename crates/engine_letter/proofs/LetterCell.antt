-- A sound record's sizes as numbers of its first bytes: those of its rack.
use Prim.Native.Nat.{ℕ, ◌≤◌}
use native.Mathlib.Omega.{arith}
use mathlib.Core.Path.{◌≡◌}
use mathlib.Core.Bool.{true}
use mathlib.Core.List.{List}
use lib.ListN.{length}
use Rattle.spec_base.specs.Number.{Bytes}
use Rattle.spec_rack.specs.RecordLayout.{record_length, get, blocks_in, boards_in, tokens_in}
use Rattle.spec_rack.specs.Soundness.{sound_bytes}
use Rattle.spec_rack.proofs.GetPut.{Formed, tokens_is, blocks_is}
use Rattle.spec_rack.proofs.Representable.{blocks_low, tokens_low}
use Rattle.spec_rack.proofs.SoundRecord.{live_of}

pub record Whole (s : List ℕ) : Type 0 where
  pub well_formed : Formed s
  pub boards : boards_in s ≤ 15
  pub blocks : blocks_in s ≤ 32
  pub tokens : tokens_in s ≤ 64
  pub room : record_length (blocks_in s) ≤ length s

pub whole : (s : List ℕ) → Bytes s → sound_bytes s ≡ true → Whole s
whole s bytes h =
    let live = live_of s bytes h in
    record {
      well_formed = live.well_formed;
      boards = live.well_formed.boards;
      blocks = omega (arith, blocks_is s, blocks_low (get s) live.sound);
      tokens = omega (arith, tokens_is s, tokens_low (get s) live.sound);
      room = live.well_formed.room;
    }
