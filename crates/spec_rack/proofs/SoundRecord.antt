-- A sound record as facts about its rack; and that the record of a sound rack of the same sizes, written over it, is sound again.
use Prim.Native.Nat.{ℕ, ◌^◌, ◌≤◌, ◌<◌}
use native.Mathlib.Omega.{arith}
use mathlib.Core.Path.{◌≡◌, sym, ◌∙◌, subst}
use mathlib.Core.Bool.{true}
use mathlib.Core.List.{List}
use lib.ListN.{length, drop}
use Rattle.spec_base.specs.Folds.{All}
use Rattle.spec_base.proofs.Tests.{and_l, and_r, and_of}
use Rattle.spec_base.proofs.Folds.{all_at, all_map}
use Rattle.spec_base.specs.Number.{Bytes}
use Rattle.spec_rack.specs.Rack.{Rack, mesh_limit, no_block, block_at}
use Rattle.spec_rack.specs.Soundness.{sound, well_formed_record, sound_bytes}
use Rattle.spec_rack.proofs.SoundnessFacts.{Sound, sound_facts, sound_test}
use Rattle.spec_rack.proofs.BlockInvariant.{Fits}
use Rattle.spec_rack.specs.RecordLayout.{record_length, get, put, blocks_in, boards_in}
use Rattle.spec_rack.specs.Effects.{Behind}
use Rattle.spec_rack.proofs.LayoutParts.{CellFits, MessageFits, BlockFits}
use Rattle.spec_rack.proofs.GetPut.{Formed, well_formed_lem, formed_of, law, boards_is, blocks_is, mesh_is, get_put, put_keeps, put_behind, put_formed}
use Rattle.spec_rack.proofs.Representable.{holdable, boards_low}

pub record Live (s : List ℕ) : Type 0 where
  pub well_formed : Formed s
  pub sound : Sound (get s)
  pub fits : Fits (get s)

-- words read from four bytes fit 32 bits
pub words_fit_lem : (s : List ℕ) → Formed s → Fits (get s)
unfolding get
words_fit_lem s ok =
    let held = ((law s ok).holds s ok.bytes).1 in
    record {
      cells = λ b l.
          all_map CellFits (λ x. All (λ (w : ℕ). w < 2 ^ 32) x.words) (block_at (get s) b).cells
          (all_at (BlockFits (boards_in s)) (get s).blocks held.1.1 b no_block l).0.1 (λ x h. h.1.1);
      mesh = all_map MessageFits (λ x. All (λ (w : ℕ). w < 2 ^ 32) x.words) (get s).mesh held.0.1 (λ x h. h.1.1);
    }

pub rack_sound : (s : List ℕ) → sound_bytes s ≡ true → Sound (get s)
unfolding sound_bytes
rack_sound s h = sound_facts (get s) (and_r (well_formed_record s) (sound (get s)) h)

module _ (s : List ℕ) (bytes : Bytes s) (h : sound_bytes s ≡ true) where
  pub live_of : Live s
  unfolding sound_bytes mesh_limit
  live_of =
      let ok : Formed s =
      formed_of s bytes (omega (arith, boards_is s, boards_low (get s) (rack_sound s h))) (omega (arith, mesh_is s, (rack_sound s h).few)) (and_l (well_formed_record s) (sound (get s)) h) in
      record { well_formed = ok; sound = rack_sound s h; fits = words_fit_lem s ok }

module _ (s : List ℕ) (live : Live s) where
  pub sound_of : sound_bytes s ≡ true
  unfolding sound_bytes
  sound_of = and_of (well_formed_record s) (sound (get s)) (well_formed_lem s live.well_formed) (sound_test (get s) live.sound)

  -- another sound rack, of as many blocks
  module _ (r : Rack) (sr : Sound r) (fr : Fits r) (same : length r.blocks ≡ length (get s).blocks) where
    room : record_length (length r.blocks) ≤ length s
    room = omega (arith, live.well_formed.room, blocks_is s)

    pub put_is : get (put r s) ≡ r
    put_is = get_put r (holdable r sr fr) s room

    pub put_rest : Behind (blocks_in s) s (put r s)
    put_rest =
        record {
          size = put_keeps r (holdable r sr fr) s room;
          behind = subst (λ (b : ℕ). drop (record_length b) (put r s) ≡ drop (record_length b) s) (same ∙ blocks_is s) (put_behind r (holdable r sr fr) s room);
        }

    pub put_live : Live (put r s)
    put_live =
        record {
          well_formed = put_formed r (holdable r sr fr) s room live.well_formed.bytes;
          sound = subst Sound (sym put_is) sr;
          fits = subst Fits (sym put_is) fr;
        }
