-- Calls one after the other: each writes a rack over the record that the one before left.
use Prim.Native.Nat.{ℕ, ◌≤◌, ◌<◌}
use native.Mathlib.Omega.{arith}
use mathlib.Core.Path.{◌≡◌, sym, ap, ◌∙◌, subst}
use mathlib.Core.List.{List}
use lib.ListN.{length, length-set}
use Rattle.spec_base.specs.Folds.{All}
use Rattle.spec_base.proofs.Folds.{all_at, all_set}
use Rattle.spec_base.specs.Number.{Bytes}
use Rattle.spec_rack.specs.declared.Message.{Message}
use Rattle.spec_rack.specs.Rack.{Cell, Rack, no_cell, no_block, no_message, block_at, cell_at, message_at}
use Rattle.spec_rack.specs.Soundness.{sound}
use Rattle.spec_rack.proofs.SoundnessFacts.{Sound}
use Rattle.spec_rack.specs.RecordLayout.{record_length, get, put}
use Rattle.record.specs.Needs.{InLayout, CellInRecord}
use Rattle.record.specs.Changes.{with_mesh, replace_cell}
use Rattle.spec_rack.proofs.LayoutParts.{CellFits, MessageFits, BlockFits}
use Rattle.spec_rack.proofs.GetPut.{Formed, Fits, well_formed_lem, boards_is, blocks_is, get_put, put_formed, put_put, put_changed}
use Rattle.record.proofs.FieldAccess.{well_formed}
use Rattle.spec_rack.proofs.Representable.{holdable}
use Rattle.spec_rack.proofs.SoundRecord.{words_fit_lem}

-- ---- a sound record

-- the rack that a record holds is one that a record can hold
pub get_fits : (s : List ℕ) → Bytes s → InLayout s → Sound (get s) → Fits (get s)
get_fits s bytes whole sound = holdable (get s) sound (words_fit_lem s (well_formed s bytes whole))

-- ---- a rack with one part of it changed

module _ (r : Rack) (fits : Fits r) where
  pub mesh_fits_lem : (ms : List Message) → length ms ≤ 64 → All MessageFits ms → Fits (with_mesh r ms)
  mesh_fits_lem ms few all =
      record { boards = fits.boards; blocks = fits.blocks; tokens = fits.tokens; messages = few; blocks_fit = fits.blocks_fit; mesh_fits_lem = all }

  pub message_fits : (i : ℕ) → i < length r.mesh → MessageFits (message_at r i)
  message_fits i h = all_at MessageFits r.mesh fits.mesh_fits_lem i no_message h

  module _ (b : ℕ) (in_b : b < length r.blocks) where
    block_fits : BlockFits r.boards (block_at r b)
    block_fits = all_at (BlockFits r.boards) r.blocks fits.blocks_fit b no_block in_b

    pub cell_fits : (c : ℕ) → c ≤ r.boards → CellFits (cell_at r b c)
    cell_fits c in_n = all_at CellFits (block_at r b).cells block_fits.0.1 c no_cell (omega (arith, block_fits.0.0))

    pub on_cell_fits : (c : ℕ) (x : Cell) → CellFits x → Fits (replace_cell r b c x)
    on_cell_fits c x h =
        record {
          boards = fits.boards;
          blocks = rw length-set fits.blocks;
          tokens = fits.tokens;
          messages = fits.messages;
          blocks_fit =
              all_set (BlockFits r.boards) r.blocks b _ fits.blocks_fit
              ((length-set (block_at r b).cells c x ∙ block_fits.0.0, all_set CellFits (block_at r b).cells c x block_fits.0.1 h), block_fits.1);
          mesh_fits_lem = fits.mesh_fits_lem;
        }

-- ---- a call that wrote the rack q over the record of s

module _ (s : List ℕ) (bytes : Bytes s) (whole : InLayout s) (q : Rack) (fits : Fits q) (n : q.boards ≡ (get s).boards) (b : length q.blocks ≡ length (get s).blocks) (s₁ : List ℕ) (is : s₁ ≡ put q s) where
  room : record_length (length q.blocks) ≤ length s
  room = omega (arith, whole.room, blocks_is s)

  ok : Formed (put q s)
  ok = put_formed q fits s room bytes

  -- that rack is read back
  pub get_call : get s₁ ≡ q
  get_call = ap get is ∙ get_put q fits s room

  -- and the record is whole for the next call
  pub whole_call : InLayout s₁
  whole_call =
      let k : length (get (put q s)).blocks ≡ length q.blocks = ap (λ (r : Rack). length r.blocks) (get_put q fits s room) in
      subst InLayout (sym is)
      (record {
        well_formed = well_formed_lem (put q s) ok;
        boards = ok.boards;
        blocks = omega (arith, k, blocks_is (put q s), fits.blocks);
        messages = ok.messages;
        room = ok.room;
      })

  pub in_cell_call : (j c : ℕ) → CellInRecord s j c → CellInRecord s₁ j c
  in_cell_call j c h =
      record {
        whole = whole_call;
        block = omega (arith, h.block, b, blocks_is s, blocks_is s₁, ap (λ (r : Rack). length r.blocks) get_call);
        component = omega (arith, h.component, n, boards_is s, boards_is s₁, ap (λ (r : Rack). r.boards) get_call);
      }

  -- which covers it, with a rack of no fewer messages
  pub then : (r : Rack) → Fits r → r.boards ≡ q.boards → length r.blocks ≡ length q.blocks → length q.mesh ≤ length r.mesh
      → (s₂ : List ℕ) → s₂ ≡ put r s₁ → s₂ ≡ put r s
  then r fits' e k m s₂ is' =
      is' ∙ ap (put r) is ∙ put_put r fits' s (omega (arith, whole.room, blocks_is s)) q fits (sym e) (sym k) m

  -- and, where q has the messages of s, with a rack of any number of messages
  pub then_any : q.mesh ≡ (get s).mesh → (r : Rack) → Fits r → r.boards ≡ q.boards → length r.blocks ≡ length q.blocks
      → (s₂ : List ℕ) → s₂ ≡ put r s₁ → s₂ ≡ put r s
  then_any m r fits' e k s₂ is' =
      is' ∙ ap (put r) is ∙ put_changed r fits' s (omega (arith, whole.room, blocks_is s)) q fits (sym e) (sym k) (well_formed s bytes whole) m
