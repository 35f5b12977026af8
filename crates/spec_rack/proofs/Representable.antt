-- A sound rack whose words fit 32 bits is one that a record can hold: its counts are at most T, its sets below 2 ^ 16.
use Prim.Native.Nat.{ℕ, zero, suc, ◌^◌, ◌≤◌, ◌<◌}
use native.Mathlib.Omega.{arith}
use lib.ListN.{length, get_or}
use borrow.Author.Tests.{leb-true}
use Rattle.spec_base.specs.Folds.{All}
use Rattle.spec_base.proofs.Tests.{and_l, and_r}
use Rattle.spec_base.proofs.Folds.{all_at, all_of}
use Rattle.spec_arbiter.specs.Claims.{Claims}
use Rattle.spec_arbiter.proofs.Boards.{boards_lt}
use Rattle.spec_arbiter.proofs.Claims.{SoundClaims}
use Rattle.spec_rack.specs.Rack.{Rack, mesh_limit, no_cell, no_block, no_message, block_at, cell_at, claims_at}
use Rattle.spec_rack.proofs.SoundnessFacts.{Sound, SoundCell}
use Rattle.spec_rack.proofs.BlockInvariant.{cell_few, message_few, message_sound, Fits}
use Rattle.spec_rack.proofs.LayoutParts.{CellFits, MessageFits, ClaimsFit, BlockFits}
use Rattle.spec_rack.proofs.GetPut.{Fits as Holds}

-- the sizes of a sound rack
module _ (r : Rack) (s : Sound r) where
  pub boards_low : r.boards ≤ 15
  boards_low = leb-true r.boards 15 (search (and_l, and_r, s.size) depth 7)

  pub blocks_low : length r.blocks ≤ 32
  blocks_low = leb-true (length r.blocks) 32 (search (and_l, and_r, s.size) depth 7)

  pub tokens_low : r.tokens ≤ 64
  tokens_low = leb-true r.tokens 64 (search (and_l, and_r, s.size) depth 7)

claims_fit : (n : ℕ) (c : Claims) → SoundClaims n c → ClaimsFit n c
claims_fit n c s =
    (s.width, all_of (λ (v : ℕ). v < 256 ^ 2) 0 c (λ i l. at i l))
  where
    at : (i : ℕ) → i < length c → get_or c i 0 < 256 ^ 2
    at zero l = omega (arith, boards_lt n (get_or c 0 0) s.waiting)
    at (suc i) l = omega (arith, boards_lt n (get_or c (suc i) 0) (s.barring (suc i) (omega arith) (omega (arith, s.width))).boards)

pub holdable : (r : Rack) → Sound r → Fits r → Holds r
unfolding mesh_limit
holdable r s f =
    record {
      boards = boards_low r s;
      blocks = blocks_low r s;
      tokens = tokens_low r s;
      messages = s.few;
      blocks_fit = all_of (BlockFits r.boards) no_block r.blocks block_fits;
      mesh_fits_lem = all_of MessageFits no_message r.mesh message_fits;
    }
  where
    cell_fits : (b : ℕ) → b < length r.blocks → (c : ℕ) → c < length (block_at r b).cells → CellFits (cell_at r b c)
    cell_fits b l c k =
        let shape = (s.blocks b l).shape in (
          (omega (arith, cell_few r s b c l (omega (arith, shape.width))), (tt, tt)),
          (
            (all_at SoundCell (block_at r b).cells shape.cells c no_cell k).eight,
            all_at (λ x. All (λ (w : ℕ). w < 2 ^ 32) x.words) (block_at r b).cells (f.cells b l) c no_cell k,
          ),
        )

    block_fits : (b : ℕ) → b < length r.blocks → BlockFits r.boards (get_or r.blocks b no_block)
    block_fits b l =
        let shape = (s.blocks b l).shape in (
          (shape.width, all_of CellFits no_cell (block_at r b).cells (cell_fits b l)),
          claims_fit r.boards (claims_at r b) shape.claims,
        )

    message_fits : (i : ℕ) → i < length r.mesh → MessageFits (get_or r.mesh i no_message)
    message_fits i l =
        let m = message_sound r s i l in
        let n = boards_low r s in
        let b = blocks_low r s in (
          (
            (omega (arith, m.sender), (omega (arith, m.target), omega (arith, m.block))),
            (omega (arith, message_few r s i l), (tt, tt)),
          ),
          (m.eight, all_at (λ x. All (λ (w : ℕ). w < 2 ^ 32) x.words) r.mesh f.mesh i no_message l),
        )
