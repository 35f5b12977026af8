-- Calls that write the mesh and a cell, one after the other, in either order: the second goes on the rack that the first left.
use mathlib.Core.Path.{◌≡◌, refl, ap, ◌∙◌}
use mathlib.Core.List.{List}
use Prim.Native.Nat.{ℕ, ◌≤◌, ◌<◌}
use native.Mathlib.Nat.{le_refl}
use native.Mathlib.Omega.{arith}
use lib.ListN.{length, get_or, set, length-set}
use lib.Seq.{get_or-set_same, set-set}
use Rattle.spec_base.specs.Folds.{All}
use Rattle.spec_base.specs.Number.{Bytes}
use Rattle.spec_rack.specs.declared.Message.{Message}
use Rattle.spec_rack.specs.Rack.{Cell, Block, Rack, no_cell, no_block, block_at, cell_at, claims_at}
use Rattle.spec_rack.specs.Rules.{with_cell}
use Rattle.record.specs.declared.TokenState.{TokenState}
use Rattle.spec_rack.specs.RecordLayout.{get, put}
use Rattle.record.specs.Needs.{CellInRecord, SoundRecord}
use Rattle.record.specs.Changes.{TokenStateOf, with_token_state, replace_cell, with_mesh}
use Rattle.spec_rack.proofs.LayoutParts.{CellFits, MessageFits}
use Rattle.spec_rack.proofs.GetPut.{Fits, blocks_is}
use Rattle.spec_rack.proofs.SoundRecord.{rack_sound}
use Rattle.record.proofs.Sequencing.{get_fits, mesh_fits_lem, on_cell_fits, get_call, in_cell_call, then, then_any}
use Rattle.record.proofs.FieldAccess.{well_formed}
use Rattle.record.proofs.FieldOffsets.{cells_many}

-- a cell with the token state of y and the words of y is y
pub cell_of_state : (y x : Cell) (h : TokenState) → TokenStateOf y h → x.words ≡ y.words → with_token_state x h ≡ y
cell_of_state y x h m e = λ i. record { plain = m.plain i; owner = m.owner i; valid = m.valid i; words = e i }

module _ (s : List ℕ) (bytes : Bytes s) (ready : SoundRecord s) where
  pub fits : Fits (get s)
  fits = get_fits s bytes ready.whole (rack_sound s ready.sound)

  module _ (ms : List Message) (few : length ms ≤ 64) (all : All MessageFits ms) (s₁ : List ℕ) (is : s₁ ≡ put (with_mesh (get s) ms) s) where
    q_fits : Fits (with_mesh (get s) ms)
    q_fits = mesh_fits_lem (get s) fits ms few all

    pub mesh_read : get s₁ ≡ with_mesh (get s) ms
    mesh_read = get_call s bytes ready.whole (with_mesh (get s) ms) q_fits refl refl s₁ is

    pub mesh_in_cell : (b c : ℕ) → CellInRecord s b c → CellInRecord s₁ b c
    mesh_in_cell = in_cell_call s bytes ready.whole (with_mesh (get s) ms) q_fits refl refl s₁ is

    pub mesh_cell : (b c : ℕ) → CellInRecord s b c → (x : Cell) → CellFits x → (s₂ : List ℕ) → s₂ ≡ put (replace_cell (get s₁) b c x) s₁
        → s₂ ≡ put (with_cell (get s) b c x ms) s
    mesh_cell b c h x fx s₂ is' =
        then s bytes ready.whole (with_mesh (get s) ms) q_fits refl refl s₁ is (with_cell (get s) b c x ms)
        (on_cell_fits (with_mesh (get s) ms) q_fits b (omega (arith, h.block, blocks_is s)) c x fx) refl (simp length-set) (le_refl _) s₂
        (is' ∙ ap (λ (k : Rack). put (replace_cell k b c x) s₁) mesh_read)

  -- ---- a cell, and then that cell again, or the mesh

  module _ (b c : ℕ) (h : CellInRecord s b c) (x : Cell) (fx : CellFits x) (s₁ : List ℕ) (is : s₁ ≡ put (replace_cell (get s) b c x) s) where
    in_b : b < length (get s).blocks
    in_b = omega (arith, h.block, blocks_is s)

    as_many : length (replace_cell (get s) b c x).blocks ≡ length (get s).blocks
    as_many = simp length-set

    x_fits : Fits (replace_cell (get s) b c x)
    x_fits = on_cell_fits (get s) fits b in_b c x fx

    pub cell_read : get s₁ ≡ replace_cell (get s) b c x
    cell_read = get_call s bytes ready.whole (replace_cell (get s) b c x) x_fits refl as_many s₁ is

    pub cell_in_cell : (j k : ℕ) → CellInRecord s j k → CellInRecord s₁ j k
    cell_in_cell = in_cell_call s bytes ready.whole (replace_cell (get s) b c x) x_fits refl as_many s₁ is

    -- the block with that cell
    abbrev with_cell_lem : Block
    with_cell_lem = record { cells = set (block_at (get s) b).cells c x; claims = claims_at (get s) b }

    block_there : block_at (replace_cell (get s) b c x) b ≡ record { cells = set (block_at (get s) b).cells c x; claims = claims_at (get s) b }
    block_there = get_or-set_same (get s).blocks b with_cell_lem no_block in_b

    pub cell_there : cell_at (get s₁) b c ≡ x
    cell_there =
        ap (λ (r : Rack). cell_at r b c) cell_read
        ∙ ap (λ (k : Block). get_or k.cells c no_cell) block_there
        ∙ get_or-set_same (block_at (get s) b).cells c x no_cell (omega (arith, h.component, cells_many s (well_formed s bytes ready.whole) b h.block))

    again : (y : Cell) → replace_cell (replace_cell (get s) b c x) b c y ≡ replace_cell (get s) b c y
    again y =
        (λ i. with_blocks (set (set (get s).blocks b with_cell_lem) b (record { cells = set (block_there i).cells c y; claims = (block_there i).claims })))
        ∙ (λ i. with_blocks (set-set (get s).blocks b with_cell_lem (record { cells = set-set (block_at (get s) b).cells c x y i; claims = claims_at (get s) b }) i))
      where
        with_blocks : List Block → Rack
        with_blocks ks = record { boards = (get s).boards; tokens = (get s).tokens; blocks = ks; mesh = (get s).mesh }

    pub cell_cell : (y : Cell) → CellFits y → (s₂ : List ℕ) → s₂ ≡ put (replace_cell (get s₁) b c y) s₁ → s₂ ≡ put (replace_cell (get s) b c y) s
    cell_cell y fy s₂ is' =
        then_any s bytes ready.whole (replace_cell (get s) b c x) x_fits refl as_many s₁ is refl (replace_cell (get s) b c y) (on_cell_fits (get s) fits b in_b c y fy) refl (simp length-set) s₂
        (is' ∙ ap (λ (r : Rack). put r s₁) (ap (λ (k : Rack). replace_cell k b c y) cell_read ∙ again y))

    pub cell_mesh : (ms : List Message) → length ms ≤ 64 → All MessageFits ms → (s₂ : List ℕ) → s₂ ≡ put (with_mesh (get s₁) ms) s₁ → s₂ ≡ put (with_cell (get s) b c x ms) s
    cell_mesh ms few all s₂ is' =
        then_any s bytes ready.whole (replace_cell (get s) b c x) x_fits refl as_many s₁ is refl (with_cell (get s) b c x ms) (mesh_fits_lem (replace_cell (get s) b c x) x_fits ms few all) refl refl s₂
        (is' ∙ ap (λ (k : Rack). put (with_mesh k ms) s₁) cell_read)
