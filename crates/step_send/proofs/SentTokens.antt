-- What the calls of a send leave together: the message at the end of the mesh, then the state less its tokens; a forward is the send of what the state tell.
use mathlib.Core.Path.{◌≡◌, refl, ap, ◌∙◌}
use mir.Val.{Fits}
use mir.Syntax.{w8}
use mathlib.Core.List.{List, [], ◌∷◌, ◌++◌}
use Prim.Native.Nat.{ℕ, ◌^◌, ◌≤◌, ◌<◌}
use native.Mathlib.Omega.{arith}
use lib.ListN.{length, get_or}
use Rattle.spec_base.specs.Folds.{All}
use Rattle.spec_base.proofs.Folds.{all_snoc, all_replicate, length_snoc}
use Rattle.spec_base.specs.Number.{Bytes}
use Rattle.spec_base.proofs.Tests.{cond_of}
use Rattle.spec_arbiter.specs.Claims.{active}
use Rattle.spec_rack.specs.Rack.{Cell, Rack, zeros, present, claims_at, cell_at}
use Rattle.spec_rack.specs.Rules.{without_tokens, forwarded, sent}
use Rattle.spec_rack.specs.RecordLayout.{get, put}
use Rattle.spec_rack.proofs.LayoutParts.{WordsFit, CellFits, MessageFits}
use Rattle.spec_rack.proofs.GetPut.{boards_is, blocks_is, mesh_is}
use Rattle.record.specs.declared.TokenState.{TokenState}
use Rattle.record.specs.Needs.{CellInRecord}
use Rattle.record.specs.Changes.{TokenStateOf, with_token_state, replace_cell, with_mesh}
use Rattle.record.proofs.Sequencing.{cell_fits}
use Rattle.record.proofs.MeshBytes.{cell_of_state, fits, mesh_read, mesh_in_cell, mesh_cell}
use Rattle.step_checks.specs.Sendable.{CanSend}
use Rattle.step_send.specs.declared.Transfer.{Transfer}
use Rattle.step_send.specs.Transfers.{message_of, transferred}

zeros_fit : WordsFit zeros
zeros_fit = (refl, all_replicate (λ (w : ℕ). w < 2 ^ 32) 8 0 (omega arith))

-- from the bytes at the start, by what each call left
module _ (s : List ℕ) (known : (k : ℕ) → Fits w8 (get_or s k 0)) (t : Transfer) (can : CanSend s t.component t.block t.plain) (small : t.target < 256) where
  bytes : Bytes s
  bytes = λ k. (known k).fits

  abbrev sender : Cell
  sender = cell_at (get s) t.block t.component

  sender_fits : CellFits sender
  sender_fits =
      cell_fits (get s) (fits s bytes can.ready) t.block (omega (arith, can.in_cell.block, blocks_is s)) t.component
      (omega (arith, can.in_cell.component, boards_is s))

  message_fits : MessageFits (message_of (get s) t)
  message_fits =
      let w = can.in_cell.whole in (
        ((omega (arith, can.in_cell.component, w.boards), (small, omega (arith, can.in_cell.block, w.blocks))), (omega (arith, can.enough, sender_fits.0.0), (tt, tt))),
        cond_of WordsFit t.«data» sender.words zeros sender_fits.1 zeros_fit,
      )

  module _ (s₁ : List ℕ) (appended : s₁ ≡ put (with_mesh (get s) ((get s).mesh ++ message_of (get s) t ∷ [])) s) where
    few : length ((get s).mesh ++ message_of (get s) t ∷ []) ≤ 64
    few = rw length_snoc (omega (arith, can.room, mesh_is s))

    all : All MessageFits ((get s).mesh ++ message_of (get s) t ∷ [])
    all = all_snoc MessageFits (get s).mesh (message_of (get s) t) (fits s bytes can.ready).mesh_fits_lem message_fits

    pub still_in_cell : CellInRecord s₁ t.block t.component
    still_in_cell = mesh_in_cell s bytes can.ready _ few all s₁ appended t.block t.component can.in_cell

    pub tokens_gone : (state kept : TokenState) → TokenStateOf sender state → ((y : Cell) → TokenStateOf y state → TokenStateOf (without_tokens y t.plain t.owner) kept)
        → (s₂ : List ℕ) → s₂ ≡ put (replace_cell (get s₁) t.block t.component (with_token_state (cell_at (get s₁) t.block t.component) kept)) s₁ → s₂ ≡ put (transferred (get s) t) s
    unfolding sent
    tokens_gone state kept told takes s₂ is =
        mesh_cell s bytes can.ready _ few all s₁ appended t.block t.component can.in_cell (without_tokens sender t.plain t.owner)
        ((omega (arith, sender_fits.0.0), (tt, tt)), sender_fits.1) s₂
        (is ∙ ap (λ (y : Cell). put (replace_cell (get s₁) t.block t.component y) s₁)
        (cell_of_state (without_tokens sender t.plain t.owner) (cell_at (get s₁) t.block t.component) kept (takes sender told)
        (ap (λ (k : Rack). (cell_at k t.block t.component).words) (mesh_read s bytes can.ready _ few all s₁ appended))))

-- a forward: the send of what the state tell to the active board
pub forwarded_is : (s : List ℕ) (t : Transfer) (state : TokenState) → t.target ≡ active (claims_at (get s) t.block) → TokenStateOf (cell_at (get s) t.block t.component) state
    → t.plain ≡ state.plain → t.owner ≡ present state.owner → t.«data» ≡ state.valid
    → (s₁ : List ℕ) → s₁ ≡ put (transferred (get s) t) s → s₁ ≡ put (forwarded (get s) t.component t.block) s
unfolding forwarded
forwarded_is s t state e told plain here valid s₁ is =
    is
    ∙ (λ i. put (sent (get s) t.component t.block (e i) ((plain ∙ told.plain) i) ((here ∙ ap present told.owner) i) ((valid ∙ told.valid) i)) s)
