-- What a check that passes tells: down the refusal table each test has failed.
use mathlib.Core.Path.{◌≡◌, refl}
use mathlib.Core.Bool.{Bool, true, false}
use mathlib.Core.List.{List}
use Prim.Native.Nat.{ℕ, ◌≤◌, ◌<◌}
use native.Mathlib.Nat.{le_refl}
use native.Mathlib.Omega.{arith}
use borrow.Author.Tests.{ltb-false, leb-false, eqb-false}
use lib.Dec.{eqb}
use lib.ListN.{length}
use Rattle.spec_base.proofs.Tests.{or_l}
use Rattle.spec_wire.specs.declared.Refusal.TheVariants.{OffRack, Home}
use Rattle.spec_wire.specs.Answers.{Check, no_refusal}
use Rattle.spec_wire.specs.Refusals.{when◌refuse◌else◌}
use Rattle.spec_wire.proofs.RefusalTable.{past}
use Rattle.spec_wire.specs.declared.Step.TheVariants.{Store, Send, Deliver, Raise, Lower, Forward}
use Rattle.spec_rack.specs.Rack.{mesh_limit, present, cell_at}
use Rattle.spec_rack.specs.Rules.{check, off_rack, mesh_full}
use Rattle.spec_rack.specs.RecordLayout.{get, messages_in}
use Rattle.record.specs.Needs.{CellInRecord, SoundRecord}
use Rattle.spec_rack.proofs.GetPut.{boards_is, blocks_is, mesh_is}
use Rattle.spec_rack.proofs.SoundRecord.{rack_sound}
use Rattle.spec_rack.proofs.ExclusiveStore.{owner_here}
use Rattle.step_checks.specs.Sendable.{CanSend}
use Rattle.step_checks.proofs.RackBounds.{in_cell, on_word}

module _ (s : List ℕ) (ready : SoundRecord s) where
  -- ---- the lines that several kinds share

  on_rack : (c b : ℕ) → off_rack (get s) c b ≡ false → CellInRecord s b c
  on_rack c b h = in_cell s c b refl h ready.whole

  on_board : (c b : ℕ) (k : Check) → (when off_rack (get s) c b refuse OffRack else when eqb c 0 refuse Home else k) ≡ no_refusal → CellInRecord s b c × (1 ≤ c)
  on_board c b k h =
      let known = past _ _ _ h in
      let ne : c ≡ 0 → ⊥ = eqb-false c 0 (past _ _ _ known.1).0 in
      (on_rack c b known.0, omega arith)

  room : mesh_full (get s) ≡ false → messages_in s < 64
  unfolding mesh_limit
  room h = omega (arith, mesh_is s, leb-false 64 (length (get s).mesh) h)

  -- ---- kind by kind

  -- who holds every token has the owner
  pub store_passed : (c b w v : ℕ) → check (get s) (Store c b w v) ≡ no_refusal → CellInRecord s b c × ((w < 8) × (present (cell_at (get s) b c).owner ≡ true))
  unfolding check
  store_passed c b w v h =
      let known = past _ _ _ h in
      let board = past _ _ _ known.1 in
      let all = past _ _ _ board.1 in
      let there = on_word s ready.whole c b w refl known.0 in (
        there.0,
        (
          there.1,
          owner_here (get s) (rack_sound s ready.sound) c b (omega (arith, boards_is s, there.0.component)) (omega (arith, blocks_is s, there.0.block))
              (ltb-false _ _ all.0),
        ),
      )

  pub send_passed : (c b t p : ℕ) (o d : Bool) → check (get s) (Send c b t p o d) ≡ no_refusal → CanSend s c b p
  unfolding check
  send_passed c b t p o d h =
      let known = past _ _ _ h in
      let apart = past _ _ _ known.1 in
      let free = past _ _ _ apart.1 in
      let token = past _ _ _ free.1 in
      let enough = past _ _ _ token.1 in
      let bare = past _ _ _ enough.1 in
      let stale = past _ _ _ bare.1 in
      let full = past _ _ _ stale.1 in
      record {
        ready = ready;
        in_cell = on_rack c b (or_l _ _ known.0);
        enough = ltb-false _ _ (or_l _ _ enough.0);
        room = room full.0;
      }

  pub deliver_passed : (i : ℕ) → check (get s) (Deliver i) ≡ no_refusal → i < messages_in s
  unfolding check
  deliver_passed i h = omega (arith, mesh_is s, leb-false (length (get s).mesh) i (past _ _ _ h).0)

  pub raise_passed : (c b : ℕ) → check (get s) (Raise c b) ≡ no_refusal → CellInRecord s b c × (1 ≤ c)
  unfolding check
  raise_passed c b h = on_board c b _ h

  pub lower_passed : (c b : ℕ) → check (get s) (Lower c b) ≡ no_refusal → CellInRecord s b c × (1 ≤ c)
  unfolding check
  lower_passed c b h = on_board c b _ h

  pub forward_passed : (c b : ℕ) → check (get s) (Forward c b) ≡ no_refusal → CanSend s c b (cell_at (get s) b c).plain
  unfolding check
  forward_passed c b h =
      let known = past _ _ _ h in
      let claimed = past _ _ _ known.1 in
      let apart = past _ _ _ claimed.1 in
      let token = past _ _ _ apart.1 in
      let full = past _ _ _ token.1 in
      record { ready = ready; in_cell = on_rack c b known.0; enough = le_refl _; room = room full.0 }
