-- Document 01, "Refusal table", 3 and 14: what an accepted step reads and writes of a sound rack is there. So what Rack.antt has for places past the ends of
-- its lists never counts in an accepted step. Proved, so it adds nothing to believe.
use Rattle.std.specs.Prelude.{ℕ, ◌<◌, ◌≡◌, true, length}
use Rattle.spec_wire.specs.Answers.{no_refusal}
use Rattle.spec_wire.specs.declared.Step.{Step}
use Rattle.spec_wire.specs.declared.Step.TheVariants.{Load, Store, Send, Deliver, Raise, Lower, Forward}
use Rattle.spec_arbiter.specs.Claims.{active}
use Rattle.spec_rack.specs.Rack.{Rack, block_at, claims_at, cell_at, message_at}
use Rattle.spec_rack.specs.Soundness.{sound}
use Rattle.spec_rack.specs.Rules.{check}

-- the rack has the block, and the component has a cell and a place among the sets of it
pub record OnRack (r : Rack) (c b : ℕ) : Type 0 where
  pub block : b < length r.blocks
  pub cell : c < length (block_at r b).cells
  pub sets : c < length (claims_at r b)

abbrev pub InRange : Rack → Step → Type 0
InRange r (Load c b w) = OnRack r c b × (w < length (cell_at r b c).words)
InRange r (Store c b w v) = OnRack r c b × (w < length (cell_at r b c).words)
InRange r (Send c b t p o d) = OnRack r c b × OnRack r t b
InRange r (Deliver i) = (i < length r.mesh) × OnRack r (message_at r i).header.target (message_at r i).header.block
InRange r (Raise c b) = OnRack r c b
InRange r (Lower c b) = OnRack r c b
InRange r (Forward c b) = OnRack r c b × OnRack r (active (claims_at r b)) b

abbrev pub AcceptedInRange : Type 0
AcceptedInRange = (r : Rack) (s : Step) → sound r ≡ true → check r s ≡ no_refusal → InRange r s
