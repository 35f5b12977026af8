-- `record_lanes::unused_lanes_empty` meets its contract: what was gathered over all blocks is looked at once above the last board.
use Prim.Native.Nat.{ℕ, ◌+◌}
use native.Mathlib.Omega.{arith}
use mathlib.Core.Path.{◌≡◌, sym, subst}
use Rattle.spec_base.specs.Number.{Bytes}
use Rattle.spec_rack.specs.RecordLayout.{block_offset}
use Rattle.record_lanes.proofs.LanePasses.{Seeing, see_none, see_more, rooms_low, rooms_high, rooms_full}
use Rattle.record_lanes.proofs.unused_lanes_empty.Goals as goal

pub returns-then-boards-eq15 : goal.returns-then-boards-eq15
returns-then-boards-eq15 c = sym (rooms_full c.args.boards c.args.count c.args.s.now (omega arith))

pub loop-b-init : goal.loop-b-init
loop-b-init c = λ bytes. (see_none c.args.s.now bytes 0, see_none c.args.s.now bytes 8)

pub gather_holders-low-requires : goal.gather_holders-low-requires
gather_holders-low-requires c = omega arith

pub gather_holders-high-requires : goal.gather_holders-high-requires
gather_holders-high-requires c = omega arith

pub loop-b-preserved : goal.loop-b-preserved
loop-b-preserved c = λ bytes. (
  see_more c.args.s.now bytes 0 c.loop-b.b (block_offset c.loop-b.b) (omega arith) c.loop-b.low c.gather_holders-low.result c.gather_holders-low.ensures (c.loop-b.invariant bytes).0,
  see_more c.args.s.now bytes 8 c.loop-b.b (block_offset c.loop-b.b + 8) (omega arith) c.loop-b.high c.gather_holders-high.result c.gather_holders-high.ensures (c.loop-b.invariant bytes).1,
)

pub returns-then-boards-lt7 : goal.returns-then-boards-lt7
returns-then-boards-lt7 c =
    let bytes : Bytes c.args.s.now = λ k. (c.type_inv.s k).fits in
    let all : c.loop-b.b ≡ c.args.count = omega arith in
    rooms_low c.args.s.now c.args.boards c.args.count bytes c.loop-b.high (subst (λ (z : ℕ). Seeing c.args.s.now bytes 8 z c.loop-b.high) all (c.loop-b.invariant bytes).1) (omega arith)
    c.loop-b.low (subst (λ (z : ℕ). Seeing c.args.s.now bytes 0 z c.loop-b.low) all (c.loop-b.invariant bytes).0)

-- The verdict stands before what the shift asks for, so that a wrong count of places is refused there first.
pub returns : goal.returns
returns c =
    let bytes : Bytes c.args.s.now = λ k. (c.type_inv.s k).fits in
    let all : c.loop-b.b ≡ c.args.count = omega arith in
    rooms_high c.args.s.now c.args.boards c.args.count bytes c.loop-b.high (subst (λ (z : ℕ). Seeing c.args.s.now bytes 8 z c.loop-b.high) all (c.loop-b.invariant bytes).1) (omega arith)
