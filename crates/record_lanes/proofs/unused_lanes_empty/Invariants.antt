-- `record_lanes::unused_lanes_empty` meets its contract: what was gathered over all blocks is looked at once above the last board.
use Rattle.spec_base.specs.Number.{Bytes}
use Rattle.record_lanes.proofs.LanePasses.{Seeing}
use Rattle.record_lanes.proofs.unused_lanes_empty.Given as goal

-- after b blocks the two numbers have what was seen in them
abbrev pub invariant-loop-b : goal.invariant-loop-b
invariant-loop-b l = (bytes : Bytes l.s) → Seeing l.s bytes 0 l.b l.low × Seeing l.s bytes 8 l.b l.high
