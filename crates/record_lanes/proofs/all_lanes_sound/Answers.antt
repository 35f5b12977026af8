-- `record_lanes::all_lanes_sound` meets its contract: the loop stops at the first block whose lanes are not sound.
use native.Mathlib.Omega.{arith}
use mathlib.Core.Path.{sym, ◌∙◌}
use Rattle.spec_base.proofs.Folds.{below_of, below_fails}
use Rattle.spec_rack.specs.RecordLayout.{block_offset}
use Rattle.record_lanes.specs.Lanes.{sound_lanes}
use Rattle.std.proofs.Common.{rules}
use Rattle.record_lanes.proofs.all_lanes_sound.Goals as goal

pub returns-then-not-lanes_sound : goal.returns-then-not-lanes_sound
returns-then-not-lanes_sound c = sym (below_fails (λ k. sound_lanes c.args.s.now (block_offset k)) c.args.count c.loop-b.b (search rules) (sym c.lanes_sound.ensures ∙ c.if-not-lanes_sound.true))

pub returns : goal.returns
returns c = sym (below_of (λ k. sound_lanes c.args.s.now (block_offset k)) c.args.count (λ k l. c.loop-b.invariant k (omega arith)))
