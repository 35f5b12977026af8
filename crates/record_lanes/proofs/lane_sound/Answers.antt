-- `record_lanes::lane_sound` meets its contract: no byte exceeds the next, so the joined differences are 0.
use Prim.Native.Nat.{ℕ}
use mathlib.Core.Path.{ap, ◌∙◌}
use mathlib.Core.Bool.{◌&&◌}
use lib.Bits.{bit_or}
use lib.Dec.{eqb, leb}
use Rattle.spec_base.specs.Folds.{toℕ}
use Rattle.record_lanes.proofs.LanePasses.{either_some, no_excess}
use Rattle.record_lanes.proofs.lane_sound.Goals as goal

pub returns : goal.returns
returns c =
    (λ i. eqb (bit_or (bit_or (c.saturating_sub.ensures i) (c.saturating_sub-2.ensures i)) (c.saturating_sub-3.ensures i)) 0)
    ∙ no_excess c.args.dirty c.args.owner c.args.valid _
    ∙ ap (λ (n : ℕ). leb c.args.dirty c.args.owner && leb c.args.owner c.args.valid && leb c.args.valid n) (c.from-held.ensures ∙ ap toℕ (either_some c.args.plain c.args.owner))
