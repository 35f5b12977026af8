-- `record_lanes::lanes_sound` meets its contract: the loop joins the tests of sixteen places.
use Prim.Native.Nat.{ℕ}
use native.Mathlib.Omega.{arith}
use mathlib.Core.Path.{◌≡◌, sym, ap, ◌∙◌}
use mathlib.Core.Bool.{◌&&◌, and_comm}
use Rattle.spec_base.specs.Folds.{all_below}
use Rattle.spec_base.proofs.Folds.{below_none, below_next}
use Rattle.record_lanes.specs.Lanes.{sound_lane, sound_lanes}
use Rattle.record_lanes.proofs.lanes_sound.Goals as goal

pub loop-component-init : goal.loop-component-init
loop-component-init c = sym (below_none (sound_lane c.args.s.now c.args.at))

pub loop-component-preserved : goal.loop-component-preserved
loop-component-preserved c =
    (λ i. c.loop-component.invariant i && c.lane_sound-sound.ensures i)
    ∙ and_comm (all_below c.loop-component.component (sound_lane c.args.s.now c.args.at)) (sound_lane c.args.s.now c.args.at c.loop-component.component)
    ∙ sym (below_next (sound_lane c.args.s.now c.args.at) c.loop-component.component)

pub returns : goal.returns
unfolding sound_lanes
returns c = let all : c.loop-component.component ≡ 16 = omega arith in
    c.loop-component.invariant ∙ ap (λ (z : ℕ). all_below z (sound_lane c.args.s.now c.args.at)) all
