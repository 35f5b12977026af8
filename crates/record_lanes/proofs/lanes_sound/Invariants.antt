-- `record_lanes::lanes_sound` meets its contract: the loop joins the tests of sixteen places.
use mathlib.Core.Path.{◌≡◌}
use Rattle.spec_base.specs.Folds.{all_below}
use Rattle.record_lanes.specs.Lanes.{sound_lane}
use Rattle.record_lanes.proofs.lanes_sound.Given as goal

abbrev pub invariant-loop-component : goal.invariant-loop-component
invariant-loop-component l = l.sound ≡ all_below l.component (sound_lane l.s l.at)
