-- The rack after each kind of step, by computation on the rules.
use mathlib.Core.Path.{refl}
use Rattle.spec_base.specs.Folds.{all_below}
use Rattle.spec_wire.specs.Refusals.{when◌refuse◌else◌}
use Rattle.spec_arbiter.specs.Boards.{bit, member, insert, remove, subset, boards_only, first_from, lowest}
use Rattle.spec_arbiter.specs.Claims.{raise_check, raised, lower_check, lowered, sound_barring, sound_claims}
use Rattle.spec_rack.specs.Rack.{mesh_limit}
use Rattle.spec_rack.specs.Soundness.{sound}
use Rattle.spec_rack.specs.Rules.{check, after, answer, rules, stored, sent, delivered, forwarded}
use Rattle.spec_rack.specs.Lists.{run_all}
use Rattle.spec_rack.specs.AfterEachStep.{AfterEachStep}

pub after_each_step : AfterEachStep
unfolding run_all when◌refuse◌else◌ check after answer rules mesh_limit stored sent delivered forwarded raise_check raised lower_check lowered bit member insert remove first_from lowest sound all_below sound_claims boards_only sound_barring subset
after_each_step =
    record {
      is_sound = refl;
      load_home = refl;
      load = refl;
      store = refl;
      send = refl;
      send_all_lem = refl;
      deliver_data = refl;
      deliver_no_data = refl;
      deliver_bare = refl;
      deliver_data_to_valid = refl;
      deliver_no_data_to_valid = refl;
      raise = refl;
      raise_with_all = refl;
      lower = refl;
      lower_valid = refl;
      forward = refl;
      forward_no_data = refl;
      store_active = refl;
      send_home = refl;
      send_bare_lem = refl;
      raise_not_valid = refl;
      lower_not_valid = refl;
      forward_owner = refl;
      refused = refl;
      unchanged = refl;
    }
