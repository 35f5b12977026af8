-- The examples by the rules before a request hold, by computation on these rules.
use mathlib.Core.Path.{refl}
use Rattle.spec_wire.specs.Refusals.{when◌refuse◌else◌}
use Rattle.spec_arbiter.specs.Boards.{bit, member, insert, remove, first_from, lowest}
use Rattle.spec_arbiter.specs.Claims.{raise_check, raised, lower_check, lowered}
use Rattle.spec_rack.specs.Rack.{mesh_limit}
use Rattle.spec_rack.specs.Rules.{check, after, answer, rules, stored, sent, delivered, forwarded}
use Rattle.spec_rack.specs.Lists.{replies_of}
use Rattle.spec_requests.specs.HomeLoads.{ReadsBefore}
use Rattle.spec_requests.specs.CleanOwner.{GivenBackBefore}

pub reads_before : ReadsBefore
unfolding replies_of when◌refuse◌else◌ check after answer rules mesh_limit stored sent delivered forwarded raise_check raised lower_check lowered bit member insert remove first_from lowest
reads_before = refl

pub given_back_before : GivenBackBefore
unfolding replies_of when◌refuse◌else◌ check after answer rules mesh_limit stored sent delivered forwarded raise_check raised lower_check lowered bit member insert remove first_from lowest
given_back_before = refl
