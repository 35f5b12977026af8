-- The readings of sizes hold, by computation.
use mathlib.Core.Path.{refl}
use Rattle.spec_sizes.specs.Sizes.{in_range}
use Rattle.spec_sizes.specs.Readings.{Limits, OldForm, OtherSizes}

pub limits : Limits
unfolding in_range
limits = record { taken = refl; refused = refl; smallest = refl; largest = refl }

pub old_form : OldForm
old_form n b t = refl

pub other_sizes : OtherSizes
unfolding in_range
other_sizes = refl
