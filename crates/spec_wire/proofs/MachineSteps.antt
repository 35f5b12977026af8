-- What the machine's types say of the steps that a program holds, by the cases of the step: the hypothesis of the theorems.
use mir.Val.{Val}
use mathlib.Core.Path.{◌≡◌}
use native.Mathlib.Omega.{arith}
use mathlib.Core.Bool.{true}
use mathlib.Core.List.{List}
use denote.Laws.{Is}
use denote.Enum.Declared.{row}
use denote.Enum.Laws.{owed}
use Rattle.spec_base.proofs.Tests.{one_lt}
use Rattle.spec_wire.specs.declared.Step.{Step}
use Rattle.spec_wire.specs.declared.Step.TheVariants.{Load, Store, Send, Deliver, Raise, Lower, Forward}
use Rattle.spec_wire.specs.Kinds.{field_array, kind_of, step_in_bounds}
use Rattle.spec_wire.specs.contracts.Step.{the_type}
use Rattle.spec_wire.proofs.Step.TheLaws.{the_laws}
use Rattle.spec_wire.proofs.KindTable.{fit_of}

-- the numbers of a step that a program holds fit their fields
pub step_fits : (s : Step) (vs : List Val) → Is (row the_type) s vs → step_in_bounds s ≡ true
unfolding field_array kind_of
step_fits (Load c b w) vs h = fit_of _ _ (omega (arith, owed the_type the_laws (Load c b w) vs h))
step_fits (Store c b w v) vs h = fit_of _ _ (omega (arith, owed the_type the_laws (Store c b w v) vs h))
step_fits (Send c b t p o d) vs h = fit_of _ _ (omega (arith, owed the_type the_laws (Send c b t p o d) vs h, one_lt o, one_lt d))
step_fits (Deliver i) vs h = fit_of _ _ (omega (arith, owed the_type the_laws (Deliver i) vs h))
step_fits (Raise c b) vs h = fit_of _ _ (omega (arith, owed the_type the_laws (Raise c b) vs h))
step_fits (Lower c b) vs h = fit_of _ _ (omega (arith, owed the_type the_laws (Lower c b) vs h))
step_fits (Forward c b) vs h = fit_of _ _ (omega (arith, owed the_type the_laws (Forward c b) vs h))
