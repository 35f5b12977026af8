-- `arbiter::sound::some_barred` meets its contract: the part that is lent is the barring sets.
use native.Mathlib.Omega.{arith}
use Prim.Native.Nat.{◌+◌}
use mathlib.Core.Path.{refl, ap, ◌∙◌}
use mathlib.Core.Bool.{not}
use Rattle.spec_base.proofs.Zeros.{zero_part}
use Rattle.arbiter.proofs.sound.some_barred.Goals as goal

pub returns : goal.returns
returns c = ap not (c.is_zero.ensures ∙ zero_part c.args.at (c.args.at + 32) 32 c.args.rec.now refl (omega arith))
