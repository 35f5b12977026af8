-- `arbiter::sets::remove` meets its contract: what is left of the set where all bits but one are kept.
use mathlib.Core.Path.{ap, ◌∙◌}
use Prim.Native.Nat.{ℕ, ◌-◌}
use lib.Bits.{bit_and}
use Rattle.arbiter.proofs.SetBits.{shl_one, and_not_remove}
use borrow.Author.Rules.{rules}
use Rattle.arbiter.proofs.sets.remove.Goals as goal

pub returns : goal.returns
returns c = ap (λ (b : ℕ). bit_and c.args.s (65535 - b)) (shl_one c.args.i c.requires) ∙ and_not_remove 16 c.args.s c.args.i c.requires (search rules)
