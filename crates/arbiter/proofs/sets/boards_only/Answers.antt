-- `arbiter::sets::boards_only` meets its contract: a set of boards lies within the set of all boards.
use native.Mathlib.Omega.{arith}
use Prim.Native.Nat.{ℕ, ◌-◌}
use mathlib.Core.Path.{ap, ◌∙◌}
use Rattle.spec_arbiter.specs.Boards.{subset}
use Rattle.arbiter.proofs.SetBits.{all_shl, all_lt, all_boards}
use Rattle.arbiter.proofs.sets.boards_only.Goals as goal

pub overflow_sub-all : goal.overflow_sub-all
overflow_sub-all c = omega (arith, all_shl c.args.n c.requires, (all_lt c.args.n c.requires).0)

pub overflow_cast-all-2 : goal.overflow_cast-all-2
overflow_cast-all-2 c = record { fits = omega (arith, all_shl c.args.n c.requires, (all_lt c.args.n c.requires).1) }

pub returns : goal.returns
returns c = c.subset.ensures ∙ ap (λ (x : ℕ). subset c.args.s (x - 2)) (all_shl c.args.n c.requires) ∙ all_boards c.args.n c.args.s c.requires (omega arith)
