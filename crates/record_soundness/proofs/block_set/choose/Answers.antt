-- `record_soundness::block_set::choose` meets its contract: the trailing zeros of a number above 0 are the place of a bit that is set.
use native.Mathlib.Omega.{arith}
use Rattle.record_soundness.proofs.BlockSets.{choose_in}
use Rattle.record_soundness.proofs.block_set.choose.Goals as goal

pub overflow_cast-result : goal.overflow_cast-result
overflow_cast-result c = record { fits = omega (arith, (choose_in 32 c.args.blocks (omega arith) c.requires).0) }

pub returns : goal.returns
returns c = choose_in 32 c.args.blocks (omega arith) c.requires
