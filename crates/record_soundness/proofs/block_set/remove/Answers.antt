-- `record_soundness::block_set::remove` meets its contract: the bit is set and then taken off.
use native.Mathlib.Omega.{arith}
use Rattle.arbiter.proofs.SetBits.{insert_above, insert_remove}
use Rattle.record_soundness.proofs.BlockSets.{bit_of, or_bit}
use Rattle.record_soundness.proofs.block_set.remove.Goals as goal

pub overflow_sub-result : goal.overflow_sub-result
overflow_sub-result c = omega (arith, bit_of c.args.b c.requires, or_bit c.args.blocks c.args.b c.requires, insert_above c.args.blocks c.args.b)

pub returns : goal.returns
returns c = omega (arith, bit_of c.args.b c.requires, or_bit c.args.blocks c.args.b c.requires, insert_remove c.args.blocks c.args.b)
