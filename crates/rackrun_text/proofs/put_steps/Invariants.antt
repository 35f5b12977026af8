-- `rackrun_text::put_steps` meets its contract. The invariant: the lines that are left, placed after those there are, make the whole.
use Rattle.std.proofs.Common.{length}
use Rattle.rackrun_text.proofs.RunText.{Going}
use Rattle.rackrun_text.proofs.put_steps.Given as goal

abbrev pub invariant-loop-rest : goal.invariant-loop-rest
invariant-loop-rest l = Going 65536 l.initial.rec l.list l.initial.out l.rec l.rest l.out l.made l.length

abbrev pub decreases-loop-rest : goal.decreases-loop-rest
decreases-loop-rest l = length l.rest
