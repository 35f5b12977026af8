-- At most one of each record tried is sound.
use Rattle.std.proofs.Common.{◌+◌, ◌*◌, ◌≤◌}
use Rattle.test_damage.proofs.damaged.Given as goal

abbrev pub invariant-loop-at : goal.invariant-loop-at
invariant-loop-at l = l.count ≤ 255 * l.at

abbrev pub invariant-loop-by : goal.invariant-loop-by
invariant-loop-by l = l.count + 1 ≤ 255 * l.at + l.by
