-- `arbiter::change::lower_at` meets its contract: after i turns the board has left the first i barring sets; then the waiting set.
use Rattle.arbiter.proofs.ClaimsChange.{Lowering}
use Prim.Native.Nat.{◌-◌}
use Rattle.arbiter.proofs.change.lower_at.Given as goal

abbrev pub invariant-loop-number : goal.invariant-loop-number
invariant-loop-number l = Lowering l.boards l.at l.initial.rec l.board (l.number - 1) l.rec
