-- `arbiter::change::lower_at` meets its contract: at each number the board has left the barring sets of the boards below it; then the waiting set.
use Rattle.arbiter.proofs.ClaimsChange.{Lowering, lower_none, lower_more, lower_is}
use mathlib.Core.Path.{◌∙◌}
use native.Mathlib.Omega.{arith}
use borrow.Author.Rules.{rules}
use Rattle.arbiter.proofs.change.lower_at.Goals as goal
use Rattle.arbiter.proofs.change.lower_at.Goals.{else-loop-number-test, then-loop-number-test+else-number-boards}

pub loop-number-init : goal.loop-number-init
loop-number-init c = lower_none c.args.boards c.args.at c.requires.3 c.args.rec.now (λ k. search rules) c.requires.0 c.requires.4 c.args.board

pub loop-number-preserved : goal.loop-number-preserved
loop-number-preserved c =
    lower_more c.args.boards c.args.at c.requires.3 c.args.rec.now (λ k. search rules) c.requires.0 c.requires.4 c.args.board _ _ _ _ _ _ _ (omega arith) (omega arith) (omega arith) c.loop-number.invariant
    c.read_at-s.ensures c.remove-left.ensures c.remove-left.type_inv c.write_at.ensures

pub returns : goal.returns
returns c =
    let all : Lowering c.args.boards c.args.at c.args.rec.now c.args.board c.args.boards c.loop-number-test.rec =
    elim c.loop-number-test.branch [
      | else-loop-number-test w ↦ absurd (omega arith)
      | then-loop-number-test+else-number-boards w ↦
          lower_more c.args.boards c.args.at c.requires.3 c.args.rec.now (λ k. search rules) c.requires.0 c.requires.4 c.args.board _ _ _ _ _ _ _ (omega arith) (omega arith) (omega arith) c.loop-number.invariant
          w.read_at-s.ensures w.remove-left.ensures w.remove-left.type_inv (w.rec-is ∙ w.write_at.ensures)
    ] in
    lower_is c.args.boards c.args.at c.requires.3 c.args.rec.now (λ k. search rules) c.requires.0 c.requires.4 c.args.board _ _ _ _ _ _ c.requires.1 c.requires.2 all
    c.read_at-w.ensures c.remove-others.ensures c.remove-others.type_inv c.remove-others.ensures c.write_at-2.ensures (rw c.from-2.ensures at c.write_at-3.ensures)
