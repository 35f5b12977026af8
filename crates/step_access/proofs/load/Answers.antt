-- `step_access::load` meets its contract: its tests are those of the table, in order, and where all fail it gives the word.
use mathlib.Core.Path.{refl}
use native.Mathlib.Omega.{arith}
use Rattle.step_checks.proofs.RackBounds.{on_of, in_cell, on_word, some_board}
use Rattle.spec_rack.specs.Rules.{check, answer, rules}
use Rattle.step_checks.proofs.CheckLaws.{lines}
use borrow.Author.Rules.{rules as known}
use Rattle.step_access.proofs.load.Goals as goal

pub token_state-state-requires : goal.token_state-state-requires
token_state-state-requires c = in_cell _ _ _ refl (search on_of) (search known)

pub word-requires : goal.word-requires
word-requires c =
    let there = on_word c.args.rec.now c.requires.whole c.args.component c.args.block c.args.word c.off_rack_word.ensures c.if-off_rack_word.false in
    -- Board 1 is there too, so that a load of another cell is refused at its word and not at a bound.
    let board = some_board c.args.rec.now c.requires in
    (record { whole = there.0.whole; block = there.0.block; component = omega (arith, there.0.component, board) }, omega (arith, there.1))

-- The check finds the replies alone. These two stand here so that an edit is refused sooner, and with values at which the reply is wrong.
pub returns-then-held-eq0 : goal.returns-then-held-eq0
unfolding rules check
returns-then-held-eq0 c = grind (arith, lines)

pub returns : goal.returns
unfolding rules check answer
returns c = grind (arith, lines)
