-- `arbiter::sound::sets_sound` meets its contract: at each board the barring sets of the boards below it were sound.
use Rattle.arbiter.proofs.SetBytes.{length_claims, barring_is}
use Rattle.arbiter.proofs.ClaimsDecision.{barring_test, sound_fails, sound_boards, sound_all}
use Rattle.spec_rack.specs.RecordLayout.{claims_at_offset}
use Rattle.spec_arbiter.specs.Boards.{boards_only}
use Rattle.spec_arbiter.specs.Claims.{waiting, sound_barring, sound_claims}
use Prim.Native.Nat.{ℕ, ◌+◌, ◌≤◌, ◌<◌}
use mathlib.Core.Path.{◌≡◌, sym, ap, ◌∙◌}
use mathlib.Core.Bool.{true}
use native.Mathlib.Omega.{arith}
use borrow.Author.Count.{below_more}
use Rattle.arbiter.proofs.sound.sets_sound.Goals as goal
use Rattle.arbiter.proofs.sound.sets_sound.Goals.{Else-not-boards_only, After-barring_sound}

-- past the first test only boards wait
only_boards : (c : Else-not-boards_only) → boards_only c.args.boards (waiting (claims_at_offset c.args.boards c.args.at c.args.rec.now)) ≡ true
only_boards c = ap (boards_only c.args.boards) (sym (c.waiting_at-w.ensures c.args.boards)) ∙ sym c.boards_only.ensures ∙ c.if-not-boards_only.false

-- what the test of a barring set tells
tested : (c : After-barring_sound) → c.barring_sound.result ≡ sound_barring c.args.boards (claims_at_offset c.args.boards c.args.at c.args.rec.now) c.loop-board.board
tested c =
    barring_test c.args.boards _ _ _ _ _ (sym c.boards_only.ensures ∙ c.if-not-boards_only.false) c.read_at-s.type_inv (c.waiting_at-w.ensures c.args.boards)
    (rw c.from.ensures at c.read_at-s.ensures ∙ barring_is c.args.boards c.args.at c.loop-board.board c.args.rec.now (omega arith) (omega arith) (omega arith))
    c.barring_sound.ensures

-- every board's barring set is sound
all_sound : (c : Else-not-boards_only)
    → ((i : ℕ) → i < c.args.boards + 1 → 1 ≤ i → sound_barring c.args.boards (claims_at_offset c.args.boards c.args.at c.args.rec.now) i ≡ true)
    → true ≡ sound_claims c.args.boards (claims_at_offset c.args.boards c.args.at c.args.rec.now)
all_sound c = sound_all _ _ (length_claims c.args.boards c.args.at c.args.rec.now) (only_boards c)

pub returns-then-not-boards_only : goal.returns-then-not-boards_only
returns-then-not-boards_only c = sound_boards c.args.boards (claims_at_offset c.args.boards c.args.at c.args.rec.now)
    (ap (boards_only c.args.boards) (sym (c.waiting_at-w.ensures c.args.boards)) ∙ sym c.boards_only.ensures ∙ c.if-not-boards_only.true)

pub loop-board-init : goal.loop-board-init
loop-board-init c = λ i l low. absurd (omega arith)

pub returns-then-not-barring_sound : goal.returns-then-not-barring_sound
returns-then-not-barring_sound c = sound_fails _ _ c.loop-board.board (omega arith) (omega arith) (sym (tested (goal.at.returns-then-not-barring_sound c).After-barring_sound) ∙ c.if-not-barring_sound.true)

pub loop-board-preserved : goal.loop-board-preserved
loop-board-preserved c =
    let here = tested (goal.at.loop-board-preserved c).After-barring_sound in
    below_more _ _ c.loop-board.invariant (λ low. sym here ∙ c.if-not-barring_sound.false)

pub returns-else-not-boards_only : goal.returns-else-not-boards_only
returns-else-not-boards_only c = all_sound (goal.at.returns-else-not-boards_only c).Else-not-boards_only (λ i l. c.loop-board.invariant i (omega arith))

pub returns-else-not-barring_sound : goal.returns-else-not-barring_sound
returns-else-not-barring_sound c =
    let paths = goal.at.returns-else-not-barring_sound c in
    let here = tested paths.After-barring_sound in
    all_sound paths.Else-not-boards_only
    (λ i l. below_more _ _ c.loop-board.invariant (λ low. sym here ∙ c.if-not-barring_sound.false) i (omega arith))
