-- `engine_letter::letter` meets its contract: each refusal is a line of the table; past them the cell is read at its place.
use native.Mathlib.Omega.{arith}
use mathlib.Core.Path.{◌≡◌, sym, ◌∙◌}
use mathlib.Core.Bool.{true, false, ◌||◌}
use lib.Dec.{ltb, leb}
use Rattle.spec_rack.specs.Soundness.{sound_bytes}
use Rattle.engine_letter.proofs.LetterCell.{Whole, whole}
use Rattle.engine_letter.proofs.LetterLaws.{letter_unsound, letter_off_rack, on_rack, letter_home, letter_mark, letter_dirty, letter_read}
use Rattle.spec_rack.specs.RecordLayout.{blocks_in, boards_in}
use Rattle.engine_letter.proofs.letter.Goals as goal
use Rattle.engine_letter.proofs.letter.Goals.{Else-not-sound, Else-boards-component}

-- past the first test the record is sound
sure : (c : Else-not-sound) → sound_bytes c.args.rec.now ≡ true
sure c = sym c.sound.ensures ∙ c.if-not-sound.false

known : (c : Else-not-sound) → Whole c.args.rec.now
known c = whole c.args.rec.now (λ k. (c.type_inv.rec k).fits) (sure c)

-- past the second the component and the block are on the rack
on : (c : Else-boards-component) → (ltb (boards_in c.args.rec.now) c.args.component || leb (blocks_in c.args.rec.now) c.args.block) ≡ false
on c = rw (c.from-boards.ensures, c.from-blocks.ensures) at c.if-boards-component.false

pub returns-then-not-sound : goal.returns-then-not-sound
returns-then-not-sound c = letter_unsound _ _ _ (sym c.sound.ensures ∙ c.if-not-sound.true)

pub bounds-rec-0 : goal.bounds-rec-0
bounds-rec-0 c = let fine = known (goal.at.bounds-rec-0 c).Else-not-sound in omega (arith, fine.room)

pub bounds-rec-1 : goal.bounds-rec-1
bounds-rec-1 c = let fine = known (goal.at.bounds-rec-1 c).Else-not-sound in omega (arith, fine.room)

pub returns-then-boards-component : goal.returns-then-boards-component
returns-then-boards-component c =
    letter_off_rack _ _ _ (sure (goal.at.returns-then-boards-component c).Else-not-sound) (rw (c.from-boards.ensures, c.from-blocks.ensures) at c.if-boards-component.true)

pub returns-then-component-eq0 : goal.returns-then-component-eq0
returns-then-component-eq0 c = let paths = goal.at.returns-then-component-eq0 c in letter_home _ _ _ (sure paths.Else-not-sound) (on paths.Else-boards-component) c.if-component-eq0.true

-- The letter stands before what its reading asks for, so that a letter read at another place is refused there first.
pub returns : goal.returns
returns c =
    let paths = goal.at.returns c in
    letter_read _ _ _ (sure paths.Else-not-sound) (on paths.Else-boards-component) (λ k. (c.type_inv.rec k).fits) c.letter_at.result c.if-component-eq0.false c.letter_at.ensures

pub letter_at-requires : goal.letter_at-requires
letter_at-requires c =
    let paths = goal.at.letter_at-requires c in
    let fine = known paths.Else-not-sound in
    let within = on_rack _ _ _ (sure paths.Else-not-sound) (on paths.Else-boards-component) in (
      omega arith,
      letter_mark _ _ _ (sure paths.Else-not-sound) (on paths.Else-boards-component) (λ k. (c.type_inv.rec k).fits),
      letter_dirty _ _ _ (sure paths.Else-not-sound) (on paths.Else-boards-component) (λ k. (c.type_inv.rec k).fits),
    )
