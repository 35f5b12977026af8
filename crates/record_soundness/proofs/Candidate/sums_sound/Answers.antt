-- `record_soundness::Candidate::sums_sound` meets its contract: the loop stops at the first block whose tokens or claims are not sound.
use Prim.Native.Nat.{ℕ, ◌+◌}
use native.Mathlib.Omega.{arith}
use mathlib.Core.Path.{◌≡◌, sym, ◌∙◌}
use mathlib.Core.Bool.{Bool}
use lib.Dec.{eqb}
use lib.ListN.{get_or}
use borrow.Author.Tests.{not-false}
use Rattle.spec_base.specs.Folds.{all_below}
use Rattle.spec_base.proofs.Tests.{and_left, and_right}
use Rattle.spec_base.proofs.Folds.{below_fails}
use Rattle.spec_rack.specs.RecordLayout.{block_offset, claims_offset}
use Rattle.arbiter.proofs.ClaimsDecision.{unbarred, others_wait}
use Rattle.record_soundness.proofs.BlockSets.{first_start, first_turn, first_end}
use Rattle.record_soundness.proofs.Candidate.sums_sound.Goals as goal

pub loop-b-init : goal.loop-b-init
loop-b-init c = first_start _ _

pub returns-then-not-tokens_total : goal.returns-then-not-tokens_total
returns-then-not-tokens_total c = sym (below_fails _ c.args.self.now.blocks c.loop-b.b (omega arith) (and_left _ _ (sym c.tokens_total.ensures ∙ c.if-not-tokens_total.true)))

pub returns-then-not-only_boards_wait : goal.returns-then-not-only_boards_wait
returns-then-not-only_boards_wait c =
    sym (below_fails _ c.args.self.now.blocks c.loop-b.b (omega arith)
    (and_right _ _ (others_wait c.args.self.now.boards (block_offset c.loop-b.b + claims_offset) c.args.self.now.rec.now (sym c.only_boards_wait.ensures ∙ c.if-not-only_boards_wait.true))))

-- where no board is barred the waiting set decides
pub loop-b-preserved : goal.loop-b-preserved
loop-b-preserved c =
    let at : ℕ = block_offset c.loop-b.b + claims_offset in
    let zeros : Bool = all_below 32 (λ i. eqb (get_or c.args.self.now.rec.now (at + i) 0) 0) in
    rw c.insert_if-barred.ensures
    (first_turn _ _ c.loop-b.b c.loop-b.barred c.some_barred-some.result c.loop-b.invariant (sym c.tokens_total.ensures ∙ c.if-not-tokens_total.false)
    (λ e. sym (unbarred c.args.self.now.boards at c.args.self.now.rec.now (omega arith) (omega arith) (not-false zeros (sym c.some_barred-some.ensures ∙ e)))
    ∙ sym c.only_boards_wait.ensures ∙ c.if-not-only_boards_wait.false))

pub returns : goal.returns
returns c =
    let all : c.loop-b.b ≡ c.args.self.now.blocks = omega arith in
    c.barred_sound.ensures ∙ first_end _ _ c.args.self.now.blocks c.loop-b.barred (omega arith) (rw all at c.loop-b.invariant)
