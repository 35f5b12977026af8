-- `step_claims::raise` meets its contract: the claims have a place of their own.
use mathlib.Core.Path.{sym}
use mathlib.Core.List.{List}
use Prim.Native.Nat.{ℕ}
use native.Mathlib.Omega.{arith}
use Rattle.spec_arbiter.specs.Claims.{raised}
use Rattle.spec_rack.specs.Rules.{after}
use Rattle.step_checks.proofs.ClaimsInRecord.{claims_room_lem, claims_form, claims_written}
use Rattle.step_checks.proofs.CheckFacts.{raise_passed}
use Rattle.step_checks.proofs.StepOutcome.{written_is}
use Rattle.spec_rack.specs.RecordLayout.{boards_in}
use borrow.Author.Rules.{rules}
use Rattle.step_claims.proofs.raise.Goals as goal

-- The bytes stand before what the change asks for, so that claims of another block or board are refused there first.
pub returns-clause-buffer : goal.returns-clause-buffer
unfolding after
returns-clause-buffer c =
    let known = raise_passed c.args.rec.now c.requires c.args.component c.args.block (sym c.in_ok-raise_check.ensures) in
    written_is _ _ _ (sym c.in_ok-raise_check.ensures)
    (claims_written c.args.rec.now c.requires.whole c.args.block known.0.block c.claims_offset.result c.claims_offset.ensures (search rules)
    (λ (x : List ℕ). raised x c.args.component) c.raise_at.new.rec (c.raise_at.ensures (boards_in c.args.rec.now) (omega (arith, c.requires.whole.boards))
    (claims_form c.args.rec.now c.requires.whole c.args.block known.0.block c.claims_offset.result c.claims_offset.ensures (search rules))))

pub raise_at-requires : goal.raise_at-requires
raise_at-requires c =
    let known = raise_passed c.args.rec.now c.requires c.args.component c.args.block (sym c.in_ok-raise_check.ensures) in
    (claims_room_lem c.args.rec.now c.requires.whole c.args.block known.0.block c.claims_offset.result c.claims_offset.ensures, omega (arith, known.0.component, c.requires.whole.boards))
