-- `step_claims::lower` meets its contract: the claims have a place of their own.
use mathlib.Core.Path.{sym}
use mathlib.Core.List.{List}
use Prim.Native.Nat.{ℕ}
use native.Mathlib.Omega.{arith}
use Rattle.spec_arbiter.specs.Claims.{lowered}
use Rattle.spec_rack.specs.Rules.{after}
use Rattle.step_checks.proofs.ClaimsInRecord.{claims_room_lem, claims_form, claims_written}
use Rattle.step_checks.proofs.CheckFacts.{lower_passed}
use Rattle.step_checks.proofs.StepOutcome.{written_is}
use borrow.Author.Rules.{rules}
use Rattle.step_claims.proofs.lower.Goals as goal

pub lower_at-requires : goal.lower_at-requires
lower_at-requires c =
    let known = lower_passed c.args.rec.now c.requires c.args.component c.args.block (sym c.in_ok-lower_check.ensures) in (
      claims_room_lem c.args.rec.now c.requires.whole c.args.block known.0.block c.claims_offset.result c.claims_offset.ensures,
      omega (arith, known),
      omega (arith, known),
      omega (arith, c.requires.whole.boards),
      claims_form c.args.rec.now c.requires.whole c.args.block known.0.block c.claims_offset.result c.claims_offset.ensures (search rules),
    )

pub returns-clause-buffer : goal.returns-clause-buffer
unfolding after
returns-clause-buffer c =
    let known = lower_passed c.args.rec.now c.requires c.args.component c.args.block (sym c.in_ok-lower_check.ensures) in
    written_is _ _ _ (sym c.in_ok-lower_check.ensures)
    (claims_written c.args.rec.now c.requires.whole c.args.block known.0.block c.claims_offset.result c.claims_offset.ensures (search rules)
    (λ (x : List ℕ). lowered x c.args.component) c.lower_at.new.rec c.lower_at.ensures)
