-- `step_checks::waiting_set` meets its contract: the claims on a block stand at a place of their own.
use mathlib.Core.Path.{ap, ◌∙◌}
use Rattle.spec_arbiter.specs.Claims.{waiting}
use Rattle.step_checks.proofs.ClaimsInRecord.{claims_read}
use Rattle.spec_rack.specs.RecordLayout.{boards_in}
use borrow.Author.Rules.{rules}
use Rattle.step_checks.proofs.waiting_set.Goals as goal

pub returns : goal.returns
returns c =
    c.waiting_at.ensures (boards_in c.args.rec.now)
    ∙ ap waiting (claims_read _ c.requires.0 _ c.requires.1 _ c.claims_offset.ensures (search rules))
