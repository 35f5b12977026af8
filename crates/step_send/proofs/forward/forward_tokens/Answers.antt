-- `step_send::forward::forward_tokens` meets its contract: a send of what the cell tells to the board that the claims tell.
use native.Mathlib.Omega.{arith}
use mathlib.Core.Path.{refl, ap, ◌∙◌}
use borrow.Author.Rules.{rules}
use Rattle.spec_arbiter.specs.Claims.{active}
use Rattle.spec_rack.specs.Rules.{after}
use Rattle.step_send.proofs.SentTokens.{forwarded_is}
use Rattle.step_checks.proofs.ClaimsInRecord.{claims_room_lem, claims_read}
use Rattle.step_checks.proofs.CheckFacts.{forward_passed}
use Rattle.spec_rack.specs.RecordLayout.{boards_in}
use Rattle.step_send.proofs.forward.forward_tokens.Goals as goal

pub returns : goal.returns
unfolding after
returns c =
    let can = forward_passed _ c.requires.0 _ _ c.requires.1 in
    let target =
    c.active_at.ensures (boards_in c.args.rec.now) ∙ ap active (claims_read _ can.in_cell.whole _ can.in_cell.block _ c.claims_offset.ensures (search rules)) in
    forwarded_is _ _ c.token_state-state.result target c.token_state-state.ensures refl c.is_present.ensures refl _ c.send_tokens.ensures

pub token_state-state-requires : goal.token_state-state-requires
token_state-state-requires c = (forward_passed _ c.requires.0 _ _ c.requires.1).in_cell

pub active_at-requires : goal.active_at-requires
active_at-requires c =
    let can = forward_passed _ c.requires.0 _ _ c.requires.1 in claims_room_lem _ can.in_cell.whole _ can.in_cell.block _ c.claims_offset.ensures

pub send_tokens-requires : goal.send_tokens-requires
send_tokens-requires c =
    let can = forward_passed _ c.requires.0 _ _ c.requires.1 in
    record { ready = can.ready; in_cell = can.in_cell; enough = omega (arith, c.token_state-state.ensures.plain); room = can.room }
