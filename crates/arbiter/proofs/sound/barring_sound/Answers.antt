-- `arbiter::sound::barring_sound` meets its contract: the empty set lies within every set, and a waiting board has no other.
use Rattle.arbiter.proofs.ClaimsDecision.{bars_none, bars_waiting, bars_idle}
use mathlib.Core.Path.{sym, ◌∙◌}
use borrow.Author.Tests.{ne_eqb}
use Rattle.arbiter.proofs.sound.barring_sound.Goals as goal

pub returns-then-barring-eq0 : goal.returns-then-barring-eq0
returns-then-barring-eq0 c = sym (bars_none c.args.waiting c.args.board c.args.barring c.if-barring-eq0.true)

pub returns-then-member : goal.returns-then-member
returns-then-member c =
    sym (bars_waiting c.args.waiting c.args.board c.args.barring (sym c.member.ensures ∙ c.if-member.true) ∙ ne_eqb c.args.barring 0 c.if-barring-eq0.false)

pub returns : goal.returns
returns c =
    c.subset.ensures ∙ sym (bars_idle c.args.waiting c.args.board c.args.barring (sym c.member.ensures ∙ c.if-member.false))
