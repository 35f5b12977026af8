-- `arbiter::claims::raise_check` meets its contract: its tests are those of the table, in order.
use mathlib.Core.Path.{sym, ◌∙◌}
use Rattle.spec_arbiter.proofs.Claims.{raise_waiting, raise_barred, raise_pass}
use Rattle.arbiter.proofs.SetBytes.{barring_is}
use Rattle.arbiter.proofs.claims.raise_check.Goals as goal

pub returns-then-waits : goal.returns-then-waits
returns-then-waits c = λ n l f. let waiting = c.waiting_at.ensures n in sym (raise_waiting _ _ cc)

pub returns-then-own-ne0 : goal.returns-then-own-ne0
returns-then-own-ne0 c = λ n l f.
    let waiting = c.waiting_at.ensures n in
    sym (raise_barred _ _ (cc) (λ e. c.if-own-ne0.true (rw c.from.ensures at c.read_at-own.ensures ∙ barring_is n _ _ _ f c.requires.1 l ∙ e)))

pub returns : goal.returns
returns c = λ n l f.
    let waiting = c.waiting_at.ensures n in
    sym (raise_pass _ _ (cc) (sym (barring_is n _ _ _ f c.requires.1 l) ∙ sym (rw c.from.ensures at c.read_at-own.ensures) ∙ c.if-own-ne0.false))
