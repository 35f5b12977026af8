-- `arbiter::claims::lower_check` meets its contract: its test is that of the table.
use mathlib.Core.Path.{sym}
use Rattle.spec_arbiter.proofs.Claims.{lower_pass, lower_refused}
use Rattle.arbiter.proofs.claims.lower_check.Goals as goal

pub returns-then-member : goal.returns-then-member
returns-then-member c = λ n. let waiting = c.waiting_at-w.ensures n in sym (lower_pass _ _ cc)

pub returns : goal.returns
returns c = λ n. let waiting = c.waiting_at-w.ensures n in sym (lower_refused _ _ cc)
