-- `step_access::store` meets its contract: the table has a known component, block and word.
use native.Mathlib.Omega.{arith}
use mathlib.Core.Path.{sym}
use Rattle.step_checks.proofs.CheckFacts.{store_passed}
use Rattle.step_access.proofs.store.Goals as goal

pub set_word-requires : goal.set_word-requires
set_word-requires c =
    let known = store_passed c.args.rec.now c.requires c.args.component c.args.block c.args.word c.args.value (sym c.in_ok-store_check.ensures) in
    (record { whole = known.0.whole; block = known.0.block; component = omega (arith, known.0.component) }, known.1.0, known.1.1)
