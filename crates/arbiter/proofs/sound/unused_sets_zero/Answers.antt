-- `arbiter::sound::unused_sets_zero` meets its contract: place 0 and the places above the last board are all that the layout asks of them.
use native.Mathlib.Omega.{arith}
use Prim.Native.Nat.{◌+◌, ◌*◌, ◌-◌}
use mathlib.Core.Path.{refl, sym, ◌∙◌}
use mathlib.Core.Bool.{◌&&◌}
use Rattle.spec_base.proofs.Zeros.{zero_part}
use Rattle.arbiter.proofs.SetBytes.{claims_formed}
use Rattle.arbiter.proofs.sound.unused_sets_zero.Goals as goal

pub returns : goal.returns
returns c =
    let s = c.args.rec.now in
    let used = c.from-used.ensures in
    let first = c.is_zero.ensures ∙ zero_part c.args.at (c.args.at + 2) 2 s refl (omega arith) in
    let above = c.is_zero-2.ensures ∙ zero_part _ (c.args.at + 32) (30 - c.args.boards * 2) s (omega (arith, used)) (omega arith) in
    (λ i. first i && rw used at above i) ∙ sym (claims_formed c.args.boards c.args.at s c.requires.1)
