-- `record_message::words_sound` meets its contract: the part that is lent is the words.
use native.Mathlib.Omega.{arith}
use Prim.Native.Nat.{◌+◌}
use mathlib.Core.Path.{◌∙◌}
use Rattle.spec_base.proofs.Zeros.{zero_part}
use Rattle.record_message.proofs.words_sound.Goals as goal

pub returns-in-0 : goal.returns-in-0
returns-in-0 c =
    let zero = c.is_zero.ensures ∙ zero_part (c.args.at + 8) (c.args.at + 40) 32 c.args.rec.now (omega arith) (omega arith) in
    rw c.in-0.is (zero)
