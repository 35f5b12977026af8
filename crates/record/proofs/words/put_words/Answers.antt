-- `record::words::put_words` meets its contract. The invariant: the first i words are written.
use Rattle.spec_base.proofs.Laws.{cut}
use Rattle.spec_base.specs.Layout.{modify_at, big}
use Rattle.record.proofs.FieldAccess.{lined_more, lined_all}
use mathlib.Core.Path.{sym, ap, ◌∙◌}
use lib.ListN.{get_or}
use Prim.Native.Nat.{◌+◌, ◌*◌}
use native.Mathlib.Omega.{arith}
use borrow.Author.Rules.{rules}
use Rattle.record.proofs.words.put_words.Goals as goal

pub loop-i-init : goal.loop-i-init
loop-i-init c = sym (cut c.args.at 32 c.args.s.now)

pub loop-i-preserved : goal.loop-i-preserved
loop-i-preserved c = c.write_at.ensures ∙ ap (modify_at (c.args.at + 4 * c.loop-i.i) 4 ((big 4).write (get_or c.args.values c.loop-i.i 0))) c.loop-i.invariant
    ∙ lined_more c.args.s.now c.args.at c.args.values (search rules) c.requires c.loop-i.i (omega arith)

pub returns : goal.returns
returns c = c.loop-i.invariant ∙ lined_all c.args.s.now c.args.at c.args.values (search rules) c.requires c.loop-i.i (omega arith)
