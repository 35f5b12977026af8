-- `record::words::put_words` meets its contract. The invariant: the first i words are written.
use Rattle.spec_base.specs.Layout.{modify_at, big, write_items}
use mathlib.Core.Path.{◌≡◌}
use lib.ListN.{take}
use Rattle.record.proofs.words.put_words.Given as goal

abbrev pub invariant-loop-i : goal.invariant-loop-i
invariant-loop-i l = l.s ≡ modify_at l.at 32 (write_items (big 4) (take l.i l.value-items)) l.initial.s
