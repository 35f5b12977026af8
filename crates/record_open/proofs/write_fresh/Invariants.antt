-- `record_open::write_fresh` meets its contract: at turn b the header and the first b blocks are written.
use mathlib.Core.Path.{◌≡◌}
use Rattle.record_open.proofs.FreshBytes.{opening}
use Rattle.record_open.proofs.write_fresh.Given as goal

abbrev pub invariant-loop-b : goal.invariant-loop-b
invariant-loop-b l = l.rec ≡ opening l.sizes.boards l.sizes.blocks l.sizes.tokens l.initial.rec l.b
