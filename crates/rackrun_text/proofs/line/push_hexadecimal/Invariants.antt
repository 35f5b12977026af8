-- `rackrun_text::line::push_hexadecimal` meets its contract: the digits above the weight 16 ^ k stand.
use Rattle.std.proofs.Common.{◌≡◌, ◌+◌, ◌-◌, ◌/◌, ◌^◌, ◌++◌, length}
use Rattle.spec_rackrun.specs.Rackrun.{digits}
use Rattle.rackrun_text.proofs.line.push_hexadecimal.Given as goal

abbrev pub invariant-loop-k : goal.invariant-loop-k
invariant-loop-k g l = record {
  text : l.text.items ≡ l.fn.text.items ++ digits 16 (g.row.COUNT - l.k) (l.fn.n / 16 ^ l.k);
  long : length l.text.items ≡ length l.fn.text.items + (g.row.COUNT - l.k);
}
