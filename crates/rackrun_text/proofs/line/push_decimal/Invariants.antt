-- `rackrun_text::line::push_decimal` meets its contract: the digits above the weight 10 ^ k stand, where the number has some.
use Rattle.std.proofs.Common.{◌≡◌, ◌+◌, ◌-◌, ◌/◌, ◌^◌, ◌≤◌, ◌++◌, length}
use Rattle.rackrun_text.proofs.LineLaws.{front}
use Rattle.rackrun_text.proofs.line.push_decimal.Given as goal

abbrev pub invariant-loop-k : goal.invariant-loop-k
invariant-loop-k g l = record {
  low : 1 ≤ l.k;
  text : l.text.items ≡ l.fn.text.items ++ front (g.row.MORE + 1 - l.k) (l.fn.n / 10 ^ l.k);
  short : length l.text.items ≤ length l.fn.text.items + (g.row.MORE + 1 - l.k);
}
