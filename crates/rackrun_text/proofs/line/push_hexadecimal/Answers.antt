-- `rackrun_text::line::push_hexadecimal` meets its contract, digit by digit.
use Rattle.std.proofs.Common.{◌++◌, ◌∷◌, [], ap, ◌∙◌, arith}
use Rattle.rackrun_text.proofs.LineLaws.{hexadecimal_starts, hexadecimal_goes}
use Rattle.rackrun_text.proofs.line.push_hexadecimal.Goals as goal

pub loop-k-init : goal.loop-k-init
loop-k-init g c =
    record {
      text = hexadecimal_starts _ _ _ (omega arith);
      long = omega arith;
    }

pub loop-k-preserved : goal.loop-k-preserved
loop-k-preserved g c =
    record {
      text = hexadecimal_goes _ _ _ _ _ g.row.COUNT c.loop-k-test.true c.loop-k.auto.k c.loop-k.invariant.text
          (c.push.ensures.items ∙ ap (λ d. c.loop-k.text.items ++ d ∷ []) c.digit.ensures);
      long = omega (arith, c.push.ensures.len, c.loop-k.invariant.long, c.loop-k-test.true, c.loop-k.auto.k);
    }
