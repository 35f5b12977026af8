-- `rackrun_text::line::push_decimal` meets its contract, by what stands of the number.
use Rattle.std.proofs.Common.{◌≡◌, ◌++◌, ◌∷◌, [], ap, ◌∙◌, arith}
use Rattle.rackrun_text.proofs.LineLaws.{decimal_starts, decimal_goes, decimal_waits, decimal_ends}
use Rattle.rackrun_text.proofs.line.push_decimal.Goals as goal

pub loop-k-init : goal.loop-k-init
loop-k-init g c =
    record {
      low = omega arith;
      text = decimal_starts _ _ _ (omega arith);
      short = omega arith;
    }

pub loop-k-preserved-then-front-gt0 : goal.loop-k-preserved-then-front-gt0
loop-k-preserved-then-front-gt0 g c =
    record {
      low = omega (arith, c.loop-k-test.true);
      text = decimal_goes _ _ _ _ _ g.row.MORE _ c.loop-k-test.true c.loop-k.auto.k c.power_of_ten.ensures.power c.loop-k.invariant.text c.if-front-gt0.true
          (c.push.ensures.items ∙ ap (λ d. c.loop-k.text.items ++ d ∷ []) c.digit.ensures);
      short = omega (arith, c.push.ensures.len, c.loop-k.invariant.short, c.loop-k-test.true, c.loop-k.auto.k);
    }

pub loop-k-preserved : goal.loop-k-preserved
loop-k-preserved g c =
    record {
      low = omega (arith, c.loop-k-test.true);
      text = decimal_waits _ _ _ _ [] g.row.MORE _ c.loop-k-test.true c.loop-k.auto.k c.power_of_ten.ensures.power c.loop-k.invariant.text c.if-front-gt0.false;
      short = omega (arith, c.loop-k.invariant.short, c.loop-k-test.true, c.loop-k.auto.k);
    }

pub returns-clause-text : goal.returns-clause-text
returns-clause-text g c =
    decimal_ends _ _ _ _ _ g.row.MORE (let one : c.loop-k.k ≡ 1 = omega (arith, c.loop-k.invariant.low, c.loop-k-test.false) in one) c.loop-k.invariant.text
    (c.push-2.ensures.items ∙ ap (λ d. c.loop-k.text.items ++ d ∷ []) c.digit-2.ensures)
