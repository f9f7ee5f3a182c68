use Rattle.std.proofs.Common.{◌∙◌, ap, arith, drop, sym}
use Rattle.rx_parser.proofs.Common.{common_steps, cond-false, digits, digits_after, is_decimal_digit}
use Rattle.rx_parser.proofs.Items.{unit_at}
use Rattle.rx_parser.proofs.Paces.{run_more, run_stops}
use Rattle.rx_parser.proofs.ahead.number_at.Goals as goal

pub returns-then-not-is_decimal_digit-clause-number : goal.returns-then-not-is_decimal_digit-clause-number
returns-then-not-is_decimal_digit-clause-number g c =
    let was = c.loop-count.invariant.read in
    let i = c.loop-count.count in
    let here = unit_at g.U.Unit.value c.args.units.now _ i _ c.items-items.ensures.values c.loop-count-test.true (c.value.ensures ∙ ap g.U.Unit.value c.index-items-count.is) in
    (was.number, was.found_is, sym was.read ∙ ap (digits_after was.number i) here ∙ cond-false (is_decimal_digit c.value.result) _ _ (sym c.if-not-is_decimal_digit.ensures) ∙ ap (digits was.number i) (sym here))

pub returns-then-not-is_decimal_digit-clause-run : goal.returns-then-not-is_decimal_digit-clause-run
returns-then-not-is_decimal_digit-clause-run g c =
    let i = c.loop-count.count in
    let here = unit_at g.U.Unit.value c.args.units.now _ i _ c.items-items.ensures.values c.loop-count-test.true (c.value.ensures ∙ ap g.U.Unit.value c.index-items-count.is) in
    omega (arith, c.loop-count.invariant.run, run_stops (drop i c.args.units.now) _ _ here (sym c.if-not-is_decimal_digit.ensures))

pub loop-count-preserved : goal.loop-count-preserved
loop-count-preserved g c =
    let was = c.loop-count.invariant in
    let here = unit_at g.U.Unit.value c.args.units.now c.items-items.result.now c.loop-count.count c.index-items-count.result c.items-items.ensures.values c.loop-count-test.true (c.value.ensures ∙ ap g.U.Unit.value c.index-items-count.is) in record {
      read = grind (arith, common_steps, was.read, here);
      run = grind (arith, common_steps, run_more, was.run, here);
      steps = omega (arith, was.steps);
    }

pub returns-then-not-is_decimal_digit-clause-within : goal.returns-then-not-is_decimal_digit-clause-within
returns-then-not-is_decimal_digit-clause-within g c = omega (arith, c.loop-count-test.true, c.items-items.ensures.length)

pub returns-then-not-is_decimal_digit-clause-steps : goal.returns-then-not-is_decimal_digit-clause-steps
returns-then-not-is_decimal_digit-clause-steps g c = let it = c.loop-count.invariant.steps in (omega (arith, it), omega (arith, it))
