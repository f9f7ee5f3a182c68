use Rattle.std.proofs.Common.{◌∙◌, ap, arith, refl}
use Rattle.rx_parser.proofs.Common.{common_steps}
use Rattle.rx_parser.proofs.Items.{unit_at}
use Rattle.rx_parser.proofs.counts.digits_at.Goals as goal

pub returns-then-not-is_decimal_digit-clause-read : goal.returns-then-not-is_decimal_digit-clause-read
returns-then-not-is_decimal_digit-clause-read g c =
    let here = unit_at g.U.Unit.value c.args.units.now c.items-items.result.now c.loop-count.count c.index-items-count.result c.items-items.ensures.values c.loop-count-test.true (c.value.ensures ∙ ap g.U.Unit.value c.index-items-count.is) in
    grind (arith, common_steps, c.loop-count.invariant.read, here)

pub returns-in-None-clause-read : goal.returns-in-None-clause-read
returns-in-None-clause-read g c =
    let here = unit_at g.U.Unit.value c.args.units.now c.items-items.result.now c.loop-count.count c.index-items-count.result c.items-items.ensures.values c.loop-count-test.true (c.value.ensures ∙ ap g.U.Unit.value c.index-items-count.is) in
    grind (arith, common_steps, c.loop-count.invariant.read, here)

pub loop-count-preserved : goal.loop-count-preserved
loop-count-preserved g c =
    let here = unit_at g.U.Unit.value c.args.units.now c.items-items.result.now c.loop-count.count c.index-items-count.result c.items-items.ensures.values c.loop-count-test.true (c.value.ensures ∙ ap g.U.Unit.value c.index-items-count.is) in
    record { read = grind (arith, common_steps, c.loop-count.invariant.read, here); steps = omega (arith, c.loop-count.invariant.steps) }

pub loop-count-init : goal.loop-count-init
loop-count-init g c = record { read = refl; steps = omega arith }

pub returns-then-not-is_decimal_digit-clause-within : goal.returns-then-not-is_decimal_digit-clause-within
returns-then-not-is_decimal_digit-clause-within g c = omega (arith, c.loop-count-test.true, c.items-items.ensures.length)

pub returns-then-not-is_decimal_digit-clause-steps : goal.returns-then-not-is_decimal_digit-clause-steps
returns-then-not-is_decimal_digit-clause-steps g c = let it = c.loop-count.invariant.steps in (omega (arith, it), omega (arith, it))

pub returns-in-None-clause-within : goal.returns-in-None-clause-within
returns-in-None-clause-within g c = omega (arith, c.loop-count-test.true, c.items-items.ensures.length)

pub returns-in-None-clause-steps : goal.returns-in-None-clause-steps
returns-in-None-clause-steps g c = let it = c.loop-count.invariant.steps in (omega (arith, it), omega (arith, it))
