use Rattle.std.proofs.Common.{◌∙◌, ap, arith}
use Rattle.rx_parser.proofs.Common.{common_steps}
use Rattle.rx_parser.proofs.Items.{unit_at}
use Rattle.rx_parser.proofs.modifiers.letters_at.Goals as goal

pub returns-then-is_none-clause-letters : goal.returns-then-is_none-clause-letters
returns-then-is_none-clause-letters g c =
    let here = unit_at g.U.Unit.value c.args.units.now c.items-items.result.now c.loop-count.count c.index-items-count.result c.items-items.ensures.values c.loop-count-test.true (c.value.ensures ∙ ap g.U.Unit.value c.index-items-count.is) in
    grind (arith, common_steps, here)

pub loop-count-preserved : goal.loop-count-preserved
loop-count-preserved g c =
    let here = unit_at g.U.Unit.value c.args.units.now c.items-items.result.now c.loop-count.count c.index-items-count.result c.items-items.ensures.values c.loop-count-test.true (c.value.ensures ∙ ap g.U.Unit.value c.index-items-count.is) in
    record { letters = grind (arith, common_steps, c.loop-count.invariant.letters, here); steps = omega (arith, c.loop-count.invariant.steps) }

pub returns-then-is_none-clause-within : goal.returns-then-is_none-clause-within
returns-then-is_none-clause-within g c = omega (arith, c.loop-count-test.true, c.items-items.ensures.length)

pub returns-then-is_none-clause-steps : goal.returns-then-is_none-clause-steps
returns-then-is_none-clause-steps g c = let it = c.loop-count.invariant.steps in (omega (arith, it), omega (arith, it))
