use Rattle.std.proofs.Common.{length, arith}
use Rattle.rx_units.specs.Units.{values}
use Rattle.rx_scan.proofs.EscapeCounts.{after_four, after_lead}
use Rattle.rx_scan.proofs.MarkSteps.{values_length}
use Rattle.rx_scan.proofs.unicode_escape.after_u.Goals as goal

pub returns-then-is_lead_surrogate-clause-steps : goal.returns-then-is_lead_surrogate-clause-steps
returns-then-is_lead_surrogate-clause-steps g c =
    rw c.if-unicode_mode.true (after_lead _ _ _ (length c.args.units.now) c.lead_or_pair.result c.in-Some.ensures.steps c.lead_or_pair.ensures.steps)

pub returns-then-unicode_mode-2-clause-steps : goal.returns-then-unicode_mode-2-clause-steps
returns-then-unicode_mode-2-clause-steps g c =
    let us = c.args.units.now in
    let four = c.in-None.ensures in
    let braces = c.braced_digits.ensures in
    rw c.if-unicode_mode-2.true
    (after_four _ _ _ (values us) (length us) c.braced_digits.result (values_length us) four.looked four.steps.0.1 braces.read braces.looked braces.steps)

pub returns-then-is_lead_surrogate-clause-half : goal.returns-then-is_lead_surrogate-clause-half
returns-then-is_lead_surrogate-clause-half g c = omega (arith, c.lead_or_pair.ensures.half, c.in-Some.ensures.steps)

pub returns-else-unicode_mode-clause-steps : goal.returns-else-unicode_mode-clause-steps
returns-else-unicode_mode-clause-steps g c = (omega (arith, c.in-Some.ensures.steps), omega (arith, c.in-Some.ensures.steps))

pub returns-else-unicode_mode-clause-half : goal.returns-else-unicode_mode-clause-half
returns-else-unicode_mode-clause-half g c = omega (arith, c.in-Some.ensures.steps)

pub returns-then-unicode_mode-2-clause-half : goal.returns-then-unicode_mode-2-clause-half
returns-then-unicode_mode-2-clause-half g c = omega (arith, c.braced_digits.ensures.half, c.in-None.ensures.steps)

pub returns-else-unicode_mode-2-clause-half : goal.returns-else-unicode_mode-2-clause-half
returns-else-unicode_mode-2-clause-half g c = omega (arith, c.in-None.ensures.steps)
