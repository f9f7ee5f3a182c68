use Rattle.std.proofs.Common.{arith, drop}
use Rattle.rx_parser.proofs.Items.{after_first}
use Rattle.rx_parser.proofs.Paces.{plain_same}
use Rattle.rx_parser.proofs.counts.begins_with_counts.Goals as goal

pub returns-in-Some-eq123-clause-steps : goal.returns-in-Some-eq123-clause-steps
returns-in-Some-eq123-clause-steps g c =
    let same = plain_same c.in-Some.following (drop 1 c.args.units.now) (after_first c.args.units.now c.in-Some.following c.in-Some.first c.in-Some.ensures.values) in
    (omega (arith, c.are_braces.ensures.steps), omega (arith, same, c.are_braces.ensures.steps))
