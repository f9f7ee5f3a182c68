use Rattle.std.proofs.Common.{◌+◌, ◌<◌, ap, arith, length, length-drop, length-take, rules, sym}
use Rattle.rx_parser.proofs.Common.{values}
use Rattle.rx_parser.proofs.ModifiersFound.{one_side_seen, two_sides_seen}
use Rattle.rx_parser.proofs.modifiers.sides_at.Goals as goal

pub returns-then-not-stands_at-clause-sides : goal.returns-then-not-stands_at-clause-sides
returns-then-not-stands_at-clause-sides g c =
    one_side_seen (values c.args.units.now) c.letters_at-count.result c.letters_at-count.ensures.letters c.front-enabling.ensures.values (sym c.if-not-stands_at.ensures.there) c.front.ensures.values

pub returns-clause-sides : goal.returns-clause-sides
returns-clause-sides g c =
    two_sides_seen (values c.args.units.now) c.letters_at-count.result c.letters_at-count.ensures.letters c.front-enabling.ensures.values c.letters_at-more.result
    (sym c.if-not-stands_at.ensures.there) c.from-following.ensures.values c.letters_at-more.ensures.letters c.front-2.ensures.values

pub returns-then-not-stands_at-clause-within : goal.returns-then-not-stands_at-clause-within
returns-then-not-stands_at-clause-within g c = c.letters_at-count.ensures.within

pub returns-then-not-stands_at-clause-parts : goal.returns-then-not-stands_at-clause-parts
returns-then-not-stands_at-clause-parts g c =
    let us = c.args.units.now in
    omega (arith, ap length c.front-enabling.ensures.units, length-take c.letters_at-count.result us, ap length c.front.ensures.units, length-take 0 us)

pub returns-then-not-stands_at-clause-steps : goal.returns-then-not-stands_at-clause-steps
returns-then-not-stands_at-clause-steps g c = let it = c.letters_at-count.ensures.steps in (omega (arith, it), omega (arith, it))

pub returns-clause-within : goal.returns-clause-within
returns-clause-within g c =
    let us = c.args.units.now in
    let count = c.letters_at-count.result in
    let inside : count < length us = search rules in
    omega (arith, inside, c.letters_at-more.ensures.within, ap length c.from-following.ensures.units, length-drop (count + 1) us)

pub returns-clause-parts : goal.returns-clause-parts
returns-clause-parts g c =
    let more = c.letters_at-more.result in
    let count = c.letters_at-count.result in
    omega (arith, ap length c.front-enabling.ensures.units, length-take count c.args.units.now, ap length c.front-2.ensures.units, length-take more c.from-following.result)

pub returns-clause-steps : goal.returns-clause-steps
returns-clause-steps g c =
    let first = c.letters_at-count.ensures.steps in
    let more = c.letters_at-more.ensures.steps in
    (omega (arith, first, more), omega (arith, first, more))
