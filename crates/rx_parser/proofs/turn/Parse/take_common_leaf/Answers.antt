use Rattle.std.proofs.Common.{◌≤◌, ◌+◌, ◌*◌, arith, rules}
use Rattle.rx_units.specs.Pace.{units_left}
use Rattle.rx_parser.proofs.TokenPaces.{token_bounded, token_paced}
use Rattle.rx_parser.proofs.turn.Parse.take_common_leaf.Goals as goal

pub returns-in_err-take_leaf-clause-steps : goal.returns-in_err-take_leaf-clause-steps
returns-in_err-take_leaf-clause-steps g c =
    let from = c.args.self.now.reader in
    let old = g.C.Counter.count c.args.steps.now in
    let mid = g.C.Counter.count c.add.new.self in
    let new = g.C.Counter.count c.take_leaf.new.steps in
    let bounded : new ≤ old + 7 * units_left from + 7 =
    token_bounded from c.take_leaf.new.self.reader c.args.length old mid new c.requires.found.1 (omega arith, omega arith) c.in_err-take_leaf.ensures.steps in
    search rules

pub returns-clause-steps : goal.returns-clause-steps
returns-clause-steps g c =
    let it = c.in_ok-take_leaf.ensures in
    let old = g.C.Counter.count c.args.steps.now in
    let mid = g.C.Counter.count c.add.new.self in
    token_paced c.args.self.now.reader c.take_leaf.new.self.reader c.args.length old mid (g.C.Counter.count c.take_leaf.new.steps) it.turned.moved it.steps.0 c.requires.found.1 (omega arith, omega arith) it.steps.1 it.steps.2
