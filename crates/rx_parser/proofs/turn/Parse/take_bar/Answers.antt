use Rattle.std.proofs.Common.{◌≤◌, ◌+◌, ◌*◌, arith, rules}
use Rattle.rx_units.specs.Pace.{units_left}
use Rattle.rx_parser.proofs.TokenPaces.{token_bounded, token_paced}
use Rattle.rx_parser.proofs.turn.Parse.take_bar.Goals as goal

pub returns-in_err-bar-clause-steps : goal.returns-in_err-bar-clause-steps
returns-in_err-bar-clause-steps g c =
    let from = c.args.self.now.reader in
    let to = c.bar.new.self.reader in
    let old = g.C.Counter.count c.args.steps.now in
    let new = g.C.Counter.count c.bar.new.steps in
    let bounded : new ≤ old + 7 * units_left from + 7 = token_bounded from to 1 old old new c.requires.found.1 (omega arith, omega arith) c.in_err-bar.ensures.steps in
    search rules

pub returns-clause-steps : goal.returns-clause-steps
returns-clause-steps g c =
    let it = c.in_ok-bar.ensures in
    let old = g.C.Counter.count c.args.steps.now in
    token_paced c.args.self.now.reader c.bar.new.self.reader 1 old old (g.C.Counter.count c.bar.new.steps) it.turned.moved it.steps.0 c.requires.found.1 (omega arith, omega arith) it.steps.1 it.steps.2
