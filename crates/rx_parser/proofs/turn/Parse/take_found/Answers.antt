use Rattle.rx_parser.proofs.TokenPaces.{found_taken}
use Rattle.rx_parser.proofs.turn.Parse.take_found.Goals as goal

pub returns-clause-steps : goal.returns-clause-steps
returns-clause-steps g c =
    let found = c.find_here-found in
    found_taken c.requires c.take.new.self (g.C.Counter.count c.args.steps.now) (g.C.Counter.count found.new.steps) (g.C.Counter.count c.take.new.steps)
    found.result c.take.result found.ensures.found c.take.ensures.turned found.ensures.steps c.take.ensures.steps
