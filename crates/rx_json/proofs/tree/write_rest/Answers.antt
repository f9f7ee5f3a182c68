use Rattle.std.proofs.Common.{arith}
use Rattle.rx_visit.proofs.Orders.{first_length}
use Rattle.rx_json.proofs.tree.write_rest.Goals as goal

pub returns-clause-lighter : goal.returns-clause-lighter
returns-clause-lighter c =
    let sized = first_length c.args.nodes c.in-Some.nodes _ c.in-Some.ensures in
    omega arith
