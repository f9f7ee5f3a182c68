use Rattle.rx_ast.proofs.Equations.{alternative_is}
use Rattle.rx_json.proofs.Openings.{opens_after}
use Rattle.rx_json.proofs.node.open_alternative.Goals as goal

pub returns : goal.returns
returns c = rw (alternative_is c.args.it.now) (opens_after c.open_list.result _ _ _ _ _ _ c.in_ok-begin_node.ensures c.open_list.ensures)
