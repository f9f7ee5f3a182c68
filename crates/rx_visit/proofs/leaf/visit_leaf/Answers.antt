use Rattle.rx_visit.proofs.Walks.{leaf}
use Rattle.rx_visit.proofs.leaf.visit_leaf.Goals as goal

pub returns : goal.returns
returns g c = leaf c.enter_node.result _ c.requires c.enter_node.ensures c.leave_node.ensures
