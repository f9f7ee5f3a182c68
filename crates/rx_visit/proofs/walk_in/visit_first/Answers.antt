use Rattle.std.proofs.Common.{ap, arith}
use Rattle.rx_visit.specs.Steps.{nodes_weight}
use Rattle.rx_visit.proofs.Steps.{begins_none}
use Rattle.rx_visit.proofs.walk_in.visit_first.Goals as goal

pub returns-in_default-clause-begins : goal.returns-in_default-clause-begins
returns-in_default-clause-begins g c = begins_none _ c.in_default.ensures

pub returns-clause-begins : goal.returns-clause-begins
returns-clause-begins g c = rw c.in-Some.ensures c.visit_before.ensures.begins

pub returns-clause-lighter : goal.returns-clause-lighter
returns-clause-lighter g c = omega (arith, c.visit_before.ensures.lighter, ap nodes_weight c.in-Some.ensures)
