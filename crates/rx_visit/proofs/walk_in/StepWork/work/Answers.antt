use Rattle.rx_tasks.proofs.Turns.{leads_done}
use Rattle.rx_visit.proofs.Steps.{leads_begun}
use Rattle.rx_visit.proofs.walk_in.StepWork.work.Goals as goal

pub returns-in-Leave-clause-leads : goal.returns-in-Leave-clause-leads
returns-in-Leave-clause-leads g c = rw c.in-Leave.is (leads_done c.leave_node.ensures)

pub returns-in-Visit-clause-leads : goal.returns-in-Visit-clause-leads
returns-in-Visit-clause-leads g c = rw c.in-Visit.is (leads_begun c.in-Visit.siblings _ c.visit_first.ensures.begins)
