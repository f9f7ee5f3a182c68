use Rattle.std.specs.List.{sum_by}
use Rattle.rx_tasks.specs.Tasks.{Leads, tasks_left}
use Rattle.rx_tasks.proofs.work.work_through.Given as goal

abbrev pub invariant-loop-left : goal.invariant-loop-left
invariant-loop-left g l = record {
  ready : g.T.Work.ready l.state;
  leads : Leads g.T.Work.does l.fn.first l.fn.state l.state (tasks_left l.left l.waiting);
}

abbrev pub decreases-loop-left : goal.decreases-loop-left
decreases-loop-left g l = sum_by g.T.Work.weight (tasks_left l.left l.waiting)
