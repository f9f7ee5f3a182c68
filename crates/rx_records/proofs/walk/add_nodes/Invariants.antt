use Rattle.std.proofs.Common.{◌≤◌, length}
use Rattle.rx_visit.specs.Siblings.{in_order}
use Rattle.rx_records.specs.Made.{Shortens, task_nodes}
use Rattle.rx_records.specs.Records.{all_nodes}
use Rattle.rx_records.proofs.walk.add_nodes.Given as goal

abbrev pub invariant-loop-first : goal.invariant-loop-first
invariant-loop-first l = record {
  shortens : Shortens l.fn.made l.made (task_nodes l.fn.task) (all_nodes (in_order l.rest));
  lighter : length (all_nodes (in_order l.rest)) ≤ length (task_nodes l.fn.task);
}

abbrev pub decreases-loop-first : goal.decreases-loop-first
decreases-loop-first l = length (in_order l.rest)
