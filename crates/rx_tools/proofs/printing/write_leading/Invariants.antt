use Rattle.std.proofs.Common.{◌≤◌, length}
use Rattle.rx_tasks.specs.Texts.{Goes}
use Rattle.rx_tools.specs.Tasks.{body_text, body_weight}
use Rattle.rx_tools.specs.Writes.{writes}
use Rattle.rx_tools.proofs.printing.write_leading.Given as goal

abbrev pub invariant-loop-rest : goal.invariant-loop-rest
invariant-loop-rest g l = record {
  text : Goes (writes g.W.TextSink.taken) l.fn.sink l.sink (body_text l.fn.body) (body_text l.left);
  lighter : body_weight l.left ≤ body_weight l.fn.body;
}

abbrev pub decreases-loop-rest : goal.decreases-loop-rest
decreases-loop-rest g l = length l.left.more.now
