use Rattle.std.proofs.Common.{◌≡◌, ◌++◌}
use Rattle.rx_ast.specs.Tree.{mirror}
use Rattle.rx_paint.specs.Edges.{tokens_left}
use Rattle.rx_paint.specs.Runs.{pattern_tokens}
use Rattle.rx_paint.specs.Steps.{edges_to_come, weight}
use Rattle.rx_paint.proofs.painting.paint.Given as goal

abbrev pub invariant-loop-step : goal.invariant-loop-step
invariant-loop-step l = pattern_tokens (mirror l.fn.pattern) ≡ l.tokens ++ tokens_left l.brush.from l.brush.owner l.brush.at l.brush.next (edges_to_come l.left)

abbrev pub decreases-loop-step : goal.decreases-loop-step
decreases-loop-step l = weight l.left
