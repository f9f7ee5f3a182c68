use Rattle.rx_ast.specs.Tree.{mirror}
use Rattle.rx_lint.proofs.SiblingsToCome.{turns}
use Rattle.rx_lint.proofs.Loop.{IsListed, siblings_of}
use Rattle.rx_lint.proofs.linting.list_findings.Given as goal

abbrev pub invariant-loop-step : goal.invariant-loop-step
invariant-loop-step l = IsListed (mirror l.fn.pattern) l.findings l.left l.rows

abbrev pub decreases-loop-step : goal.decreases-loop-step
decreases-loop-step l = turns (siblings_of l.left)
