use Rattle.rx_ast.specs.Tree.{mirror_disjunction}
use Rattle.rx_rewrite.specs.RewriterState.{works}
use Rattle.rx_rewrite.specs.Works.{weights}
use Rattle.rx_rewrite.proofs.Performing.{Makes}
use Rattle.rx_rewrite.proofs.rewriter.rewrite_disjunction.Given as goal

abbrev pub invariant-loop-task : goal.invariant-loop-task
invariant-loop-task l = Makes l.rewriter l.fn.what l.fn.numbers l.fn.settings.old l.fn.settings.new (mirror_disjunction l.body).1

abbrev pub decreases-loop-task : goal.decreases-loop-task
decreases-loop-task l = weights (works l.rewriter)
