use Rattle.rx_ast.specs.Tree.{mirror_disjunction}
use Rattle.rx_program.specs.Codes.{accept}
use Rattle.rx_program.specs.Compiled.{each_code}
use Rattle.rx_program.specs.Works.{weights}
use Rattle.rx_program.specs.BuilderState.{works}
use Rattle.rx_program.proofs.Performing.{Makes}
use Rattle.rx_program.proofs.compiler.compile.Given as goal

abbrev pub invariant-loop-task : goal.invariant-loop-task
invariant-loop-task l = Makes l.builder l.names (each_code l.names (mirror_disjunction l.body).1 l.fn.context.settings l.fn.context.back 0 accept)

abbrev pub decreases-loop-task : goal.decreases-loop-task
decreases-loop-task l = weights (works l.builder)
