use Rattle.std.proofs.Common.{[]}
use Rattle.rx_ast.specs.Tree.{mirror_disjunction}
use Rattle.rx_program.specs.ClassTests.{each_tests}
use Rattle.rx_program.specs.ClassesFound.{unseen_of, unseen_weights}
use Rattle.rx_program.proofs.Finding.{FindsAll}
use Rattle.rx_program.proofs.classes.class_rows.Given as goal

abbrev pub invariant-loop-unseen : goal.invariant-loop-unseen
invariant-loop-unseen l = FindsAll l.finder (each_tests (mirror_disjunction l.body).1 [])

abbrev pub decreases-loop-unseen : goal.decreases-loop-unseen
decreases-loop-unseen l = unseen_weights (unseen_of l.finder)
