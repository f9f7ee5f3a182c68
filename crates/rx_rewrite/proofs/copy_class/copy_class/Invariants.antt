use Rattle.std.proofs.Common.{◌≡◌, map}
use Rattle.rx_ast.specs.ClassTree.{members, mirror_contents}
use Rattle.rx_rewrite.specs.ClassWorks.{class_works, members_after_works, listed_members, work_weights}
use Rattle.rx_rewrite.proofs.copy_class.copy_class.Given as goal

abbrev pub invariant-loop-task : goal.invariant-loop-task
invariant-loop-task l = members_after_works (class_works l.copier) (map mirror_contents l.copier.body) ≡ listed_members (members (map mirror_contents l.class.body))

abbrev pub decreases-loop-task : goal.decreases-loop-task
decreases-loop-task l = work_weights (class_works l.copier)
