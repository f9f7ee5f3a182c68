use Rattle.std.proofs.Common.{◌+◌, ◌*◌, take, map}
use Rattle.rx_ast.specs.Size.{contents_size, all_contents_size}
use Rattle.rx_visit.specs.Visits.{VisitedAll}
use Rattle.rx_visit.specs.Siblings.{contents_kind}
use Rattle.rx_visit.proofs.class.+class.Given as goal

abbrev pub decreases-walk_character_class : goal.decreases-walk_character_class
decreases-walk_character_class g l = 3 * all_contents_size l.it.now.body + 2

abbrev pub decreases-walk_character_class_contents : goal.decreases-walk_character_class_contents
decreases-walk_character_class_contents g l = 3 * contents_size l.it.now + 1

abbrev pub decreases-walk_in_contents : goal.decreases-walk_in_contents
decreases-walk_in_contents g l = 3 * contents_size l.it.now

abbrev pub invariant-walk_character_class-loop-contents : goal.invariant-walk_character_class-loop-contents
invariant-walk_character_class-loop-contents g l = VisitedAll g.V.Visit.entered g.V.Visit.left l.initial.visitor (map contents_kind (take l.contents-index l.all_contents)) l.visitor
