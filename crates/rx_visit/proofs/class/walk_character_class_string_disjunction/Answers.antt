use Rattle.std.proofs.Common.{sym, ap, map}
use Rattle.rx_ast.specs.Kinds.{class_string}
use Rattle.rx_visit.specs.Visits.{none}
use Rattle.rx_visit.proofs.Walks.{descended, passed, turned, looped}
use Rattle.rx_visit.proofs.class.walk_character_class_string_disjunction.Goals as goal
use Rattle.rx_visit.proofs.class.walk_character_class_string_disjunction.Goals.{then-enter_node+else-loop-string-test, else-enter_node}

pub loop-string-init : goal.loop-string-init
loop-string-init g c = none _

pub loop-string-preserved : goal.loop-string-preserved
loop-string-preserved g c = turned class_string c.as_slice-strings.result.now c.loop-string.string-index c.string-item.result c.loop-string-test.true c.string-item.is c.loop-string.invariant c.walk_character_class_string.ensures

pub returns : goal.returns
returns g c = elim c.if-enter_node.branch [
  | then-enter_node+else-loop-string-test w ↦ descended _ c.enter_node.result _ _ _ (sym (ap (λ ss. map class_string ss) c.as_slice-strings.ensures)) w.if-enter_node.true c.enter_node.ensures
      (looped class_string c.as_slice-strings.result.now _ w.loop-string-test.false w.loop-string.invariant) w.visitor-is c.leave_node.ensures
  | else-enter_node w ↦ passed c.enter_node.result _ _ w.if-enter_node.false c.enter_node.ensures w.visitor-is c.leave_node.ensures
]
