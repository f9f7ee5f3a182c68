use Rattle.std.proofs.Common.{sym, ap, map}
use Rattle.std.proofs.lemmas.List.{get_or_default}
use Rattle.rx_ast.specs.Kinds.{character}
use Rattle.rx_visit.specs.Visits.{none}
use Rattle.rx_visit.proofs.Walks.{descended, passed, turned, looped}
use Rattle.rx_visit.proofs.class.walk_character_class_string.Goals as goal
use Rattle.rx_visit.proofs.class.walk_character_class_string.Goals.{then-enter_node+else-loop-character-test, else-enter_node}

pub loop-character-init : goal.loop-character-init
loop-character-init g c = none _

pub loop-character-preserved : goal.loop-character-preserved
loop-character-preserved g c = turned character c.as_slice-characters.result.now c.loop-character.character-index _ c.loop-character-test.true (get_or_default _ _ _ _ c.loop-character-test.true) c.loop-character.invariant c.walk_character.ensures

pub returns : goal.returns
returns g c = elim c.if-enter_node.branch [
  | then-enter_node+else-loop-character-test w ↦ descended _ c.enter_node.result _ _ _ (sym (ap (λ cs. map character cs) c.as_slice-characters.ensures)) w.if-enter_node.true c.enter_node.ensures
      (looped character c.as_slice-characters.result.now _ w.loop-character-test.false w.loop-character.invariant) w.visitor-is c.leave_node.ensures
  | else-enter_node w ↦ passed c.enter_node.result _ _ w.if-enter_node.false c.enter_node.ensures w.visitor-is c.leave_node.ensures
]
