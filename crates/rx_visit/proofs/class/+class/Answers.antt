use Rattle.std.proofs.Common.{refl, ap, sym, ◌∙◌, rules, arith}
use Rattle.rx_ast.specs.ClassTree.{mirror_class}
use Rattle.rx_ast.specs.Kinds.{class, class_range, property_escape, string_disjunction}
use Rattle.rx_ast.specs.Size.{all_contents_size, contents_size}
use Rattle.rx_ast.proofs.ClassEquations.{character_is, escape_is, nested_is, property_is, range_is, strings_is}
use Rattle.rx_ast.proofs.ClassSizes.{contents_within, size_of_nested}
use Rattle.rx_visit.specs.Visits.{none}
use Rattle.rx_visit.specs.Siblings.{contents_kind}
use Rattle.rx_visit.proofs.Children.{in_class, kind_of_contents}
use Rattle.rx_visit.proofs.Walks.{descended, passed, one, turned, looped, visited_as}
use Rattle.rx_visit.proofs.class.+class.Goals as goal
use Rattle.rx_visit.proofs.class.+class.Goals.{walk_character_class-then-enter_node+else-loop-contents-test, walk_character_class-else-enter_node, walk_character_class_contents-then-enter_node, walk_character_class_contents-else-enter_node}

pub walk_character_class-loop-contents-init : goal.walk_character_class-loop-contents-init
walk_character_class-loop-contents-init g t c = none _

pub walk_character_class-walk_character_class_contents-requires : goal.walk_character_class-walk_character_class_contents-requires
walk_character_class-walk_character_class_contents-requires g t c = λ κs within.
    (omega (arith, ap all_contents_size c.as_slice-all_contents.ensures, contents_within c.as_slice-all_contents.result.now c.loop-contents.contents-index c.contents-item.result c.loop-contents-test.true c.contents-item.is), search rules)

pub walk_character_class-loop-contents-preserved : goal.walk_character_class-loop-contents-preserved
walk_character_class-loop-contents-preserved g t c = turned contents_kind c.as_slice-all_contents.result.now c.loop-contents.contents-index c.contents-item.result c.loop-contents-test.true c.contents-item.is c.loop-contents.invariant c.walk_character_class_contents.ensures

pub walk_character_class-returns : goal.walk_character_class-returns
walk_character_class-returns g t c = elim c.if-enter_node.branch [
  | walk_character_class-then-enter_node+else-loop-contents-test w ↦ descended _ c.enter_node.result _ _ _ (in_class c.args.it.now _ c.as_slice-all_contents.ensures) w.if-enter_node.true c.enter_node.ensures
      (looped contents_kind c.as_slice-all_contents.result.now _ w.loop-contents-test.false w.loop-contents.invariant) w.visitor-is c.leave_node.ensures
  | walk_character_class-else-enter_node w ↦ passed c.enter_node.result _ _ w.if-enter_node.false c.enter_node.ensures w.visitor-is c.leave_node.ensures
]

pub walk_character_class_contents-returns : goal.walk_character_class_contents-returns
walk_character_class_contents-returns g t c = elim c.if-enter_node.branch [
  | walk_character_class_contents-then-enter_node w ↦ descended _ c.enter_node.result _ _ _ refl w.if-enter_node.true c.enter_node.ensures (one w.walk_in_contents.ensures) w.visitor-is c.leave_node.ensures
  | walk_character_class_contents-else-enter_node w ↦ passed c.enter_node.result _ _ w.if-enter_node.false c.enter_node.ensures w.visitor-is c.leave_node.ensures
]

pub walk_in_contents-returns-in-CharacterClassRange : goal.walk_in_contents-returns-in-CharacterClassRange
walk_in_contents-returns-in-CharacterClassRange g t c = visited_as (kind_of_contents c.in-CharacterClassRange.is (range_is c.in-CharacterClassRange.it) ∙ ap class_range (sym c.deref.ensures)) c.walk_character_class_range.ensures

pub walk_in_contents-returns-in-CharacterClassEscape : goal.walk_in_contents-returns-in-CharacterClassEscape
walk_in_contents-returns-in-CharacterClassEscape g t c = visited_as (kind_of_contents c.in-CharacterClassEscape.is (escape_is c.in-CharacterClassEscape.it)) c.walk_character_class_escape.ensures

pub walk_in_contents-returns-in-UnicodePropertyEscape : goal.walk_in_contents-returns-in-UnicodePropertyEscape
walk_in_contents-returns-in-UnicodePropertyEscape g t c = visited_as (kind_of_contents c.in-UnicodePropertyEscape.is (property_is c.in-UnicodePropertyEscape.it) ∙ ap property_escape (sym c.deref-in-UnicodePropertyEscape.ensures)) c.walk_unicode_property_escape.ensures

pub walk_in_contents-returns-in-Character : goal.walk_in_contents-returns-in-Character
walk_in_contents-returns-in-Character g t c = visited_as (kind_of_contents c.in-Character.is (character_is c.in-Character.it)) c.walk_character.ensures

pub walk_in_contents-returns-in-NestedCharacterClass : goal.walk_in_contents-returns-in-NestedCharacterClass
walk_in_contents-returns-in-NestedCharacterClass g t c = visited_as (kind_of_contents c.in-NestedCharacterClass.is (nested_is c.in-NestedCharacterClass.it) ∙ ap (λ x. class (mirror_class x)) (sym c.deref-in-NestedCharacterClass.ensures)) c.walk_character_class.ensures

pub walk_in_contents-returns-in-ClassStringDisjunction : goal.walk_in_contents-returns-in-ClassStringDisjunction
walk_in_contents-returns-in-ClassStringDisjunction g t c = visited_as (kind_of_contents c.in-ClassStringDisjunction.is (strings_is c.in-ClassStringDisjunction.it) ∙ ap string_disjunction (sym c.deref-in-ClassStringDisjunction.ensures)) c.walk_character_class_string_disjunction.ensures

pub walk_in_contents-walk_character_class-requires : goal.walk_in_contents-walk_character_class-requires
walk_in_contents-walk_character_class-requires g t c = λ κs within.
    (omega (arith, ap contents_size c.in-NestedCharacterClass.is ∙ size_of_nested c.in-NestedCharacterClass.it, ap (λ k. all_contents_size k.body) c.deref-in-NestedCharacterClass.ensures), search rules)
