use Rattle.std.proofs.Common.{refl, ap, sym, ◌∙◌, rules, arith}
use Rattle.rx_ast.specs.Kinds.{named_reference, property_escape}
use Rattle.rx_ast.specs.MirrorKinds.{capturing_kind, ignore_kind, look_kind, quantifier_kind}
use Rattle.rx_ast.specs.Size.{term_size, terms_size, all_alternatives_size, disjunction_size}
use Rattle.rx_ast.specs.declared.term.CapturingGroup.{out-CapturingGroup}
use Rattle.rx_ast.specs.declared.term.IgnoreGroup.{out-IgnoreGroup}
use Rattle.rx_ast.specs.declared.term.LookAroundAssertion.{out-LookAroundAssertion}
use Rattle.rx_ast.proofs.Equations.{boundary_is, character_is, dot_is, escape_is, indexed_is, named_is, property_is, tree_of_capturing, tree_of_ignore, tree_of_look, tree_of_quantifier}
use Rattle.rx_ast.proofs.Sizes.{size_of_capturing, size_of_disjunction, size_of_ignore, size_of_look, size_of_quantifier, alternative_within, term_within}
use Rattle.rx_visit.specs.Visits.{none}
use Rattle.rx_visit.specs.Siblings.{term_kind, alternative_kind}
use Rattle.rx_visit.proofs.Children.{in_alternative, in_disjunction, kind_of_term}
use Rattle.rx_visit.proofs.Walks.{descended, passed, one, turned, looped, visited_as}
use Rattle.rx_visit.proofs.term.+term.Goals as goal
use Rattle.rx_visit.proofs.term.+term.Goals.{visit_around-then-enter_node, visit_around-else-enter_node, walk_disjunction-then-enter_node+else-loop-alternative-test, walk_disjunction-else-enter_node, walk_alternative-then-enter_node+else-loop-term-test, walk_alternative-else-enter_node, walk_term-then-enter_node, walk_term-else-enter_node, walk_quantifier-then-enter_node, walk_quantifier-else-enter_node}

pub visit_around-returns : goal.visit_around-returns
visit_around-returns g t c = elim c.if-enter_node.branch [
  | visit_around-then-enter_node w ↦ descended _ c.enter_node.result _ _ _ c.requires w.if-enter_node.true c.enter_node.ensures (one w.walk_disjunction.ensures) w.visitor-is c.leave_node.ensures
  | visit_around-else-enter_node w ↦ passed c.enter_node.result _ _ w.if-enter_node.false c.enter_node.ensures w.visitor-is c.leave_node.ensures
]

pub walk_disjunction-loop-alternative-init : goal.walk_disjunction-loop-alternative-init
walk_disjunction-loop-alternative-init g t c = none _

pub walk_disjunction-walk_alternative-requires : goal.walk_disjunction-walk_alternative-requires
walk_disjunction-walk_alternative-requires g t c = λ κs within.
    (omega (arith, size_of_disjunction c.args.it.now, ap all_alternatives_size c.as_slice-alternatives.ensures, alternative_within c.as_slice-alternatives.result.now c.loop-alternative.alternative-index c.alternative-item.result c.loop-alternative-test.true c.alternative-item.is), search rules)

pub walk_disjunction-loop-alternative-preserved : goal.walk_disjunction-loop-alternative-preserved
walk_disjunction-loop-alternative-preserved g t c = turned alternative_kind c.as_slice-alternatives.result.now c.loop-alternative.alternative-index c.alternative-item.result c.loop-alternative-test.true c.alternative-item.is c.loop-alternative.invariant c.walk_alternative.ensures

pub walk_disjunction-returns : goal.walk_disjunction-returns
walk_disjunction-returns g t c = elim c.if-enter_node.branch [
  | walk_disjunction-then-enter_node+else-loop-alternative-test w ↦ descended _ c.enter_node.result _ _ _ (in_disjunction c.args.it.now _ c.as_slice-alternatives.ensures) w.if-enter_node.true c.enter_node.ensures
      (looped alternative_kind c.as_slice-alternatives.result.now _ w.loop-alternative-test.false w.loop-alternative.invariant) w.visitor-is c.leave_node.ensures
  | walk_disjunction-else-enter_node w ↦ passed c.enter_node.result _ _ w.if-enter_node.false c.enter_node.ensures w.visitor-is c.leave_node.ensures
]

pub walk_alternative-loop-term-init : goal.walk_alternative-loop-term-init
walk_alternative-loop-term-init g t c = none _

pub walk_alternative-walk_term-requires : goal.walk_alternative-walk_term-requires
walk_alternative-walk_term-requires g t c = λ κs within.
    (omega (arith, ap terms_size c.as_slice-terms.ensures, term_within c.as_slice-terms.result.now c.loop-term.term-index c.term-item.result c.loop-term-test.true c.term-item.is), search rules)

pub walk_alternative-loop-term-preserved : goal.walk_alternative-loop-term-preserved
walk_alternative-loop-term-preserved g t c = turned term_kind c.as_slice-terms.result.now c.loop-term.term-index c.term-item.result c.loop-term-test.true c.term-item.is c.loop-term.invariant c.walk_term.ensures

pub walk_alternative-returns : goal.walk_alternative-returns
walk_alternative-returns g t c = elim c.if-enter_node.branch [
  | walk_alternative-then-enter_node+else-loop-term-test w ↦ descended _ c.enter_node.result _ _ _ (in_alternative c.args.it.now _ c.as_slice-terms.ensures) w.if-enter_node.true c.enter_node.ensures
      (looped term_kind c.as_slice-terms.result.now _ w.loop-term-test.false w.loop-term.invariant) w.visitor-is c.leave_node.ensures
  | walk_alternative-else-enter_node w ↦ passed c.enter_node.result _ _ w.if-enter_node.false c.enter_node.ensures w.visitor-is c.leave_node.ensures
]

pub walk_term-returns : goal.walk_term-returns
walk_term-returns g t c = elim c.if-enter_node.branch [
  | walk_term-then-enter_node w ↦ descended _ c.enter_node.result _ _ _ refl w.if-enter_node.true c.enter_node.ensures (one w.walk_in_term.ensures) w.visitor-is c.leave_node.ensures
  | walk_term-else-enter_node w ↦ passed c.enter_node.result _ _ w.if-enter_node.false c.enter_node.ensures w.visitor-is c.leave_node.ensures
]

pub walk_quantifier-returns : goal.walk_quantifier-returns
walk_quantifier-returns g t c = elim c.if-enter_node.branch [
  | walk_quantifier-then-enter_node w ↦ descended _ c.enter_node.result _ _ _ refl w.if-enter_node.true c.enter_node.ensures (one w.walk_term.ensures) w.visitor-is c.leave_node.ensures
  | walk_quantifier-else-enter_node w ↦ passed c.enter_node.result _ _ w.if-enter_node.false c.enter_node.ensures w.visitor-is c.leave_node.ensures
]

pub walk_in_term-returns-in-BoundaryAssertion : goal.walk_in_term-returns-in-BoundaryAssertion
walk_in_term-returns-in-BoundaryAssertion g t c = visited_as (kind_of_term c.in-BoundaryAssertion.is (boundary_is c.in-BoundaryAssertion.it)) c.walk_boundary_assertion.ensures

pub walk_in_term-returns-in-LookAroundAssertion : goal.walk_in_term-returns-in-LookAroundAssertion
walk_in_term-returns-in-LookAroundAssertion g t c = visited_as (kind_of_term c.in-LookAroundAssertion.is (tree_of_look c.in-LookAroundAssertion.it) ∙ ap look_kind (sym c.deref.ensures)) c.walk_lookaround_assertion.ensures

pub walk_in_term-returns-in-Quantifier : goal.walk_in_term-returns-in-Quantifier
walk_in_term-returns-in-Quantifier g t c = visited_as (kind_of_term c.in-Quantifier.is (tree_of_quantifier c.in-Quantifier.it) ∙ ap quantifier_kind (sym c.deref-in-Quantifier.ensures)) c.walk_quantifier.ensures

pub walk_in_term-returns-in-Character : goal.walk_in_term-returns-in-Character
walk_in_term-returns-in-Character g t c = visited_as (kind_of_term c.in-Character.is (character_is c.in-Character.it)) c.walk_character.ensures

pub walk_in_term-returns-in-Dot : goal.walk_in_term-returns-in-Dot
walk_in_term-returns-in-Dot g t c = visited_as (kind_of_term c.in-Dot.is (dot_is c.in-Dot.it)) c.walk_dot.ensures

pub walk_in_term-returns-in-CharacterClassEscape : goal.walk_in_term-returns-in-CharacterClassEscape
walk_in_term-returns-in-CharacterClassEscape g t c = visited_as (kind_of_term c.in-CharacterClassEscape.is (escape_is c.in-CharacterClassEscape.it)) c.walk_character_class_escape.ensures

pub walk_in_term-returns-in-UnicodePropertyEscape : goal.walk_in_term-returns-in-UnicodePropertyEscape
walk_in_term-returns-in-UnicodePropertyEscape g t c = visited_as (kind_of_term c.in-UnicodePropertyEscape.is (property_is c.in-UnicodePropertyEscape.it) ∙ ap property_escape (sym c.deref-in-UnicodePropertyEscape.ensures)) c.walk_unicode_property_escape.ensures

pub walk_in_term-returns-in-CapturingGroup : goal.walk_in_term-returns-in-CapturingGroup
walk_in_term-returns-in-CapturingGroup g t c = visited_as (kind_of_term c.in-CapturingGroup.is (tree_of_capturing c.in-CapturingGroup.it) ∙ ap capturing_kind (sym c.deref-in-CapturingGroup.ensures)) c.walk_capturing_group.ensures

pub walk_in_term-returns-in-IgnoreGroup : goal.walk_in_term-returns-in-IgnoreGroup
walk_in_term-returns-in-IgnoreGroup g t c = visited_as (kind_of_term c.in-IgnoreGroup.is (tree_of_ignore c.in-IgnoreGroup.it) ∙ ap ignore_kind (sym c.deref-in-IgnoreGroup.ensures)) c.walk_ignore_group.ensures

pub walk_in_term-returns-in-IndexedReference : goal.walk_in_term-returns-in-IndexedReference
walk_in_term-returns-in-IndexedReference g t c = visited_as (kind_of_term c.in-IndexedReference.is (indexed_is c.in-IndexedReference.it)) c.walk_indexed_reference.ensures

pub walk_in_term-returns-in-NamedReference : goal.walk_in_term-returns-in-NamedReference
walk_in_term-returns-in-NamedReference g t c = visited_as (kind_of_term c.in-NamedReference.is (named_is c.in-NamedReference.it) ∙ ap named_reference (sym c.deref-in-NamedReference.ensures)) c.walk_named_reference.ensures

pub walk_in_term-walk_lookaround_assertion-requires : goal.walk_in_term-walk_lookaround_assertion-requires
walk_in_term-walk_lookaround_assertion-requires g t c = λ κs within.
    (omega (arith, ap term_size c.in-LookAroundAssertion.is ∙ size_of_look c.in-LookAroundAssertion.it, ap (λ k. disjunction_size (out-LookAroundAssertion k).body) c.deref.ensures), search rules)

pub walk_in_term-walk_quantifier-requires : goal.walk_in_term-walk_quantifier-requires
walk_in_term-walk_quantifier-requires g t c = λ κs within.
    (omega (arith, ap term_size c.in-Quantifier.is ∙ size_of_quantifier c.in-Quantifier.it, ap (λ k. term_size k.body) c.deref-in-Quantifier.ensures), search rules)

pub walk_in_term-walk_capturing_group-requires : goal.walk_in_term-walk_capturing_group-requires
walk_in_term-walk_capturing_group-requires g t c = λ κs within.
    (omega (arith, ap term_size c.in-CapturingGroup.is ∙ size_of_capturing c.in-CapturingGroup.it, ap (λ k. disjunction_size (out-CapturingGroup k).body) c.deref-in-CapturingGroup.ensures), search rules)

pub walk_in_term-walk_ignore_group-requires : goal.walk_in_term-walk_ignore_group-requires
walk_in_term-walk_ignore_group-requires g t c = λ κs within.
    (omega (arith, ap term_size c.in-IgnoreGroup.is ∙ size_of_ignore c.in-IgnoreGroup.it, ap (λ k. disjunction_size (out-IgnoreGroup k).body) c.deref-in-IgnoreGroup.ensures), search rules)
