use Rattle.std.proofs.Common.{refl, ap, sym, ◌∙◌, ◌++◌, arith, rules, codes, map}
use Rattle.std.specs.Str.{chars}
use Rattle.std.proofs.lemmas.Str.{IsUtf8-nil}
use Rattle.rx_ast.specs.Shown.{alternatives_shown, node_shown, nodes_shown}
use Rattle.rx_ast.specs.ClassTree.{mirror_class}
use Rattle.rx_ast.specs.Size.{disjunction_size, term_size, terms_size}
use Rattle.rx_ast.specs.Tree as tree
use Rattle.rx_ast.specs.Tree.{alternatives, leaf, mirror_alternative, mirror_capturing, mirror_ignore, mirror_look, mirror_quantifier, mirror_term, nodes}
use Rattle.rx_ast.specs.Texts.{look_text}
use Rattle.rx_ast.specs.declared.term.CapturingGroup.{out-CapturingGroup}
use Rattle.rx_ast.specs.declared.term.IgnoreGroup.{out-IgnoreGroup}
use Rattle.rx_ast.specs.declared.term.LookAroundAssertion.{out-LookAroundAssertion}
use Rattle.rx_ast.proofs.Equations.{boundary_is, capturing_is, capturing_term_is, character_is, class_is, disjunction_is, dot_is, escape_is, ignore_is, ignore_term_is, indexed_is, look_is, look_term_is, named_is, property_is, quantifier_is, quantifier_term_is}
use Rattle.rx_ast.proofs.Sizes.{alternative_within, size_of_capturing, size_of_ignore, size_of_look, size_of_quantifier}
use Rattle.rx_ast.proofs.FormatterWrites.{left_all, left_same, left_then, same_shown, shown_then}
use Rattle.rx_ast.proofs.TermShown.{alternatives_next, after_nothing, term_shown, terms_cons, terms_next}
use Rattle.rx_ast.proofs.display.term.+pattern.Goals as goal

pub write_alternatives-loop-alternative-init : goal.write_alternatives-loop-alternative-init
unfolding chars
write_alternatives-loop-alternative-init g t c = record {
  is_text = IsUtf8-nil;
  written = left_same _ (left_all _ _) (after_nothing (alternatives (map mirror_alternative c.args.alternatives.now)));
}

pub write_alternatives-write_terms-requires : goal.write_alternatives-write_terms-requires
write_alternatives-write_terms-requires g t c = λ κs within.
    (omega (arith, ap terms_size c.as_slice.ensures, alternative_within c.args.alternatives.now c.loop-alternative.alternative-index c.alternative-item.result c.loop-alternative-test.true c.alternative-item.is), search rules)

pub write_alternatives-loop-alternative-preserved : goal.write_alternatives-loop-alternative-preserved
unfolding chars
write_alternatives-loop-alternative-preserved g t c =
    let before = chars c.loop-alternative.before.now in
    let next = alternatives_next before c.args.alternatives.now c.loop-alternative.alternative-index c.alternative-item.result c.loop-alternative-test.true c.alternative-item.is in
    let past = left_then before _ c.loop-alternative.invariant.written next c.in_ok-write_text.ensures in
    record {
      is_text = search rules;
      written = left_then _ _ past refl (rw c.as_slice.ensures at c.in_ok-write_terms.ensures);
    }

pub write_capturing_group-returns : goal.write_capturing_group-returns
write_capturing_group-returns g t c = same_shown _ (ap (λ n. node_shown n) (capturing_is c.args.it.now)) (shown_then _ _ _ c.in_ok-write_capturing.ensures c.write_group.ensures)

pub write_ignore_group-returns : goal.write_ignore_group-returns
write_ignore_group-returns g t c = same_shown _ (ap (λ n. node_shown n) (ignore_is c.args.it.now)) (shown_then _ _ _ c.in_ok-write_ignoring.ensures c.write_group.ensures)

pub write_look_around-returns : goal.write_look_around-returns
write_look_around-returns g t c =
    same_shown _ (ap (λ n. node_shown n) (look_is c.args.it.now)) (shown_then _ (look_text (out-LookAroundAssertion c.args.it.now).kind) _ (rw c.look_text.ensures at c.in_ok-write_text.ensures) c.write_group.ensures)

pub write_quantified-returns : goal.write_quantified-returns
write_quantified-returns g t c = same_shown _ (ap (λ n. node_shown n) (quantifier_is c.args.it.now)) (shown_then _ _ _ c.in_ok-write_term.ensures c.write_suffix.ensures)

pub write_group-returns : goal.write_group-returns
unfolding chars
write_group-returns g t c =
    same_shown _ (ap (λ d. alternatives_shown d.1 ++ codes ")") (disjunction_is c.args.body.now)) (shown_then _ _ (codes ")") (rw c.as_slice.ensures at c.in_ok-write_alternatives.ensures) c.write_text.ensures)

pub write_terms-write_unless_joined-requires : goal.write_terms-write_unless_joined-requires
write_terms-write_unless_joined-requires g t c = λ κs within.
    (omega (arith, c.loop-term.invariant.smaller, ap terms_size c.in-Some.ensures.cases.0 ∙ terms_cons c.in-Some.term.now c.in-Some.others.now), search rules)

pub write_terms-loop-term-preserved : goal.write_terms-loop-term-preserved
write_terms-loop-term-preserved g t c =
    let loop = c.loop-term in
    let first = c.in-Some.term.now in
    let others = c.in-Some.others.now in
    let cut = ap (λ ts. nodes_shown loop.joined (nodes (map mirror_term ts))) c.in-Some.ensures.cases.0 ∙ terms_next loop.joined c.term_pair-pair.result first others c.term_pair-pair.ensures in
    record {
      written = rw c.is_some-joined.ensures (left_then _ _ loop.invariant.written cut c.in_ok-write_unless_joined.ensures);
      smaller = omega (arith, loop.invariant.smaller, ap terms_size c.in-Some.ensures.cases.0 ∙ terms_cons first others);
    }

pub write_term-returns-in-BoundaryAssertion : goal.write_term-returns-in-BoundaryAssertion
write_term-returns-in-BoundaryAssertion g t c = same_shown _ (term_shown c.in-BoundaryAssertion.is (boundary_is c.in-BoundaryAssertion.it)) c.fmt.ensures.writes

pub write_term-returns-in-Character : goal.write_term-returns-in-Character
write_term-returns-in-Character g t c = same_shown _ (term_shown c.in-Character.is (character_is c.in-Character.it)) c.fmt-in-Character.ensures.writes

pub write_term-returns-in-Dot : goal.write_term-returns-in-Dot
write_term-returns-in-Dot g t c = same_shown _ (term_shown c.in-Dot.is (dot_is c.in-Dot.it)) c.fmt-in-Dot.ensures.writes

pub write_term-returns-in-CharacterClassEscape : goal.write_term-returns-in-CharacterClassEscape
write_term-returns-in-CharacterClassEscape g t c = same_shown _ (term_shown c.in-CharacterClassEscape.is (escape_is c.in-CharacterClassEscape.it)) c.fmt-in-CharacterClassEscape.ensures.writes

pub write_term-returns-in-IndexedReference : goal.write_term-returns-in-IndexedReference
write_term-returns-in-IndexedReference g t c = same_shown _ (term_shown c.in-IndexedReference.is (indexed_is c.in-IndexedReference.it)) c.fmt-in-IndexedReference.ensures.writes

pub write_term-returns-in-UnicodePropertyEscape : goal.write_term-returns-in-UnicodePropertyEscape
write_term-returns-in-UnicodePropertyEscape g t c = same_shown _ (term_shown c.in-UnicodePropertyEscape.is (property_is c.in-UnicodePropertyEscape.it ∙ ap (λ x. leaf (tree.property x)) (sym c.deref-in-UnicodePropertyEscape.ensures))) c.fmt-in-UnicodePropertyEscape.ensures.writes

pub write_term-returns-in-NamedReference : goal.write_term-returns-in-NamedReference
write_term-returns-in-NamedReference g t c = same_shown _ (term_shown c.in-NamedReference.is (named_is c.in-NamedReference.it ∙ ap (λ x. leaf (tree.named x)) (sym c.deref-in-NamedReference.ensures))) c.fmt-in-NamedReference.ensures.writes

pub write_term-returns-in-CharacterClass : goal.write_term-returns-in-CharacterClass
write_term-returns-in-CharacterClass g t c = same_shown _ (term_shown c.in-CharacterClass.is (class_is c.in-CharacterClass.it ∙ ap (λ x. leaf (tree.class (mirror_class x))) (sym c.deref-in-CharacterClass.ensures))) c.write_class.ensures

pub write_term-returns-in-LookAroundAssertion : goal.write_term-returns-in-LookAroundAssertion
write_term-returns-in-LookAroundAssertion g t c = same_shown _ (term_shown c.in-LookAroundAssertion.is (look_term_is c.in-LookAroundAssertion.it ∙ ap (mirror_look) (sym c.deref.ensures))) c.write_look_around.ensures

pub write_term-returns-in-Quantifier : goal.write_term-returns-in-Quantifier
write_term-returns-in-Quantifier g t c = same_shown _ (term_shown c.in-Quantifier.is (quantifier_term_is c.in-Quantifier.it ∙ ap (mirror_quantifier) (sym c.deref-in-Quantifier.ensures))) c.write_quantified.ensures

pub write_term-returns-in-CapturingGroup : goal.write_term-returns-in-CapturingGroup
write_term-returns-in-CapturingGroup g t c = same_shown _ (term_shown c.in-CapturingGroup.is (capturing_term_is c.in-CapturingGroup.it ∙ ap (mirror_capturing) (sym c.deref-in-CapturingGroup.ensures))) c.write_capturing_group.ensures

pub write_term-returns-in-IgnoreGroup : goal.write_term-returns-in-IgnoreGroup
write_term-returns-in-IgnoreGroup g t c = same_shown _ (term_shown c.in-IgnoreGroup.is (ignore_term_is c.in-IgnoreGroup.it ∙ ap (mirror_ignore) (sym c.deref-in-IgnoreGroup.ensures))) c.write_ignore_group.ensures

pub write_term-write_look_around-requires : goal.write_term-write_look_around-requires
write_term-write_look_around-requires g t c = λ κs within.
    (omega (arith, ap term_size c.in-LookAroundAssertion.is ∙ size_of_look c.in-LookAroundAssertion.it, ap (λ k. disjunction_size (out-LookAroundAssertion k).body) c.deref.ensures), search rules)

pub write_term-write_quantified-requires : goal.write_term-write_quantified-requires
write_term-write_quantified-requires g t c = λ κs within.
    (omega (arith, ap term_size c.in-Quantifier.is ∙ size_of_quantifier c.in-Quantifier.it, ap (λ k. term_size k.body) c.deref-in-Quantifier.ensures), search rules)

pub write_term-write_capturing_group-requires : goal.write_term-write_capturing_group-requires
write_term-write_capturing_group-requires g t c = λ κs within.
    (omega (arith, ap term_size c.in-CapturingGroup.is ∙ size_of_capturing c.in-CapturingGroup.it, ap (λ k. disjunction_size (out-CapturingGroup k).body) c.deref-in-CapturingGroup.ensures), search rules)

pub write_term-write_ignore_group-requires : goal.write_term-write_ignore_group-requires
write_term-write_ignore_group-requires g t c = λ κs within.
    (omega (arith, ap term_size c.in-IgnoreGroup.is ∙ size_of_ignore c.in-IgnoreGroup.it, ap (λ k. disjunction_size (out-IgnoreGroup k).body) c.deref-in-IgnoreGroup.ensures), search rules)
