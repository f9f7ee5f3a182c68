use Rattle.std.proofs.Common.{◌≡◌, refl, ap, ◌∙◌, ◌++◌, arith, rules, codes, map}
use Rattle.std.specs.Str.{chars}
use Rattle.std.proofs.lemmas.Str.{IsUtf8-nil}
use Rattle.rx_ast.specs.Size.{terms_size}
use Rattle.rx_ast.specs.Tree.{nodes, mirror_term}
use Rattle.rx_ast.proofs.Equations.{quantifier_is, disjunction_is, tree_of_capturing, tree_of_ignore, tree_of_look}
use Rattle.rx_ast.proofs.Sizes.{alternative_within, term_positive}
use Rattle.rx_base.specs.declared.ends.Failed.{Failed}
use Rattle.rx_base.proofs.Writing.{left_all, left_then, left_stop, left_none}
use Rattle.rx_model.specs.Spelling.Spelling.{node_text, nodes_text, alternatives_text, refers}
use Rattle.rx_tools.specs.declared.leaf.Rest.{Rest}
use Rattle.rx_tools.specs.Leaves.{rest_text}
use Rattle.rx_tools.specs.Utf8.{utf8}
use Rattle.rx_tools.proofs.Leaves.{fails_front, front_then, front_written, front_rest}
use Rattle.rx_tools.proofs.Pieces.{utf8-nil, same_text, text_next, text_then, text_stop, failed_from}
use Rattle.rx_ast.proofs.TermShown.{terms_cons}
use Rattle.rx_tools.proofs.Trees.{after_nothing, alternatives_next, alternatives_none}
use Rattle.rx_tools.proofs.recursive.+pattern.Goals as goal

pub write_alternatives-loop-alternative-init : goal.write_alternatives-loop-alternative-init
unfolding chars
write_alternatives-loop-alternative-init g t c = record { is_text = IsUtf8-nil; written = rw (← after_nothing c.args.mode _) (left_all _ _ _ _ _) }

pub write_alternatives-returns-in_err-write_str : goal.write_alternatives-returns-in_err-write_str
write_alternatives-returns-in_err-write_str g t c =
    let next = alternatives_next c.args.mode (chars c.loop-alternative.before.now) c.args.alternatives.now c.loop-alternative.alternative-index c.alternative-item.result c.loop-alternative-test.true c.alternative-item.is in
    left_stop _ c.loop-alternative.invariant.written (text_next _ (chars c.loop-alternative.before.now) _ next) c.in_err-write_str.ensures (failed_from _ _ c.from_residual.ensures.1)

pub write_alternatives-write_terms-requires : goal.write_alternatives-write_terms-requires
write_alternatives-write_terms-requires g t c = λ κs within.
    (omega (arith, ap terms_size c.as_slice.ensures, alternative_within c.args.alternatives.now c.loop-alternative.alternative-index c.alternative-item.result c.loop-alternative-test.true c.alternative-item.is), search rules)

pub write_alternatives-returns-in_err-write_terms : goal.write_alternatives-returns-in_err-write_terms
write_alternatives-returns-in_err-write_terms g t c =
    let next = alternatives_next c.args.mode (chars c.loop-alternative.before.now) c.args.alternatives.now c.loop-alternative.alternative-index c.alternative-item.result c.loop-alternative-test.true c.alternative-item.is in
    let past = left_then _ c.loop-alternative.invariant.written (text_next _ (chars c.loop-alternative.before.now) _ next) c.in_ok-write_str.ensures in
    left_stop _ past (text_next _ _ _ refl) (rw c.as_slice.ensures at c.in_err-write_terms.ensures) (failed_from _ _ c.from_residual-in_err-write_terms.ensures.1)

pub write_alternatives-loop-alternative-preserved : goal.write_alternatives-loop-alternative-preserved
unfolding chars
write_alternatives-loop-alternative-preserved g t c =
    let next = alternatives_next c.args.mode (chars c.loop-alternative.before.now) c.args.alternatives.now c.loop-alternative.alternative-index c.alternative-item.result c.loop-alternative-test.true c.alternative-item.is in
    let past = left_then _ c.loop-alternative.invariant.written (text_next _ (chars c.loop-alternative.before.now) _ next) c.in_ok-write_str.ensures in
    record {
      is_text = search rules;
      written = left_then _ past (text_next _ _ _ refl) (rw c.as_slice.ensures at c.in_ok-write_terms.ensures);
    }

pub write_alternatives-returns : goal.write_alternatives-returns
write_alternatives-returns g t c =
    left_none _ c.loop-alternative.invariant.written (ap utf8 (alternatives_none c.args.mode (chars c.loop-alternative.before.now) c.args.alternatives.now c.loop-alternative.alternative-index c.loop-alternative-test.false) ∙ utf8-nil)

pub write_group-returns-in_err-write_alternatives : goal.write_group-returns-in_err-write_alternatives
write_group-returns-in_err-write_alternatives g t c =
    same_text (ap (λ d. alternatives_text c.args.mode d.1 ++ codes ")") (disjunction_is c.args.body.now)) (text_stop _ _ (rw c.as_slice.ensures at c.in_err-write_alternatives.ensures) (failed_from _ _ c.from_residual.ensures.1))

pub write_group-returns : goal.write_group-returns
write_group-returns g t c = same_text (ap (λ d. alternatives_text c.args.mode d.1 ++ codes ")") (disjunction_is c.args.body.now)) (text_then _ (codes ")") (rw c.as_slice.ensures at c.in_ok-write_alternatives.ensures) c.write_char.ensures)

pub write_quantified-returns-in_err-write_term : goal.write_quantified-returns-in_err-write_term
write_quantified-returns-in_err-write_term g t c =
    same_text (ap (λ n. node_text c.args.mode c.args.after_reference n) (quantifier_is c.args.it.now)) (text_stop _ _ c.in_err-write_term.ensures (failed_from _ _ c.from_residual.ensures.1))

pub write_quantified-returns : goal.write_quantified-returns
write_quantified-returns g t c = same_text (ap (λ n. node_text c.args.mode c.args.after_reference n) (quantifier_is c.args.it.now)) (text_then _ _ c.in_ok-write_term.ensures c.write_quantifier.ensures)

pub write_term-returns-in_err-write_str-in-LookAroundAssertion : goal.write_term-returns-in_err-write_str-in-LookAroundAssertion
write_term-returns-in_err-write_str-in-LookAroundAssertion g t c =
    let is = ap (λ n. node_text c.args.mode c.args.after_reference n) (ap mirror_term c.in-LookAroundAssertion.is ∙ tree_of_look c.in-LookAroundAssertion.it) in
    same_text is (text_stop _ _ (rw (c.look_text.ensures, c.deref-in-LookAroundAssertion.ensures) at c.in_err-write_str-in-LookAroundAssertion.ensures) (failed_from _ _ c.from_residual.ensures.1))

pub write_term-returns-in_ok-write_str-in-LookAroundAssertion : goal.write_term-returns-in_ok-write_str-in-LookAroundAssertion
write_term-returns-in_ok-write_str-in-LookAroundAssertion g t c =
    let is = ap (λ n. node_text c.args.mode c.args.after_reference n) (ap mirror_term c.in-LookAroundAssertion.is ∙ tree_of_look c.in-LookAroundAssertion.it) in
    same_text is (text_then _ _ (rw (c.look_text.ensures, c.deref-in-LookAroundAssertion.ensures) at c.in_ok-write_str-in-LookAroundAssertion.ensures) (rw c.deref-in-LookAroundAssertion-2.ensures at c.write_group.ensures))

pub write_term-returns-in_err-write_capturing-in-CapturingGroup : goal.write_term-returns-in_err-write_capturing-in-CapturingGroup
write_term-returns-in_err-write_capturing-in-CapturingGroup g t c =
    let is = ap (λ n. node_text c.args.mode c.args.after_reference n) (ap mirror_term c.in-CapturingGroup.is ∙ tree_of_capturing c.in-CapturingGroup.it) in
    same_text is (text_stop _ _ (rw c.deref-in-CapturingGroup.ensures at c.in_err-write_capturing-in-CapturingGroup.ensures) (failed_from _ _ c.from_residual-in_err-write_capturing-in-CapturingGroup.ensures.1))

pub write_term-returns-in_ok-write_capturing-in-CapturingGroup : goal.write_term-returns-in_ok-write_capturing-in-CapturingGroup
write_term-returns-in_ok-write_capturing-in-CapturingGroup g t c =
    let is = ap (λ n. node_text c.args.mode c.args.after_reference n) (ap mirror_term c.in-CapturingGroup.is ∙ tree_of_capturing c.in-CapturingGroup.it) in
    same_text is (text_then _ _ (rw c.deref-in-CapturingGroup.ensures at c.in_ok-write_capturing-in-CapturingGroup.ensures) (rw c.deref-in-CapturingGroup-2.ensures at c.write_group-in-CapturingGroup.ensures))

pub write_term-returns-in_err-write_ignoring-in-IgnoreGroup : goal.write_term-returns-in_err-write_ignoring-in-IgnoreGroup
write_term-returns-in_err-write_ignoring-in-IgnoreGroup g t c =
    let is = ap (λ n. node_text c.args.mode c.args.after_reference n) (ap mirror_term c.in-IgnoreGroup.is ∙ tree_of_ignore c.in-IgnoreGroup.it) in
    same_text is (text_stop _ _ (rw c.deref-in-IgnoreGroup.ensures at c.in_err-write_ignoring-in-IgnoreGroup.ensures) (failed_from _ _ c.from_residual-in_err-write_ignoring-in-IgnoreGroup.ensures.1))

pub write_term-returns-in_ok-write_ignoring-in-IgnoreGroup : goal.write_term-returns-in_ok-write_ignoring-in-IgnoreGroup
write_term-returns-in_ok-write_ignoring-in-IgnoreGroup g t c =
    let is = ap (λ n. node_text c.args.mode c.args.after_reference n) (ap mirror_term c.in-IgnoreGroup.is ∙ tree_of_ignore c.in-IgnoreGroup.it) in
    same_text is (text_then _ _ (rw c.deref-in-IgnoreGroup.ensures at c.in_ok-write_ignoring-in-IgnoreGroup.ensures) (rw c.deref-in-IgnoreGroup-2.ensures at c.write_group-in-IgnoreGroup.ensures))

pub write_terms-write_term-requires : goal.write_terms-write_term-requires
write_terms-write_term-requires g t c = λ κs within.
    (omega (arith, c.loop-term.invariant.smaller, ap terms_size c.in-Some.ensures.cases.0 ∙ terms_cons c.in-Some.term.now c.in-Some.others.now), search rules)

pub write_terms-returns-in_err-write_term : goal.write_terms-returns-in_err-write_term
write_terms-returns-in_err-write_term g t c =
    let rest = c.loop-term.rest in
    let first = mirror_term c.in-Some.term.now in
    let after = nodes_text c.args.mode (refers first) (nodes (map mirror_term c.in-Some.others.now)) in
    let cut : rest_text c.args.mode rest ≡ node_text c.args.mode rest.after_reference first ++ after = rw c.in-Some.ensures.cases.0 refl in
    front_rest c.loop-term.invariant.written (same_text cut (text_stop (node_text c.args.mode rest.after_reference first) after c.in_err-write_term.ensures (failed_from _ _ c.from_residual-in_err-write_term.ensures.1)))

pub write_terms-returns-in_err-rest-2 : goal.write_terms-returns-in_err-rest-2
write_terms-returns-in_err-rest-2 g t c =
    let rest = c.loop-term.rest in
    let first = node_text c.args.mode rest.after_reference (mirror_term c.in-Some.term.now) in
    let following : Rest = record { after_reference = c.refers.result; terms = c.in-Some.others } in
    let cut : rest_text c.args.mode rest ≡ first ++ rest_text c.args.mode following = rw (c.in-Some.ensures.cases.0, c.refers.ensures) refl in
    front_rest (front_then {later_text = rest_text c.args.mode} c.loop-term.invariant.written (front_written {F = Failed} following first c.in_ok-write_term.ensures cut)) (fails_front c.in_err-rest-2.ensures.written (failed_from _ _ c.from_residual-in_err-rest-2.ensures.1))

pub write_terms-loop-term-smaller : goal.write_terms-loop-term-smaller
write_terms-loop-term-smaller g t c =
    omega (arith, c.in_ok-rest-2.ensures.smaller, term_positive c.in-Some.term.now, ap terms_size c.in-Some.ensures.cases.0 ∙ terms_cons c.in-Some.term.now c.in-Some.others.now)

pub write_terms-loop-term-preserved : goal.write_terms-loop-term-preserved
write_terms-loop-term-preserved g t c =
    let rest = c.loop-term.rest in
    let first = node_text c.args.mode rest.after_reference (mirror_term c.in-Some.term.now) in
    let following : Rest = record { after_reference = c.refers.result; terms = c.in-Some.others } in
    let cut : rest_text c.args.mode rest ≡ first ++ rest_text c.args.mode following = rw (c.in-Some.ensures.cases.0, c.refers.ensures) refl in
    record {
      written = front_then (front_then {later_text = rest_text c.args.mode} c.loop-term.invariant.written (front_written {F = Failed} following first c.in_ok-write_term.ensures cut)) c.in_ok-rest-2.ensures.written;
      smaller = omega (arith, c.loop-term.invariant.smaller, c.in_ok-rest-2.ensures.smaller, ap terms_size c.in-Some.ensures.cases.0 ∙ terms_cons c.in-Some.term.now c.in-Some.others.now);
    }
