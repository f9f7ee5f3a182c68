use Rattle.std.proofs.Common.{◌≡◌, ◌+◌, ◌++◌, ◌∷◌, [], refl, ap, sym, subst, ◌∙◌, None, Some, map}
use Rattle.std.specs.Prelude.{MatchOption}
use Rattle.rx_ast.specs.ClassTree.{members, mirror_class, mirror_contents}
use Rattle.rx_ast.specs.declared.term.Disjunction.{out-Disjunction}
use Rattle.rx_ast.specs.declared.term.CapturingGroup.{out-CapturingGroup}
use Rattle.rx_ast.specs.declared.term.IgnoreGroup.{out-IgnoreGroup}
use Rattle.rx_ast.specs.declared.term.LookAroundAssertion.{out-LookAroundAssertion}
use Rattle.rx_ast.specs.Tree as tree
use Rattle.rx_ast.specs.Tree.{leaf, alternatives, mirror_term, mirror_alternative, mirror_look, mirror_quantifier}
use Rattle.rx_ast.proofs.Equations.{boundary_is, character_is, dot_is, escape_is, property_is, class_is, indexed_is, named_is, look_term_is, look_is, capturing_term_is, capturing_is, ignore_term_is, ignore_is, quantifier_term_is, quantifier_is, disjunction_is}
use Rattle.rx_ast.proofs.ClassEquations as in_class
use Rattle.rx_program.specs.declared.survey.Rest.TheVariants as rest
use Rattle.rx_program.specs.declared.survey.Surveyor.{Surveyor}
use Rattle.rx_trace.specs.Supported.{unsupported_modifiers}
use Rattle.rx_program.specs.SurveyState.{unsupported_node, unsupported_members, members_looks}
use Rattle.rx_program.proofs.Looking.{looked_leaf, looked_in_leaf, looked_quantified, looked_looking, looked_capturing, looked_ignoring, looked_body, ignored_refused, none_refused, is_none}
use Rattle.rx_program.proofs.survey.Surveyor.look_at_term.Goals as goal

pub returns-in-BoundaryAssertion : goal.returns-in-BoundaryAssertion
returns-in-BoundaryAssertion c = looked_leaf c.args.self.now (mirror_term c.args.term.now) (tree.boundary c.in-BoundaryAssertion.field-0) (ap mirror_term c.in-BoundaryAssertion.is ∙ boundary_is c.in-BoundaryAssertion.field-0) refl

pub returns-in-Character : goal.returns-in-Character
returns-in-Character c = looked_leaf c.args.self.now (mirror_term c.args.term.now) (tree.character c.in-Character.field-0) (ap mirror_term c.in-Character.is ∙ character_is c.in-Character.field-0) refl

pub returns-in-Dot : goal.returns-in-Dot
returns-in-Dot c = looked_leaf c.args.self.now (mirror_term c.args.term.now) (tree.dot c.in-Dot.field-0) (ap mirror_term c.in-Dot.is ∙ dot_is c.in-Dot.field-0) refl

pub returns-in-CharacterClassEscape : goal.returns-in-CharacterClassEscape
returns-in-CharacterClassEscape c = looked_leaf c.args.self.now (mirror_term c.args.term.now) (tree.class_escape c.in-CharacterClassEscape.field-0) (ap mirror_term c.in-CharacterClassEscape.is ∙ escape_is c.in-CharacterClassEscape.field-0) refl

pub returns-in-IndexedReference : goal.returns-in-IndexedReference
returns-in-IndexedReference c = looked_leaf c.args.self.now (mirror_term c.args.term.now) (tree.indexed c.in-IndexedReference.field-0) (ap mirror_term c.in-IndexedReference.is ∙ indexed_is c.in-IndexedReference.field-0) refl

pub returns-in-NamedReference : goal.returns-in-NamedReference
returns-in-NamedReference c = looked_leaf c.args.self.now (mirror_term c.args.term.now) (tree.named c.in-NamedReference.field-0.value) (ap mirror_term c.in-NamedReference.is ∙ named_is c.in-NamedReference.field-0) refl

pub returns-in-UnicodePropertyEscape : goal.returns-in-UnicodePropertyEscape
returns-in-UnicodePropertyEscape c = ap (λ k. unsupported_node (mirror_term k)) c.in-UnicodePropertyEscape.is ∙ ap unsupported_node (property_is c.in-UnicodePropertyEscape.it) ∙ ap (λ p. Some p.span) (sym c.deref-in-UnicodePropertyEscape.ensures)

pub returns-in_ok-push_rest-in-CharacterClass : goal.returns-in_ok-push_rest-in-CharacterClass
returns-in_ok-push_rest-in-CharacterClass c =
    let k = c.deref-in-CharacterClass.result.now in
    let inside = members (map mirror_contents c.as_slice-in-CharacterClass.result.now) in
    let is = ap mirror_term c.in-CharacterClass.is ∙ class_is c.in-CharacterClass.it ∙ ap (λ b. leaf (tree.class (mirror_class b))) (sym c.deref-in-CharacterClass.ensures) in
    looked_in_leaf c.args.self.now c.push_rest-in-CharacterClass.new.self (mirror_term c.args.term.now) (tree.class (mirror_class k)) (rest.Contents c.as_slice-in-CharacterClass.result) (1 + members_looks inside) is
    (record { refuses = ap (λ b. unsupported_members (members (map mirror_contents b))) c.as_slice-in-CharacterClass.ensures ∙ sym (ap Rattle.rx_program.specs.SurveyState.unsupported_class (in_class.class_is k)); named = refl; few = refl })
    (ap (λ b. 1 + members_looks (members (map mirror_contents b))) c.as_slice-in-CharacterClass.ensures ∙ sym (ap (λ x. 1 + Rattle.rx_program.specs.SurveyState.class_looks x) (in_class.class_is k))) c.in_ok-push_rest-in-CharacterClass.ensures

pub returns-in_ok-push_rest-in-Quantifier : goal.returns-in_ok-push_rest-in-Quantifier
returns-in_ok-push_rest-in-Quantifier c =
    let q = c.deref-in-Quantifier.result.now in
    looked_quantified c.args.self.now c.push_rest-in-Quantifier.new.self (mirror_term c.args.term.now) (mirror_term q.body) q.span q.min q.max q.greedy _
    (ap mirror_term c.in-Quantifier.is ∙ quantifier_term_is c.in-Quantifier.it ∙ ap mirror_quantifier (sym c.deref-in-Quantifier.ensures) ∙ quantifier_is q) (record { refuses = refl; named = refl; few = refl }) c.in_ok-push_rest-in-Quantifier.ensures

pub returns-in_ok-push_rest-in-LookAroundAssertion : goal.returns-in_ok-push_rest-in-LookAroundAssertion
returns-in_ok-push_rest-in-LookAroundAssertion c =
    let g = c.deref.result.now in
    let it = out-LookAroundAssertion g in
    let more = alternatives (map mirror_alternative c.as_slice.result.now) in
    let is = ap mirror_term c.in-LookAroundAssertion.is ∙ look_term_is c.in-LookAroundAssertion.it ∙ ap mirror_look (sym c.deref.ensures) ∙ look_is g ∙ ap (λ d. tree.group it.span (tree.looking it.kind) d.0 d.1) (disjunction_is it.body)
    ∙ ap (λ b. tree.group it.span (tree.looking it.kind) (out-Disjunction it.body).span (alternatives (map mirror_alternative b))) (sym c.as_slice.ensures) in
    looked_looking c.args.self.now c.push_rest.new.self (mirror_term c.args.term.now) it.span (out-Disjunction it.body).span it.kind more None is
    (looked_body c.args.self.now c.push_rest.new.self more (rest.Alternatives c.as_slice.result) (record { refuses = refl; named = refl; few = refl }) c.in_ok-push_rest-in-LookAroundAssertion.ensures)

pub returns-in_ok-push_rest-in-CapturingGroup : goal.returns-in_ok-push_rest-in-CapturingGroup
returns-in_ok-push_rest-in-CapturingGroup c =
    let g = c.in-CapturingGroup.it.value in
    let it = out-CapturingGroup g in
    let more = alternatives (map mirror_alternative c.as_slice-in-CapturingGroup.result.now) in
    let is = ap mirror_term c.in-CapturingGroup.is ∙ capturing_term_is c.in-CapturingGroup.it ∙ capturing_is g ∙ ap (λ d. tree.group it.span (tree.capturing it.name) d.0 d.1) (disjunction_is it.body)
    ∙ ap (λ b. tree.group it.span (tree.capturing it.name) (out-Disjunction it.body).span (alternatives (map mirror_alternative b)))
    (sym (c.as_slice-in-CapturingGroup.ensures ∙ ap (λ b. (out-Disjunction (out-CapturingGroup b).body).body) c.deref-in-CapturingGroup-2.ensures)) in
    let named = c.in_ok-name-in-CapturingGroup.ensures ∙ ap (λ b. (out-CapturingGroup b).name) c.deref-in-CapturingGroup.ensures in
    let s : Surveyor = record c.args.self.now { names = c.push.new.self } in
    looked_capturing c.args.self.now s c.push_rest-in-CapturingGroup.new.self (mirror_term c.args.term.now) it.span (out-Disjunction it.body).span it.name more None is
    (ap (λ ns. record c.args.self.now { names = ns }) (c.in_ok-push-in-CapturingGroup.ensures.ok ∙ ap (λ o. c.args.self.now.names ++ (o ∷ [])) named))
    (looked_body s c.push_rest-in-CapturingGroup.new.self more (rest.Alternatives c.as_slice-in-CapturingGroup.result) (record { refuses = refl; named = refl; few = refl }) c.in_ok-push_rest-in-CapturingGroup.ensures)

pub returns-then-is_some : goal.returns-then-is_some
returns-then-is_some c =
    let g = c.in-IgnoreGroup.it.value in
    let it = out-IgnoreGroup g in
    let is = ap mirror_term c.in-IgnoreGroup.is ∙ ignore_term_is c.in-IgnoreGroup.it ∙ ignore_is g in
    let m = subst (λ b. MatchOption (out-IgnoreGroup b).modifiers (c.unsupported_modifiers-unsupported.result ≡ None) (λ m. c.unsupported_modifiers-unsupported.result ≡ unsupported_modifiers m)) c.deref-in-IgnoreGroup.ensures c.unsupported_modifiers-unsupported.ensures in
    ignored_refused c.args.self.now (mirror_term c.args.term.now) it.span _ it.modifiers _ c.unsupported_modifiers-unsupported.result is m (sym c.is_some.ensures ∙ c.if-is_some.true)

pub returns-in_ok-push_rest-in-IgnoreGroup : goal.returns-in_ok-push_rest-in-IgnoreGroup
returns-in_ok-push_rest-in-IgnoreGroup c =
    let g = c.in-IgnoreGroup.it.value in
    let it = out-IgnoreGroup g in
    let more = alternatives (map mirror_alternative c.as_slice-in-IgnoreGroup.result.now) in
    let is = ap mirror_term c.in-IgnoreGroup.is ∙ ignore_term_is c.in-IgnoreGroup.it ∙ ignore_is g ∙ ap (λ d. tree.group it.span (tree.ignoring it.modifiers) d.0 d.1) (disjunction_is it.body)
    ∙ ap (λ b. tree.group it.span (tree.ignoring it.modifiers) (out-Disjunction it.body).span (alternatives (map mirror_alternative b)))
    (sym (c.as_slice-in-IgnoreGroup.ensures ∙ ap (λ b. (out-Disjunction (out-IgnoreGroup b).body).body) c.deref-in-IgnoreGroup-2.ensures)) in
    let m = subst (λ b. MatchOption (out-IgnoreGroup b).modifiers (c.unsupported_modifiers-unsupported.result ≡ None) (λ m. c.unsupported_modifiers-unsupported.result ≡ unsupported_modifiers m)) c.deref-in-IgnoreGroup.ensures c.unsupported_modifiers-unsupported.ensures in
    looked_ignoring c.args.self.now c.push_rest-in-IgnoreGroup.new.self (mirror_term c.args.term.now) it.span (out-Disjunction it.body).span it.modifiers more None is
    (none_refused it.modifiers c.unsupported_modifiers-unsupported.result m (is_none c.unsupported_modifiers-unsupported.result (sym c.is_some.ensures ∙ c.if-is_some.false)))
    (looked_body c.args.self.now c.push_rest-in-IgnoreGroup.new.self more (rest.Alternatives c.as_slice-in-IgnoreGroup.result) (record { refuses = refl; named = refl; few = refl }) c.in_ok-push_rest-in-IgnoreGroup.ensures)
