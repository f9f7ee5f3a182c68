use Rattle.std.proofs.Common.{refl, ap, sym, ◌∙◌, map}
use Rattle.std.proofs.lemmas.Result.{on_ok_weaker}
use Rattle.rx_ast.specs.ClassTree.{mirror_class}
use Rattle.rx_ast.specs.declared.term.Disjunction.{out-Disjunction}
use Rattle.rx_ast.specs.declared.term.CapturingGroup.{out-CapturingGroup}
use Rattle.rx_ast.specs.declared.term.IgnoreGroup.{out-IgnoreGroup}
use Rattle.rx_ast.specs.declared.term.LookAroundAssertion.{out-LookAroundAssertion}
use Rattle.rx_ast.specs.Tree as tree
use Rattle.rx_ast.specs.Tree.{leaf, alternatives, mirror_term, mirror_alternative, mirror_look, mirror_capturing, mirror_ignore, mirror_quantifier}
use Rattle.rx_ast.proofs.Equations.{boundary_is, character_is, dot_is, escape_is, property_is, class_is, indexed_is, named_is, look_term_is, look_is, capturing_term_is, capturing_is, ignore_term_is, ignore_is, quantifier_term_is, quantifier_is, disjunction_is}
use Rattle.rx_program.specs.declared.classes.Unseen.TheVariants as unseen
use Rattle.rx_program.proofs.Finding.{finds_leaf, finds_quantified, finds_group, finds_class}
use Rattle.rx_program.proofs.classes.ClassFinder.term.Goals as goal

pub returns-in-BoundaryAssertion : goal.returns-in-BoundaryAssertion
returns-in-BoundaryAssertion c = finds_leaf c.args.self.now (mirror_term c.args.term.now) (tree.boundary c.in-BoundaryAssertion.field-0) (ap mirror_term c.in-BoundaryAssertion.is ∙ boundary_is c.in-BoundaryAssertion.field-0) (λ before. refl)

pub returns-in-Character : goal.returns-in-Character
returns-in-Character c = finds_leaf c.args.self.now (mirror_term c.args.term.now) (tree.character c.in-Character.field-0) (ap mirror_term c.in-Character.is ∙ character_is c.in-Character.field-0) (λ before. refl)

pub returns-in-Dot : goal.returns-in-Dot
returns-in-Dot c = finds_leaf c.args.self.now (mirror_term c.args.term.now) (tree.dot c.in-Dot.field-0) (ap mirror_term c.in-Dot.is ∙ dot_is c.in-Dot.field-0) (λ before. refl)

pub returns-in-CharacterClassEscape : goal.returns-in-CharacterClassEscape
returns-in-CharacterClassEscape c = finds_leaf c.args.self.now (mirror_term c.args.term.now) (tree.class_escape c.in-CharacterClassEscape.field-0) (ap mirror_term c.in-CharacterClassEscape.is ∙ escape_is c.in-CharacterClassEscape.field-0) (λ before. refl)

pub returns-in-IndexedReference : goal.returns-in-IndexedReference
returns-in-IndexedReference c = finds_leaf c.args.self.now (mirror_term c.args.term.now) (tree.indexed c.in-IndexedReference.field-0) (ap mirror_term c.in-IndexedReference.is ∙ indexed_is c.in-IndexedReference.field-0) (λ before. refl)

pub returns-in-NamedReference : goal.returns-in-NamedReference
returns-in-NamedReference c = finds_leaf c.args.self.now (mirror_term c.args.term.now) (tree.named c.in-NamedReference.field-0.value) (ap mirror_term c.in-NamedReference.is ∙ named_is c.in-NamedReference.field-0) (λ before. refl)

pub returns-in-UnicodePropertyEscape : goal.returns-in-UnicodePropertyEscape
returns-in-UnicodePropertyEscape c = finds_leaf c.args.self.now (mirror_term c.args.term.now) (tree.property c.in-UnicodePropertyEscape.field-0.value) (ap mirror_term c.in-UnicodePropertyEscape.is ∙ property_is c.in-UnicodePropertyEscape.field-0) (λ before. refl)

pub returns-in-CharacterClass : goal.returns-in-CharacterClass
returns-in-CharacterClass c =
    let k = c.deref-in-CharacterClass.result.now in
    on_ok_weaker c.class.result
    (finds_class c.args.self.now c.class.new.self (mirror_term c.args.term.now) (mirror_class k)
    (ap mirror_term c.in-CharacterClass.is ∙ class_is c.in-CharacterClass.it ∙ ap (λ b. leaf (tree.class (mirror_class b))) (sym c.deref-in-CharacterClass.ensures))) c.class.ensures

pub returns-in-Quantifier : goal.returns-in-Quantifier
returns-in-Quantifier c =
    let q = c.deref-in-Quantifier.result.now in
    on_ok_weaker c.push_unseen-in-Quantifier.result
    (λ pushed. finds_quantified c.args.self.now c.push_unseen-in-Quantifier.new.self (mirror_term c.args.term.now) (mirror_term c.body_of-term.result.now) q.span q.min q.max q.greedy (unseen.Term c.body_of-term.result)
    (ap mirror_term c.in-Quantifier.is ∙ quantifier_term_is c.in-Quantifier.it ∙ ap mirror_quantifier (sym c.deref-in-Quantifier.ensures) ∙ quantifier_is q ∙ ap (λ b. tree.quantified q.span q.min q.max q.greedy (mirror_term b)) (sym c.body_of-term.ensures)) (record { tests_are = λ before. refl; few = refl }) pushed)
    c.push_unseen-in-Quantifier.ensures

pub returns-in-LookAroundAssertion : goal.returns-in-LookAroundAssertion
returns-in-LookAroundAssertion c =
    let g = c.deref.result.now in
    let it = out-LookAroundAssertion g in
    let more = alternatives (map mirror_alternative c.as_slice-alternatives.result.now) in
    let is = ap mirror_term c.in-LookAroundAssertion.is ∙ look_term_is c.in-LookAroundAssertion.it ∙ ap mirror_look (sym c.deref.ensures) ∙ look_is g ∙ ap (λ d. tree.group it.span (tree.looking it.kind) d.0 d.1) (disjunction_is it.body)
    ∙ ap (λ b. tree.group it.span (tree.looking it.kind) (out-Disjunction it.body).span (alternatives (map mirror_alternative b))) (sym c.as_slice-alternatives.ensures) in
    on_ok_weaker c.push_unseen.result
    (finds_group c.args.self.now c.push_unseen.new.self (mirror_term c.args.term.now) it.span (out-Disjunction it.body).span (tree.looking it.kind) more (unseen.Alternatives c.as_slice-alternatives.result) is (record { tests_are = λ before. refl; few = refl })) c.push_unseen.ensures

pub returns-in-CapturingGroup : goal.returns-in-CapturingGroup
returns-in-CapturingGroup c =
    let g = c.deref-in-CapturingGroup.result.now in
    let it = out-CapturingGroup g in
    let more = alternatives (map mirror_alternative c.as_slice-alternatives-in-CapturingGroup.result.now) in
    let is = ap mirror_term c.in-CapturingGroup.is ∙ capturing_term_is c.in-CapturingGroup.it ∙ ap mirror_capturing (sym c.deref-in-CapturingGroup.ensures) ∙ capturing_is g ∙ ap (λ d. tree.group it.span (tree.capturing it.name) d.0 d.1) (disjunction_is it.body)
    ∙ ap (λ b. tree.group it.span (tree.capturing it.name) (out-Disjunction it.body).span (alternatives (map mirror_alternative b))) (sym c.as_slice-alternatives-in-CapturingGroup.ensures) in
    on_ok_weaker c.push_unseen-in-CapturingGroup.result
    (finds_group c.args.self.now c.push_unseen-in-CapturingGroup.new.self (mirror_term c.args.term.now) it.span (out-Disjunction it.body).span (tree.capturing it.name) more (unseen.Alternatives c.as_slice-alternatives-in-CapturingGroup.result) is (record { tests_are = λ before. refl; few = refl })) c.push_unseen-in-CapturingGroup.ensures

pub returns-in-IgnoreGroup : goal.returns-in-IgnoreGroup
returns-in-IgnoreGroup c =
    let g = c.deref-in-IgnoreGroup.result.now in
    let it = out-IgnoreGroup g in
    let more = alternatives (map mirror_alternative c.as_slice-alternatives-in-IgnoreGroup.result.now) in
    let is = ap mirror_term c.in-IgnoreGroup.is ∙ ignore_term_is c.in-IgnoreGroup.it ∙ ap mirror_ignore (sym c.deref-in-IgnoreGroup.ensures) ∙ ignore_is g ∙ ap (λ d. tree.group it.span (tree.ignoring it.modifiers) d.0 d.1) (disjunction_is it.body)
    ∙ ap (λ b. tree.group it.span (tree.ignoring it.modifiers) (out-Disjunction it.body).span (alternatives (map mirror_alternative b))) (sym c.as_slice-alternatives-in-IgnoreGroup.ensures) in
    on_ok_weaker c.push_unseen-in-IgnoreGroup.result
    (finds_group c.args.self.now c.push_unseen-in-IgnoreGroup.new.self (mirror_term c.args.term.now) it.span (out-Disjunction it.body).span (tree.ignoring it.modifiers) more (unseen.Alternatives c.as_slice-alternatives-in-IgnoreGroup.result) is (record { tests_are = λ before. refl; few = refl })) c.push_unseen-in-IgnoreGroup.ensures
