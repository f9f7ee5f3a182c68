use Rattle.std.proofs.Common.{ap, sym, ◌∙◌}
use Rattle.std.proofs.lemmas.Result.{on_ok_weaker}
use Rattle.rx_ast.specs.ClassTree.{mirror_class}
use Rattle.rx_ast.specs.Tree as tree
use Rattle.rx_ast.specs.Tree.{leaf, mirror_capturing, mirror_ignore, mirror_look, mirror_quantifier, mirror_term}
use Rattle.rx_ast.proofs.Equations.{boundary_is, look_term_is, quantifier_term_is, character_is, dot_is, escape_is, property_is, class_is, capturing_term_is, ignore_term_is, indexed_is, named_is}
use Rattle.rx_rewrite.proofs.Cutting.{changes_term, makes_leaf}
use Rattle.rx_rewrite.proofs.rewriter.Rewriter.term.Goals as goal

pub returns-in-LookAroundAssertion : goal.returns-in-LookAroundAssertion
returns-in-LookAroundAssertion c =
    on_ok_weaker c.look_around.result
    (changes_term c.args.self.now c.look_around.new.self c.args.settings.old c.args.settings.new (mirror_term c.args.term.now) (mirror_look c.deref.result.now)
    (ap mirror_term c.in-LookAroundAssertion.is ∙ look_term_is c.in-LookAroundAssertion.it ∙ ap mirror_look (sym c.deref.ensures)))
    c.look_around.ensures

pub returns-in-Quantifier : goal.returns-in-Quantifier
returns-in-Quantifier c =
    on_ok_weaker c.quantifier.result
    (changes_term c.args.self.now c.quantifier.new.self c.args.settings.old c.args.settings.new (mirror_term c.args.term.now) (mirror_quantifier c.deref-in-Quantifier.result.now)
    (ap mirror_term c.in-Quantifier.is ∙ quantifier_term_is c.in-Quantifier.it ∙ ap mirror_quantifier (sym c.deref-in-Quantifier.ensures)))
    c.quantifier.ensures

pub returns-in-CapturingGroup : goal.returns-in-CapturingGroup
returns-in-CapturingGroup c =
    on_ok_weaker c.rewrite_capturing.result
    (changes_term c.args.self.now c.rewrite_capturing.new.self c.args.settings.old c.args.settings.new (mirror_term c.args.term.now) (mirror_capturing c.deref-in-CapturingGroup.result.now)
    (ap mirror_term c.in-CapturingGroup.is ∙ capturing_term_is c.in-CapturingGroup.it ∙ ap mirror_capturing (sym c.deref-in-CapturingGroup.ensures)))
    c.rewrite_capturing.ensures

pub returns-in-IgnoreGroup : goal.returns-in-IgnoreGroup
returns-in-IgnoreGroup c =
    on_ok_weaker c.ignoring.result
    (changes_term c.args.self.now c.ignoring.new.self c.args.settings.old c.args.settings.new (mirror_term c.args.term.now) (mirror_ignore c.deref-in-IgnoreGroup.result.now)
    (ap mirror_term c.in-IgnoreGroup.is ∙ ignore_term_is c.in-IgnoreGroup.it ∙ ap mirror_ignore (sym c.deref-in-IgnoreGroup.ensures)))
    c.ignoring.ensures

pub returns-in_ok-made-in-BoundaryAssertion : goal.returns-in_ok-made-in-BoundaryAssertion
returns-in_ok-made-in-BoundaryAssertion c =
    on_ok_weaker c.push_term.result
    (makes_leaf c.args.self.now c.push_term.new.self c.args.settings.old c.args.settings.new (mirror_term c.args.term.now) (tree.boundary c.in-BoundaryAssertion.it) _
    (ap mirror_term c.in-BoundaryAssertion.is ∙ boundary_is c.in-BoundaryAssertion.it) (λ names numbered. c.in_ok-made-in-BoundaryAssertion.ensures))
    c.push_term.ensures

pub returns-in_ok-made-in-Dot : goal.returns-in_ok-made-in-Dot
returns-in_ok-made-in-Dot c =
    on_ok_weaker c.push_term-in-Dot.result
    (makes_leaf c.args.self.now c.push_term-in-Dot.new.self c.args.settings.old c.args.settings.new (mirror_term c.args.term.now) (tree.dot c.in-Dot.it) _
    (ap mirror_term c.in-Dot.is ∙ dot_is c.in-Dot.it) (λ names numbered. c.in_ok-made-in-Dot.ensures))
    c.push_term-in-Dot.ensures

pub returns-in_ok-made-in-CharacterClass : goal.returns-in_ok-made-in-CharacterClass
returns-in_ok-made-in-CharacterClass c =
    on_ok_weaker c.push_term-in-CharacterClass.result
    (makes_leaf c.args.self.now c.push_term-in-CharacterClass.new.self c.args.settings.old c.args.settings.new (mirror_term c.args.term.now) (tree.class (mirror_class c.deref-in-CharacterClass.result.now)) _
    (ap mirror_term c.in-CharacterClass.is ∙ class_is c.in-CharacterClass.it ∙ ap (λ k. leaf (tree.class (mirror_class k))) (sym c.deref-in-CharacterClass.ensures)) (λ names numbered. c.in_ok-made-in-CharacterClass.ensures))
    c.push_term-in-CharacterClass.ensures

pub returns-in_ok-made-in-NamedReference : goal.returns-in_ok-made-in-NamedReference
returns-in_ok-made-in-NamedReference c =
    on_ok_weaker c.push_term-in-NamedReference.result
    (makes_leaf c.args.self.now c.push_term-in-NamedReference.new.self c.args.settings.old c.args.settings.new (mirror_term c.args.term.now) (tree.named c.deref-in-NamedReference.result.now) _
    (ap mirror_term c.in-NamedReference.is ∙ named_is c.in-NamedReference.it ∙ ap (λ r. leaf (tree.named r)) (sym c.deref-in-NamedReference.ensures)) (c.in_ok-made-in-NamedReference.ensures))
    c.push_term-in-NamedReference.ensures

pub returns-in-Character : goal.returns-in-Character
returns-in-Character c =
    let is = ap mirror_term c.in-Character.is ∙ character_is c.in-Character.field-0 in
    on_ok_weaker c.copy.result
    (makes_leaf c.args.self.now c.copy.new.self c.args.settings.old c.args.settings.new (mirror_term c.args.term.now) (tree.character c.in-Character.field-0) _ is (λ names numbered. is))
    c.copy.ensures

pub returns-in-CharacterClassEscape : goal.returns-in-CharacterClassEscape
returns-in-CharacterClassEscape c =
    let is = ap mirror_term c.in-CharacterClassEscape.is ∙ escape_is c.in-CharacterClassEscape.field-0 in
    on_ok_weaker c.copy-in-CharacterClassEscape.result
    (makes_leaf c.args.self.now c.copy-in-CharacterClassEscape.new.self c.args.settings.old c.args.settings.new (mirror_term c.args.term.now) (tree.class_escape c.in-CharacterClassEscape.field-0) _ is (λ names numbered. is))
    c.copy-in-CharacterClassEscape.ensures

pub returns-in-UnicodePropertyEscape : goal.returns-in-UnicodePropertyEscape
returns-in-UnicodePropertyEscape c =
    let is = ap mirror_term c.in-UnicodePropertyEscape.is ∙ property_is c.in-UnicodePropertyEscape.field-0 in
    on_ok_weaker c.copy-in-UnicodePropertyEscape.result
    (makes_leaf c.args.self.now c.copy-in-UnicodePropertyEscape.new.self c.args.settings.old c.args.settings.new (mirror_term c.args.term.now) (tree.property c.in-UnicodePropertyEscape.field-0.value) _ is (λ names numbered. is))
    c.copy-in-UnicodePropertyEscape.ensures

pub returns-in-IndexedReference : goal.returns-in-IndexedReference
returns-in-IndexedReference c =
    let is = ap mirror_term c.in-IndexedReference.is ∙ indexed_is c.in-IndexedReference.field-0 in
    on_ok_weaker c.copy-in-IndexedReference.result
    (makes_leaf c.args.self.now c.copy-in-IndexedReference.new.self c.args.settings.old c.args.settings.new (mirror_term c.args.term.now) (tree.indexed c.in-IndexedReference.field-0) _ is (λ names numbered. is))
    c.copy-in-IndexedReference.ensures
