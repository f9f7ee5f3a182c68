use Rattle.std.proofs.Common.{ap, sym, ◌∙◌}
use Rattle.rx_ast.specs.ClassTree.{mirror_class}
use Rattle.rx_ast.specs.Tree as tree
use Rattle.rx_ast.specs.Tree.{leaf, mirror_capturing, mirror_ignore, mirror_look, mirror_quantifier, mirror_term}
use Rattle.rx_ast.specs.declared.leaf.NamedReference.{NamedReference}
use Rattle.rx_ast.specs.declared.leaf.UnicodePropertyEscape.{UnicodePropertyEscape}
use Rattle.rx_ast.proofs.Copies.{boxed_copy}
use Rattle.rx_ast.proofs.Equations.{capturing_term_is, class_is, ignore_term_is, look_term_is, named_is, property_is, quantifier_term_is}
use Rattle.rx_ast.proofs.term.+ast.Goals as goal

pub Term::clone-returns-in_ok-boxed-in-LookAroundAssertion : goal.Term::clone-returns-in_ok-boxed-in-LookAroundAssertion
Term::clone-returns-in_ok-boxed-in-LookAroundAssertion t c = look_term_is _ ∙ boxed_copy mirror_look c.clone-in-LookAroundAssertion.result c.in_ok-boxed-in-LookAroundAssertion.ensures c.clone-in-LookAroundAssertion.ensures ∙ ap mirror_look c.deref.ensures ∙ sym (ap mirror_term c.in-LookAroundAssertion.is ∙ look_term_is c.in-LookAroundAssertion.it)

pub Term::clone-returns-in_ok-boxed-in-Quantifier : goal.Term::clone-returns-in_ok-boxed-in-Quantifier
Term::clone-returns-in_ok-boxed-in-Quantifier t c = quantifier_term_is _ ∙ boxed_copy mirror_quantifier c.clone-in-Quantifier.result c.in_ok-boxed-in-Quantifier.ensures c.clone-in-Quantifier.ensures ∙ ap mirror_quantifier c.deref-in-Quantifier.ensures ∙ sym (ap mirror_term c.in-Quantifier.is ∙ quantifier_term_is c.in-Quantifier.it)

pub Term::clone-returns-in_ok-boxed-in-UnicodePropertyEscape : goal.Term::clone-returns-in_ok-boxed-in-UnicodePropertyEscape
Term::clone-returns-in_ok-boxed-in-UnicodePropertyEscape t c = property_is _ ∙ ap (λ x. leaf (tree.property x)) (boxed_copy (λ (x : UnicodePropertyEscape). x) c.clone-in-UnicodePropertyEscape.result c.in_ok-boxed-in-UnicodePropertyEscape.ensures c.clone-in-UnicodePropertyEscape.ensures ∙ ap (λ (x : UnicodePropertyEscape). x) c.deref-in-UnicodePropertyEscape.ensures) ∙ sym (ap mirror_term c.in-UnicodePropertyEscape.is ∙ property_is c.in-UnicodePropertyEscape.it)

pub Term::clone-returns-in_ok-boxed-in-CharacterClass : goal.Term::clone-returns-in_ok-boxed-in-CharacterClass
Term::clone-returns-in_ok-boxed-in-CharacterClass t c = class_is _ ∙ ap (λ x. leaf (tree.class x)) (boxed_copy mirror_class c.clone-in-CharacterClass.result c.in_ok-boxed-in-CharacterClass.ensures c.clone-in-CharacterClass.ensures ∙ ap mirror_class c.deref-in-CharacterClass.ensures) ∙ sym (ap mirror_term c.in-CharacterClass.is ∙ class_is c.in-CharacterClass.it)

pub Term::clone-returns-in_ok-boxed-in-CapturingGroup : goal.Term::clone-returns-in_ok-boxed-in-CapturingGroup
Term::clone-returns-in_ok-boxed-in-CapturingGroup t c = capturing_term_is _ ∙ boxed_copy mirror_capturing c.clone-in-CapturingGroup.result c.in_ok-boxed-in-CapturingGroup.ensures c.clone-in-CapturingGroup.ensures ∙ ap mirror_capturing c.deref-in-CapturingGroup.ensures ∙ sym (ap mirror_term c.in-CapturingGroup.is ∙ capturing_term_is c.in-CapturingGroup.it)

pub Term::clone-returns-in_ok-boxed-in-IgnoreGroup : goal.Term::clone-returns-in_ok-boxed-in-IgnoreGroup
Term::clone-returns-in_ok-boxed-in-IgnoreGroup t c = ignore_term_is _ ∙ boxed_copy mirror_ignore c.clone-in-IgnoreGroup.result c.in_ok-boxed-in-IgnoreGroup.ensures c.clone-in-IgnoreGroup.ensures ∙ ap mirror_ignore c.deref-in-IgnoreGroup.ensures ∙ sym (ap mirror_term c.in-IgnoreGroup.is ∙ ignore_term_is c.in-IgnoreGroup.it)

pub Term::clone-returns-in_ok-boxed-in-NamedReference : goal.Term::clone-returns-in_ok-boxed-in-NamedReference
Term::clone-returns-in_ok-boxed-in-NamedReference t c = named_is _ ∙ ap (λ x. leaf (tree.named x)) (boxed_copy (λ (x : NamedReference). x) c.clone-in-NamedReference.result c.in_ok-boxed-in-NamedReference.ensures c.clone-in-NamedReference.ensures ∙ ap (λ (x : NamedReference). x) c.deref-in-NamedReference.ensures) ∙ sym (ap mirror_term c.in-NamedReference.is ∙ named_is c.in-NamedReference.it)
