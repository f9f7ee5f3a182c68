use Rattle.std.proofs.Common.{ap, sym, ◌∙◌}
use Rattle.rx_ast.specs.Spans.{node_span}
use Rattle.rx_ast.specs.Tree.{mirror_term}
use Rattle.rx_ast.specs.declared.class.CharacterClass.{CharacterClass}
use Rattle.rx_ast.specs.declared.leaf.NamedReference.{NamedReference}
use Rattle.rx_ast.specs.declared.leaf.UnicodePropertyEscape.{UnicodePropertyEscape}
use Rattle.rx_ast.specs.declared.term.CapturingGroup.{out-CapturingGroup}
use Rattle.rx_ast.specs.declared.term.IgnoreGroup.{out-IgnoreGroup}
use Rattle.rx_ast.specs.declared.term.LookAroundAssertion.{out-LookAroundAssertion}
use Rattle.rx_ast.specs.declared.term.Quantifier.{Quantifier}
use Rattle.rx_ast.proofs.Equations.{boundary_is, character_is, class_is, dot_is, escape_is, indexed_is, named_is, property_is, tree_of_capturing, tree_of_ignore, tree_of_look, tree_of_quantifier}
use Rattle.rx_ast.proofs.Spans.{span_of_class}
use Rattle.rx_ast.proofs.term.TermGetSpan.span.Goals as goal

pub returns-in-BoundaryAssertion : goal.returns-in-BoundaryAssertion
returns-in-BoundaryAssertion c = sym (ap (λ t. node_span (mirror_term t)) c.in-BoundaryAssertion.is ∙ ap node_span (boundary_is c.in-BoundaryAssertion.it))

pub returns-in-LookAroundAssertion : goal.returns-in-LookAroundAssertion
returns-in-LookAroundAssertion c = sym (ap (λ t. node_span (mirror_term t)) c.in-LookAroundAssertion.is ∙ ap node_span (tree_of_look c.in-LookAroundAssertion.it) ∙ ap (λ x. (out-LookAroundAssertion x).span) (sym c.deref.ensures))

pub returns-in-Quantifier : goal.returns-in-Quantifier
returns-in-Quantifier c = sym (ap (λ t. node_span (mirror_term t)) c.in-Quantifier.is ∙ ap node_span (tree_of_quantifier c.in-Quantifier.it) ∙ ap (λ (x : Quantifier). x.span) (sym c.deref-in-Quantifier.ensures))

pub returns-in-Character : goal.returns-in-Character
returns-in-Character c = sym (ap (λ t. node_span (mirror_term t)) c.in-Character.is ∙ ap node_span (character_is c.in-Character.it))

pub returns-in-Dot : goal.returns-in-Dot
returns-in-Dot c = sym (ap (λ t. node_span (mirror_term t)) c.in-Dot.is ∙ ap node_span (dot_is c.in-Dot.it))

pub returns-in-CharacterClassEscape : goal.returns-in-CharacterClassEscape
returns-in-CharacterClassEscape c = sym (ap (λ t. node_span (mirror_term t)) c.in-CharacterClassEscape.is ∙ ap node_span (escape_is c.in-CharacterClassEscape.it))

pub returns-in-UnicodePropertyEscape : goal.returns-in-UnicodePropertyEscape
returns-in-UnicodePropertyEscape c = sym (ap (λ t. node_span (mirror_term t)) c.in-UnicodePropertyEscape.is ∙ ap node_span (property_is c.in-UnicodePropertyEscape.it) ∙ ap (λ (x : UnicodePropertyEscape). x.span) (sym c.deref-in-UnicodePropertyEscape.ensures))

pub returns-in-CharacterClass : goal.returns-in-CharacterClass
returns-in-CharacterClass c = sym (ap (λ t. node_span (mirror_term t)) c.in-CharacterClass.is ∙ ap node_span (class_is c.in-CharacterClass.it) ∙ span_of_class c.in-CharacterClass.it.value ∙ ap (λ (x : CharacterClass). x.span) (sym c.deref-in-CharacterClass.ensures))

pub returns-in-CapturingGroup : goal.returns-in-CapturingGroup
returns-in-CapturingGroup c = sym (ap (λ t. node_span (mirror_term t)) c.in-CapturingGroup.is ∙ ap node_span (tree_of_capturing c.in-CapturingGroup.it) ∙ ap (λ x. (out-CapturingGroup x).span) (sym c.deref-in-CapturingGroup.ensures))

pub returns-in-IgnoreGroup : goal.returns-in-IgnoreGroup
returns-in-IgnoreGroup c = sym (ap (λ t. node_span (mirror_term t)) c.in-IgnoreGroup.is ∙ ap node_span (tree_of_ignore c.in-IgnoreGroup.it) ∙ ap (λ x. (out-IgnoreGroup x).span) (sym c.deref-in-IgnoreGroup.ensures))

pub returns-in-IndexedReference : goal.returns-in-IndexedReference
returns-in-IndexedReference c = sym (ap (λ t. node_span (mirror_term t)) c.in-IndexedReference.is ∙ ap node_span (indexed_is c.in-IndexedReference.it))

pub returns-in-NamedReference : goal.returns-in-NamedReference
returns-in-NamedReference c = sym (ap (λ t. node_span (mirror_term t)) c.in-NamedReference.is ∙ ap node_span (named_is c.in-NamedReference.it) ∙ ap (λ (x : NamedReference). x.span) (sym c.deref-in-NamedReference.ensures))
