use Rattle.std.proofs.Common.{ap, sym, ◌∙◌}
use Rattle.rx_ast.specs.ClassTree.{mirror_class}
use Rattle.rx_ast.specs.Kinds.{class, named_reference, property_escape}
use Rattle.rx_ast.specs.MirrorKinds.{capturing_kind, ignore_kind, look_kind, quantifier_kind}
use Rattle.rx_ast.proofs.Equations.{boundary_is, character_is, class_is, dot_is, escape_is, indexed_is, named_is, property_is, tree_of_capturing, tree_of_ignore, tree_of_look, tree_of_quantifier}
use Rattle.rx_visit.proofs.Children.{kind_of_term}
use Rattle.rx_visit.proofs.siblings.node_of_term.Goals as goal

pub returns-in-BoundaryAssertion : goal.returns-in-BoundaryAssertion
returns-in-BoundaryAssertion c = sym (kind_of_term c.in-BoundaryAssertion.is (boundary_is c.in-BoundaryAssertion.it))

pub returns-in-LookAroundAssertion : goal.returns-in-LookAroundAssertion
returns-in-LookAroundAssertion c = sym (kind_of_term c.in-LookAroundAssertion.is (tree_of_look c.in-LookAroundAssertion.it) ∙ ap look_kind (sym c.deref.ensures))

pub returns-in-Quantifier : goal.returns-in-Quantifier
returns-in-Quantifier c = sym (kind_of_term c.in-Quantifier.is (tree_of_quantifier c.in-Quantifier.it) ∙ ap quantifier_kind (sym c.deref-in-Quantifier.ensures))

pub returns-in-Character : goal.returns-in-Character
returns-in-Character c = sym (kind_of_term c.in-Character.is (character_is c.in-Character.it))

pub returns-in-Dot : goal.returns-in-Dot
returns-in-Dot c = sym (kind_of_term c.in-Dot.is (dot_is c.in-Dot.it))

pub returns-in-CharacterClassEscape : goal.returns-in-CharacterClassEscape
returns-in-CharacterClassEscape c = sym (kind_of_term c.in-CharacterClassEscape.is (escape_is c.in-CharacterClassEscape.it))

pub returns-in-UnicodePropertyEscape : goal.returns-in-UnicodePropertyEscape
returns-in-UnicodePropertyEscape c = sym (kind_of_term c.in-UnicodePropertyEscape.is (property_is c.in-UnicodePropertyEscape.it) ∙ ap property_escape (sym c.deref-in-UnicodePropertyEscape.ensures))

pub returns-in-CharacterClass : goal.returns-in-CharacterClass
returns-in-CharacterClass c = sym (kind_of_term c.in-CharacterClass.is (class_is c.in-CharacterClass.it) ∙ ap (λ x. class (mirror_class x)) (sym c.deref-in-CharacterClass.ensures))

pub returns-in-CapturingGroup : goal.returns-in-CapturingGroup
returns-in-CapturingGroup c = sym (kind_of_term c.in-CapturingGroup.is (tree_of_capturing c.in-CapturingGroup.it) ∙ ap capturing_kind (sym c.deref-in-CapturingGroup.ensures))

pub returns-in-IgnoreGroup : goal.returns-in-IgnoreGroup
returns-in-IgnoreGroup c = sym (kind_of_term c.in-IgnoreGroup.is (tree_of_ignore c.in-IgnoreGroup.it) ∙ ap ignore_kind (sym c.deref-in-IgnoreGroup.ensures))

pub returns-in-IndexedReference : goal.returns-in-IndexedReference
returns-in-IndexedReference c = sym (kind_of_term c.in-IndexedReference.is (indexed_is c.in-IndexedReference.it))

pub returns-in-NamedReference : goal.returns-in-NamedReference
returns-in-NamedReference c = sym (kind_of_term c.in-NamedReference.is (named_is c.in-NamedReference.it) ∙ ap named_reference (sym c.deref-in-NamedReference.ensures))
