use Rattle.std.proofs.Common.{ap, sym, ◌∙◌}
use Rattle.rx_ast.proofs.Equations.{boundary_is, character_is, class_is, dot_is, escape_is, indexed_is, named_is, property_is, tree_of_capturing, tree_of_ignore, tree_of_look, tree_of_quantifier}
use Rattle.rx_ast.specs.ClassTree.{mirror_class}
use Rattle.rx_tools.specs.Leaves.{is_flat, is_leaf}
use Rattle.rx_tools.proofs.Trees.{of_term}
use Rattle.rx_tools.proofs.leaf.is_leaf.Goals as goal

pub returns-in-BoundaryAssertion : goal.returns-in-BoundaryAssertion
returns-in-BoundaryAssertion c = sym (of_term is_leaf c.in-BoundaryAssertion.is (boundary_is c.in-BoundaryAssertion.field-0))

pub returns-in-Character : goal.returns-in-Character
returns-in-Character c = sym (of_term is_leaf c.in-Character.is (character_is c.in-Character.field-0))

pub returns-in-Dot : goal.returns-in-Dot
returns-in-Dot c = sym (of_term is_leaf c.in-Dot.is (dot_is c.in-Dot.field-0))

pub returns-in-CharacterClassEscape : goal.returns-in-CharacterClassEscape
returns-in-CharacterClassEscape c = sym (of_term is_leaf c.in-CharacterClassEscape.is (escape_is c.in-CharacterClassEscape.field-0))

pub returns-in-UnicodePropertyEscape : goal.returns-in-UnicodePropertyEscape
returns-in-UnicodePropertyEscape c = sym (of_term is_leaf c.in-UnicodePropertyEscape.is (property_is c.in-UnicodePropertyEscape.field-0))

pub returns-in-IndexedReference : goal.returns-in-IndexedReference
returns-in-IndexedReference c = sym (of_term is_leaf c.in-IndexedReference.is (indexed_is c.in-IndexedReference.field-0))

pub returns-in-NamedReference : goal.returns-in-NamedReference
returns-in-NamedReference c = sym (of_term is_leaf c.in-NamedReference.is (named_is c.in-NamedReference.field-0))

pub returns-in-CharacterClass : goal.returns-in-CharacterClass
returns-in-CharacterClass c = c.is_flat.ensures ∙ ap (λ x. is_flat (mirror_class x)) c.deref.ensures ∙ sym (of_term is_leaf c.in-CharacterClass.is (class_is c.in-CharacterClass.it))

pub returns-in-Quantifier : goal.returns-in-Quantifier
returns-in-Quantifier c = sym (of_term is_leaf c.in-Quantifier.is (tree_of_quantifier c.in-Quantifier.field-0))

pub returns-in-LookAroundAssertion : goal.returns-in-LookAroundAssertion
returns-in-LookAroundAssertion c = sym (of_term is_leaf c.in-LookAroundAssertion.is (tree_of_look c.in-LookAroundAssertion.field-0))

pub returns-in-CapturingGroup : goal.returns-in-CapturingGroup
returns-in-CapturingGroup c = sym (of_term is_leaf c.in-CapturingGroup.is (tree_of_capturing c.in-CapturingGroup.field-0))

pub returns-in-IgnoreGroup : goal.returns-in-IgnoreGroup
returns-in-IgnoreGroup c = sym (of_term is_leaf c.in-IgnoreGroup.is (tree_of_ignore c.in-IgnoreGroup.field-0))
