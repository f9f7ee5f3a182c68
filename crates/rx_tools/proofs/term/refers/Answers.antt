use Rattle.std.proofs.Common.{sym}
use Rattle.rx_ast.proofs.Equations.{boundary_is, character_is, class_is, dot_is, escape_is, indexed_is, named_is, property_is, tree_of_capturing, tree_of_ignore, tree_of_look, tree_of_quantifier}
use Rattle.rx_model.specs.Spelling.Spelling.{refers}
use Rattle.rx_tools.proofs.Trees.{of_term}
use Rattle.rx_tools.proofs.term.refers.Goals as goal

pub returns-in-IndexedReference : goal.returns-in-IndexedReference
returns-in-IndexedReference c = sym (of_term refers c.in-IndexedReference.is (indexed_is c.in-IndexedReference.field-0))

pub returns-in-BoundaryAssertion : goal.returns-in-BoundaryAssertion
returns-in-BoundaryAssertion c = sym (of_term refers c.in-BoundaryAssertion.is (boundary_is c.in-BoundaryAssertion.field-0))

pub returns-in-LookAroundAssertion : goal.returns-in-LookAroundAssertion
returns-in-LookAroundAssertion c = sym (of_term refers c.in-LookAroundAssertion.is (tree_of_look c.in-LookAroundAssertion.field-0))

pub returns-in-Quantifier : goal.returns-in-Quantifier
returns-in-Quantifier c = sym (of_term refers c.in-Quantifier.is (tree_of_quantifier c.in-Quantifier.field-0))

pub returns-in-Character : goal.returns-in-Character
returns-in-Character c = sym (of_term refers c.in-Character.is (character_is c.in-Character.field-0))

pub returns-in-Dot : goal.returns-in-Dot
returns-in-Dot c = sym (of_term refers c.in-Dot.is (dot_is c.in-Dot.field-0))

pub returns-in-CharacterClassEscape : goal.returns-in-CharacterClassEscape
returns-in-CharacterClassEscape c = sym (of_term refers c.in-CharacterClassEscape.is (escape_is c.in-CharacterClassEscape.field-0))

pub returns-in-UnicodePropertyEscape : goal.returns-in-UnicodePropertyEscape
returns-in-UnicodePropertyEscape c = sym (of_term refers c.in-UnicodePropertyEscape.is (property_is c.in-UnicodePropertyEscape.field-0))

pub returns-in-CharacterClass : goal.returns-in-CharacterClass
returns-in-CharacterClass c = sym (of_term refers c.in-CharacterClass.is (class_is c.in-CharacterClass.field-0))

pub returns-in-CapturingGroup : goal.returns-in-CapturingGroup
returns-in-CapturingGroup c = sym (of_term refers c.in-CapturingGroup.is (tree_of_capturing c.in-CapturingGroup.field-0))

pub returns-in-IgnoreGroup : goal.returns-in-IgnoreGroup
returns-in-IgnoreGroup c = sym (of_term refers c.in-IgnoreGroup.is (tree_of_ignore c.in-IgnoreGroup.field-0))

pub returns-in-NamedReference : goal.returns-in-NamedReference
returns-in-NamedReference c = sym (of_term refers c.in-NamedReference.is (named_is c.in-NamedReference.field-0))
