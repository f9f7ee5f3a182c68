use Rattle.std.proofs.Common.{ap, sym, ◌∙◌}
use Rattle.std.proofs.lemmas.Bool.{false≢true}
use Rattle.rx_ast.proofs.Equations.{boundary_is, character_is, class_is, dot_is, escape_is, indexed_is, named_is, property_is, tree_of_capturing, tree_of_ignore, tree_of_look, tree_of_quantifier}
use Rattle.rx_ast.specs.ClassTree.{mirror_class}
use Rattle.rx_ast.specs.Tree as tree
use Rattle.rx_ast.specs.Tree.{leaf}
use Rattle.rx_model.specs.Spelling.Spelling.{node_text}
use Rattle.rx_tools.specs.Leaves.{is_leaf}
use Rattle.rx_tools.proofs.Pieces.{same_text}
use Rattle.rx_tools.proofs.Trees.{of_term}
use Rattle.rx_tools.proofs.leaf.write_leaf.Goals as goal

pub returns-in-Character : goal.returns-in-Character
returns-in-Character g c = same_text (of_term (node_text c.args.mode c.args.after_reference) c.in-Character.is (character_is c.in-Character.it)) c.write_character.ensures

pub returns-in-BoundaryAssertion : goal.returns-in-BoundaryAssertion
returns-in-BoundaryAssertion g c = same_text (of_term (node_text c.args.mode c.args.after_reference) c.in-BoundaryAssertion.is (boundary_is c.in-BoundaryAssertion.it) ∙ sym c.boundary_text.ensures) c.write_str.ensures

pub returns-in-Dot : goal.returns-in-Dot
returns-in-Dot g c = same_text (of_term (node_text c.args.mode c.args.after_reference) c.in-Dot.is (dot_is c.in-Dot.field-0)) c.write_char.ensures

pub returns-in-CharacterClassEscape : goal.returns-in-CharacterClassEscape
returns-in-CharacterClassEscape g c = same_text (of_term (node_text c.args.mode c.args.after_reference) c.in-CharacterClassEscape.is (escape_is c.in-CharacterClassEscape.it) ∙ sym c.class_escape_text.ensures) c.write_str-in-CharacterClassEscape.ensures

pub returns-in-UnicodePropertyEscape : goal.returns-in-UnicodePropertyEscape
returns-in-UnicodePropertyEscape g c = same_text (of_term (node_text c.args.mode c.args.after_reference) c.in-UnicodePropertyEscape.is (property_is c.in-UnicodePropertyEscape.it ∙ ap (λ x. leaf (tree.property x)) (sym c.deref.ensures))) c.write_property.ensures

pub returns-in-CharacterClass : goal.returns-in-CharacterClass
returns-in-CharacterClass g c = same_text (of_term (node_text c.args.mode c.args.after_reference) c.in-CharacterClass.is (class_is c.in-CharacterClass.it ∙ ap (λ x. leaf (tree.class (mirror_class x))) (sym c.deref-in-CharacterClass.ensures))) c.write_class.ensures

pub returns-in-IndexedReference : goal.returns-in-IndexedReference
returns-in-IndexedReference g c = same_text (of_term (node_text c.args.mode c.args.after_reference) c.in-IndexedReference.is (indexed_is c.in-IndexedReference.it)) c.write_indexed.ensures

pub returns-in-NamedReference : goal.returns-in-NamedReference
returns-in-NamedReference g c = same_text (of_term (node_text c.args.mode c.args.after_reference) c.in-NamedReference.is (named_is c.in-NamedReference.it ∙ ap (λ x. leaf (tree.named x)) (sym c.deref-in-NamedReference.ensures))) c.write_named.ensures

pub unreachable-requires : goal.unreachable-requires
unreachable-requires g c = false≢true (sym (of_term is_leaf c.in-Quantifier.is (tree_of_quantifier c.in-Quantifier.field-0)) ∙ c.requires)

pub unreachable-requires-in-LookAroundAssertion : goal.unreachable-requires-in-LookAroundAssertion
unreachable-requires-in-LookAroundAssertion g c = false≢true (sym (of_term is_leaf c.in-LookAroundAssertion.is (tree_of_look c.in-LookAroundAssertion.field-0)) ∙ c.requires)

pub unreachable-requires-in-CapturingGroup : goal.unreachable-requires-in-CapturingGroup
unreachable-requires-in-CapturingGroup g c = false≢true (sym (of_term is_leaf c.in-CapturingGroup.is (tree_of_capturing c.in-CapturingGroup.field-0)) ∙ c.requires)

pub unreachable-requires-in-IgnoreGroup : goal.unreachable-requires-in-IgnoreGroup
unreachable-requires-in-IgnoreGroup g c = false≢true (sym (of_term is_leaf c.in-IgnoreGroup.is (tree_of_ignore c.in-IgnoreGroup.field-0)) ∙ c.requires)
