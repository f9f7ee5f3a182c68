use Rattle.std.proofs.Common.{ap, sym, ◌∙◌}
use Rattle.rx_ast.specs.ClassTree.{mirror_class}
use Rattle.rx_ast.specs.Tree as tree
use Rattle.rx_ast.specs.Tree.{leaf}
use Rattle.rx_ast.proofs.Equations.{boundary_is, character_is, class_is, dot_is, escape_is, indexed_is, named_is, property_is, tree_of_capturing, tree_of_ignore, tree_of_look, tree_of_quantifier}
use Rattle.rx_tools.specs.Leaves.{is_leaf}
use Rattle.rx_tools.specs.Tasks.{opening_text}
use Rattle.rx_tools.proofs.Trees.{of_term}
use Rattle.rx_tools.proofs.Writes.{no_text, same_written}
use Rattle.rx_tools.proofs.printing.write_opening.Goals as goal

pub returns-in-Quantifier : goal.returns-in-Quantifier
returns-in-Quantifier g c = rw (c.in-Quantifier.is, tree_of_quantifier c.in-Quantifier.field-0) (no_text g.W.TextSink.taken _)

pub returns-in-LookAroundAssertion : goal.returns-in-LookAroundAssertion
returns-in-LookAroundAssertion g c =
    let is = of_term (opening_text c.args.mode c.args.after_reference) c.in-LookAroundAssertion.is (tree_of_look c.in-LookAroundAssertion.it) in
    same_written g.W.TextSink.taken _ _ _ _ is (rw (c.look_text.ensures, c.deref.ensures) at c.write_str.ensures.whole)

pub returns-in-CapturingGroup : goal.returns-in-CapturingGroup
returns-in-CapturingGroup g c =
    let is = of_term (opening_text c.args.mode c.args.after_reference) c.in-CapturingGroup.is (tree_of_capturing c.in-CapturingGroup.it) in
    same_written g.W.TextSink.taken _ _ _ _ is (rw c.deref-in-CapturingGroup.ensures at c.write_capturing.ensures.whole)

pub returns-in-IgnoreGroup : goal.returns-in-IgnoreGroup
returns-in-IgnoreGroup g c =
    let is = of_term (opening_text c.args.mode c.args.after_reference) c.in-IgnoreGroup.is (tree_of_ignore c.in-IgnoreGroup.it) in
    same_written g.W.TextSink.taken _ _ _ _ is (rw c.deref-in-IgnoreGroup.ensures at c.write_ignoring.ensures.whole)

pub returns-in-CharacterClass : goal.returns-in-CharacterClass
returns-in-CharacterClass g c =
    let class = class_is c.in-CharacterClass.it ∙ ap (λ x. leaf (tree.class (mirror_class x))) (sym c.deref-in-CharacterClass.ensures) in
    same_written g.W.TextSink.taken _ _ _ _ (of_term (opening_text c.args.mode c.args.after_reference) c.in-CharacterClass.is class) c.write_class.ensures

pub write_alone-requires : goal.write_alone-requires
write_alone-requires g c = of_term is_leaf c.in-BoundaryAssertion.is (boundary_is c.in-BoundaryAssertion.field-0)

pub returns-in-BoundaryAssertion : goal.returns-in-BoundaryAssertion
returns-in-BoundaryAssertion g c = c.write_alone.ensures

pub write_alone-requires-in-Character : goal.write_alone-requires-in-Character
write_alone-requires-in-Character g c = of_term is_leaf c.in-Character.is (character_is c.in-Character.field-0)

pub returns-in-Character : goal.returns-in-Character
returns-in-Character g c = c.write_alone-in-Character.ensures

pub write_alone-requires-in-Dot : goal.write_alone-requires-in-Dot
write_alone-requires-in-Dot g c = of_term is_leaf c.in-Dot.is (dot_is c.in-Dot.field-0)

pub returns-in-Dot : goal.returns-in-Dot
returns-in-Dot g c = c.write_alone-in-Dot.ensures

pub write_alone-requires-in-CharacterClassEscape : goal.write_alone-requires-in-CharacterClassEscape
write_alone-requires-in-CharacterClassEscape g c = of_term is_leaf c.in-CharacterClassEscape.is (escape_is c.in-CharacterClassEscape.field-0)

pub returns-in-CharacterClassEscape : goal.returns-in-CharacterClassEscape
returns-in-CharacterClassEscape g c = c.write_alone-in-CharacterClassEscape.ensures

pub write_alone-requires-in-UnicodePropertyEscape : goal.write_alone-requires-in-UnicodePropertyEscape
write_alone-requires-in-UnicodePropertyEscape g c = of_term is_leaf c.in-UnicodePropertyEscape.is (property_is c.in-UnicodePropertyEscape.field-0)

pub returns-in-UnicodePropertyEscape : goal.returns-in-UnicodePropertyEscape
returns-in-UnicodePropertyEscape g c = c.write_alone-in-UnicodePropertyEscape.ensures

pub write_alone-requires-in-IndexedReference : goal.write_alone-requires-in-IndexedReference
write_alone-requires-in-IndexedReference g c = of_term is_leaf c.in-IndexedReference.is (indexed_is c.in-IndexedReference.field-0)

pub returns-in-IndexedReference : goal.returns-in-IndexedReference
returns-in-IndexedReference g c = c.write_alone-in-IndexedReference.ensures

pub write_alone-requires-in-NamedReference : goal.write_alone-requires-in-NamedReference
write_alone-requires-in-NamedReference g c = of_term is_leaf c.in-NamedReference.is (named_is c.in-NamedReference.field-0)

pub returns-in-NamedReference : goal.returns-in-NamedReference
returns-in-NamedReference g c = c.write_alone-in-NamedReference.ensures
