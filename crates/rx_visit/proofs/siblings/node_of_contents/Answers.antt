use Rattle.std.proofs.Common.{ap, sym, ◌∙◌}
use Rattle.rx_ast.specs.ClassTree.{mirror_class}
use Rattle.rx_ast.specs.Kinds.{class, class_range, property_escape, string_disjunction}
use Rattle.rx_ast.proofs.ClassEquations.{character_is, escape_is, nested_is, property_is, range_is, strings_is}
use Rattle.rx_visit.proofs.Children.{kind_of_contents}
use Rattle.rx_visit.proofs.siblings.node_of_contents.Goals as goal

pub returns-in-CharacterClassRange : goal.returns-in-CharacterClassRange
returns-in-CharacterClassRange c = sym (kind_of_contents c.in-CharacterClassRange.is (range_is c.in-CharacterClassRange.it) ∙ ap class_range (sym c.deref.ensures))

pub returns-in-CharacterClassEscape : goal.returns-in-CharacterClassEscape
returns-in-CharacterClassEscape c = sym (kind_of_contents c.in-CharacterClassEscape.is (escape_is c.in-CharacterClassEscape.it))

pub returns-in-UnicodePropertyEscape : goal.returns-in-UnicodePropertyEscape
returns-in-UnicodePropertyEscape c = sym (kind_of_contents c.in-UnicodePropertyEscape.is (property_is c.in-UnicodePropertyEscape.it) ∙ ap property_escape (sym c.deref-in-UnicodePropertyEscape.ensures))

pub returns-in-Character : goal.returns-in-Character
returns-in-Character c = sym (kind_of_contents c.in-Character.is (character_is c.in-Character.it))

pub returns-in-NestedCharacterClass : goal.returns-in-NestedCharacterClass
returns-in-NestedCharacterClass c = sym (kind_of_contents c.in-NestedCharacterClass.is (nested_is c.in-NestedCharacterClass.it) ∙ ap (λ x. class (mirror_class x)) (sym c.deref-in-NestedCharacterClass.ensures))

pub returns-in-ClassStringDisjunction : goal.returns-in-ClassStringDisjunction
returns-in-ClassStringDisjunction c = sym (kind_of_contents c.in-ClassStringDisjunction.is (strings_is c.in-ClassStringDisjunction.it) ∙ ap string_disjunction (sym c.deref-in-ClassStringDisjunction.ensures))
