use Rattle.std.proofs.Common.{ap, sym, ◌∙◌}
use Rattle.std.proofs.lemmas.Bool.{false≢true}
use Rattle.rx_ast.proofs.ClassEquations.{character_is, escape_is, nested_is, property_is, range_is, strings_is}
use Rattle.rx_ast.specs.ClassTree.{property, range, strings}
use Rattle.rx_model.specs.Spelling.ClassText.{member_text}
use Rattle.rx_tools.specs.Leaves.{is_nested}
use Rattle.rx_tools.proofs.Classes.{of_contents}
use Rattle.rx_tools.proofs.Pieces.{same_text}
use Rattle.rx_tools.proofs.class.write_flat_contents.Goals as goal

pub returns-in-CharacterClassRange : goal.returns-in-CharacterClassRange
returns-in-CharacterClassRange g c = same_text (of_contents (member_text c.args.mode) c.in-CharacterClassRange.is (range_is c.in-CharacterClassRange.it ∙ ap range (sym c.deref.ensures))) c.write_range.ensures

pub returns-in-CharacterClassEscape : goal.returns-in-CharacterClassEscape
returns-in-CharacterClassEscape g c = same_text (of_contents (member_text c.args.mode) c.in-CharacterClassEscape.is (escape_is c.in-CharacterClassEscape.it) ∙ sym c.class_escape_text.ensures) c.write_str.ensures

pub returns-in-UnicodePropertyEscape : goal.returns-in-UnicodePropertyEscape
returns-in-UnicodePropertyEscape g c = same_text (of_contents (member_text c.args.mode) c.in-UnicodePropertyEscape.is (property_is c.in-UnicodePropertyEscape.it ∙ ap property (sym c.deref-in-UnicodePropertyEscape.ensures))) c.write_property.ensures

pub returns-in-Character : goal.returns-in-Character
returns-in-Character g c = same_text (of_contents (member_text c.args.mode) c.in-Character.is (character_is c.in-Character.it)) c.write_character.ensures

pub returns-in-ClassStringDisjunction : goal.returns-in-ClassStringDisjunction
returns-in-ClassStringDisjunction g c = same_text (of_contents (member_text c.args.mode) c.in-ClassStringDisjunction.is (strings_is c.in-ClassStringDisjunction.it ∙ ap strings (sym c.deref-in-ClassStringDisjunction.ensures))) c.write_string_disjunction.ensures

pub unreachable-requires : goal.unreachable-requires
unreachable-requires g c = false≢true (sym c.requires ∙ of_contents is_nested c.in-NestedCharacterClass.is (nested_is c.in-NestedCharacterClass.field-0))
