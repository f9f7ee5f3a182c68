use Rattle.std.proofs.Common.{sym}
use Rattle.rx_ast.proofs.ClassEquations.{character_is, escape_is, nested_is, property_is, range_is, strings_is}
use Rattle.rx_tools.specs.Leaves.{is_nested}
use Rattle.rx_tools.proofs.Classes.{of_contents}
use Rattle.rx_tools.proofs.class.is_nested.Goals as goal

pub returns-in-NestedCharacterClass : goal.returns-in-NestedCharacterClass
returns-in-NestedCharacterClass c = sym (of_contents is_nested c.in-NestedCharacterClass.is (nested_is c.in-NestedCharacterClass.field-0))

pub returns-in-CharacterClassRange : goal.returns-in-CharacterClassRange
returns-in-CharacterClassRange c = sym (of_contents is_nested c.in-CharacterClassRange.is (range_is c.in-CharacterClassRange.field-0))

pub returns-in-CharacterClassEscape : goal.returns-in-CharacterClassEscape
returns-in-CharacterClassEscape c = sym (of_contents is_nested c.in-CharacterClassEscape.is (escape_is c.in-CharacterClassEscape.field-0))

pub returns-in-UnicodePropertyEscape : goal.returns-in-UnicodePropertyEscape
returns-in-UnicodePropertyEscape c = sym (of_contents is_nested c.in-UnicodePropertyEscape.is (property_is c.in-UnicodePropertyEscape.field-0))

pub returns-in-Character : goal.returns-in-Character
returns-in-Character c = sym (of_contents is_nested c.in-Character.is (character_is c.in-Character.field-0))

pub returns-in-ClassStringDisjunction : goal.returns-in-ClassStringDisjunction
returns-in-ClassStringDisjunction c = sym (of_contents is_nested c.in-ClassStringDisjunction.is (strings_is c.in-ClassStringDisjunction.field-0))
