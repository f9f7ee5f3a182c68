use Rattle.std.proofs.Common.{ap, ◌∙◌, ◌++◌}
use Rattle.rx_ast.specs.ClassTree.{mirror_contents}
use Rattle.rx_ast.proofs.ClassEquations.{character_is, escape_is, nested_is, property_is, range_is, strings_is}
use Rattle.rx_model.specs.Spelling.ClassText.{member_text}
use Rattle.rx_tools.specs.ClassTasks.{class_task_text}
use Rattle.rx_tools.specs.Leaves.{is_nested}
use Rattle.rx_tools.proofs.Classes.{of_contents}
use Rattle.rx_tools.proofs.Writes.{no_text}
use Rattle.rx_tasks.proofs.Texts.{goes_none}
use Rattle.rx_tools.proofs.class_task.write_or_put_back.Goals as goal

pub returns-in-NestedCharacterClass-clause-text : goal.returns-in-NestedCharacterClass-clause-text
returns-in-NestedCharacterClass-clause-text g c =
    let more = class_task_text c.args.rest in
    goes_none (no_text g.W.TextSink.taken _) (rw c.deref.ensures (ap (λ m. member_text c.args.mode (mirror_contents m) ++ more) c.in-NestedCharacterClass.is ∙ ap (λ m. member_text c.args.mode m ++ more) (nested_is c.in-NestedCharacterClass.class)))

pub write_alone-requires : goal.write_alone-requires
write_alone-requires g c = of_contents is_nested c.in-CharacterClassRange.is (range_is c.in-CharacterClassRange.field-0)

pub returns-in-CharacterClassRange-clause-text : goal.returns-in-CharacterClassRange-clause-text
returns-in-CharacterClassRange-clause-text g c = c.write_alone.ensures.text

pub returns-in-CharacterClassRange-clause-lighter : goal.returns-in-CharacterClassRange-clause-lighter
returns-in-CharacterClassRange-clause-lighter g c = c.write_alone.ensures.lighter

pub write_alone-requires-in-CharacterClassEscape : goal.write_alone-requires-in-CharacterClassEscape
write_alone-requires-in-CharacterClassEscape g c = of_contents is_nested c.in-CharacterClassEscape.is (escape_is c.in-CharacterClassEscape.field-0)

pub returns-in-CharacterClassEscape-clause-text : goal.returns-in-CharacterClassEscape-clause-text
returns-in-CharacterClassEscape-clause-text g c = c.write_alone-in-CharacterClassEscape.ensures.text

pub returns-in-CharacterClassEscape-clause-lighter : goal.returns-in-CharacterClassEscape-clause-lighter
returns-in-CharacterClassEscape-clause-lighter g c = c.write_alone-in-CharacterClassEscape.ensures.lighter

pub write_alone-requires-in-UnicodePropertyEscape : goal.write_alone-requires-in-UnicodePropertyEscape
write_alone-requires-in-UnicodePropertyEscape g c = of_contents is_nested c.in-UnicodePropertyEscape.is (property_is c.in-UnicodePropertyEscape.field-0)

pub returns-in-UnicodePropertyEscape-clause-text : goal.returns-in-UnicodePropertyEscape-clause-text
returns-in-UnicodePropertyEscape-clause-text g c = c.write_alone-in-UnicodePropertyEscape.ensures.text

pub returns-in-UnicodePropertyEscape-clause-lighter : goal.returns-in-UnicodePropertyEscape-clause-lighter
returns-in-UnicodePropertyEscape-clause-lighter g c = c.write_alone-in-UnicodePropertyEscape.ensures.lighter

pub write_alone-requires-in-Character : goal.write_alone-requires-in-Character
write_alone-requires-in-Character g c = of_contents is_nested c.in-Character.is (character_is c.in-Character.field-0)

pub returns-in-Character-clause-text : goal.returns-in-Character-clause-text
returns-in-Character-clause-text g c = c.write_alone-in-Character.ensures.text

pub returns-in-Character-clause-lighter : goal.returns-in-Character-clause-lighter
returns-in-Character-clause-lighter g c = c.write_alone-in-Character.ensures.lighter

pub write_alone-requires-in-ClassStringDisjunction : goal.write_alone-requires-in-ClassStringDisjunction
write_alone-requires-in-ClassStringDisjunction g c = of_contents is_nested c.in-ClassStringDisjunction.is (strings_is c.in-ClassStringDisjunction.field-0)

pub returns-in-ClassStringDisjunction-clause-text : goal.returns-in-ClassStringDisjunction-clause-text
returns-in-ClassStringDisjunction-clause-text g c = c.write_alone-in-ClassStringDisjunction.ensures.text

pub returns-in-ClassStringDisjunction-clause-lighter : goal.returns-in-ClassStringDisjunction-clause-lighter
returns-in-ClassStringDisjunction-clause-lighter g c = c.write_alone-in-ClassStringDisjunction.ensures.lighter
