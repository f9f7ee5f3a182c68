use Rattle.std.proofs.Common.{ap, sym, ◌∙◌, subst, ◌≡◌, false, [], ◌∷◌, ◌++◌}
use Rattle.rx_ast.specs.ClassTree.{range, mirror_contents}
use Rattle.rx_ast.proofs.ClassEquations.{range_is, escape_is, property_is, character_is, nested_is, strings_is}
use Rattle.rx_lint.specs.Items.{AreItems, is_useless}
use Rattle.rx_lint.proofs.HeldItems.{Adds, property_added, nested_added, strings_added}
use Rattle.rx_lint.proofs.items.Items.add.Goals as goal

pub returns-in-CharacterClassRange : goal.returns-in-CharacterClassRange
returns-in-CharacterClassRange c =
    subst (Adds c.args.self.now c.add_range.new.self c.add_range.result) (ap range c.deref.ensures ∙ sym (ap mirror_contents c.in-CharacterClassRange.is ∙ range_is c.in-CharacterClassRange.it)) c.add_range.ensures

pub returns-in-CharacterClassEscape : goal.returns-in-CharacterClassEscape
returns-in-CharacterClassEscape c =
    subst (Adds c.args.self.now c.add_escape.new.self c.add_escape.result) (sym (ap mirror_contents c.in-CharacterClassEscape.is ∙ escape_is c.in-CharacterClassEscape.it)) c.add_escape.ensures

pub returns-in-Character : goal.returns-in-Character
returns-in-Character c =
    subst (Adds c.args.self.now c.add_character.new.self c.add_character.result) (sym (ap mirror_contents c.in-Character.is ∙ character_is c.in-Character.it)) c.add_character.ensures

pub returns-in-UnicodePropertyEscape : goal.returns-in-UnicodePropertyEscape
returns-in-UnicodePropertyEscape c = λ before are.
    subst (λ m. (false ≡ is_useless m before) × AreItems c.args.self.now (before ++ (m ∷ []))) (sym (ap mirror_contents c.in-UnicodePropertyEscape.is ∙ property_is c.in-UnicodePropertyEscape.field-0)) (property_added c.in-UnicodePropertyEscape.field-0.value are)

pub returns-in-NestedCharacterClass : goal.returns-in-NestedCharacterClass
returns-in-NestedCharacterClass c = λ before are.
    subst (λ m. (false ≡ is_useless m before) × AreItems c.args.self.now (before ++ (m ∷ []))) (sym (ap mirror_contents c.in-NestedCharacterClass.is ∙ nested_is c.in-NestedCharacterClass.field-0)) (nested_added _ are)

pub returns-in-ClassStringDisjunction : goal.returns-in-ClassStringDisjunction
returns-in-ClassStringDisjunction c = λ before are.
    subst (λ m. (false ≡ is_useless m before) × AreItems c.args.self.now (before ++ (m ∷ []))) (sym (ap mirror_contents c.in-ClassStringDisjunction.is ∙ strings_is c.in-ClassStringDisjunction.field-0)) (strings_added c.in-ClassStringDisjunction.field-0.value are)
