use Rattle.std.proofs.Common.{ap, sym, ◌∙◌}
use Rattle.rx_ast.specs.ClassTree.{mirror_class, mirror_contents, nested, property, strings}
use Rattle.rx_ast.specs.declared.class.ClassStringDisjunction.{ClassStringDisjunction}
use Rattle.rx_ast.specs.declared.leaf.UnicodePropertyEscape.{UnicodePropertyEscape}
use Rattle.rx_ast.proofs.ClassEquations.{nested_is, property_is, strings_is}
use Rattle.rx_ast.proofs.Copies.{boxed_copy}
use Rattle.rx_ast.proofs.class.+class.Goals as goal

pub CharacterClassContents::clone-returns-in_ok-boxed-in-UnicodePropertyEscape : goal.CharacterClassContents::clone-returns-in_ok-boxed-in-UnicodePropertyEscape
CharacterClassContents::clone-returns-in_ok-boxed-in-UnicodePropertyEscape t c = property_is _ ∙ ap (property) (boxed_copy (λ (x : UnicodePropertyEscape). x) c.clone-in-UnicodePropertyEscape.result c.in_ok-boxed-in-UnicodePropertyEscape.ensures c.clone-in-UnicodePropertyEscape.ensures ∙ ap (λ (x : UnicodePropertyEscape). x) c.deref-in-UnicodePropertyEscape.ensures) ∙ sym (ap mirror_contents c.in-UnicodePropertyEscape.is ∙ property_is c.in-UnicodePropertyEscape.it)

pub CharacterClassContents::clone-returns-in_ok-boxed-in-NestedCharacterClass : goal.CharacterClassContents::clone-returns-in_ok-boxed-in-NestedCharacterClass
CharacterClassContents::clone-returns-in_ok-boxed-in-NestedCharacterClass t c = nested_is _ ∙ ap (nested) (boxed_copy mirror_class c.clone-in-NestedCharacterClass.result c.in_ok-boxed-in-NestedCharacterClass.ensures c.clone-in-NestedCharacterClass.ensures ∙ ap mirror_class c.deref-in-NestedCharacterClass.ensures) ∙ sym (ap mirror_contents c.in-NestedCharacterClass.is ∙ nested_is c.in-NestedCharacterClass.it)

pub CharacterClassContents::clone-returns-in_ok-boxed-in-ClassStringDisjunction : goal.CharacterClassContents::clone-returns-in_ok-boxed-in-ClassStringDisjunction
CharacterClassContents::clone-returns-in_ok-boxed-in-ClassStringDisjunction t c = strings_is _ ∙ ap (strings) (boxed_copy (λ (x : ClassStringDisjunction). x) c.clone-in-ClassStringDisjunction.result c.in_ok-boxed-in-ClassStringDisjunction.ensures c.clone-in-ClassStringDisjunction.ensures ∙ ap (λ (x : ClassStringDisjunction). x) c.deref-in-ClassStringDisjunction.ensures) ∙ sym (ap mirror_contents c.in-ClassStringDisjunction.is ∙ strings_is c.in-ClassStringDisjunction.it)
