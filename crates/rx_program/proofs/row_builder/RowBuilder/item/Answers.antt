use Rattle.std.proofs.Common.{refl, ap, sym, ◌∙◌, ◌+◌, ◌*◌, arith}
use Rattle.std.proofs.lemmas.Result.{on_ok_weaker}
use Rattle.rx_base.specs.Characters.{is_within}
use Rattle.rx_ast.specs.ClassTree.{nested, mirror_class, mirror_contents}
use Rattle.rx_ast.proofs.ClassEquations.{range_is, escape_is, property_is, character_is, nested_is, strings_is}
use Rattle.rx_program.specs.declared.checks.ItemTest.TheVariants as item
use Rattle.rx_trace.specs.Holding.{member_holds, class_holds}
use Rattle.rx_program.specs.SurveyState.{member_looks, class_looks}
use Rattle.rx_program.proofs.RowMaking.{led_check, led_none, led_same}
use Rattle.rx_program.proofs.row_builder.RowBuilder.item.Goals as goal

pub returns-in-CharacterClassRange : goal.returns-in-CharacterClassRange
returns-in-CharacterClassRange c =
    on_ok_weaker c.push_check.result
    (λ pushed. led_check c.args.self.now c.push_check.new.self (record { test = item.Range c.deref.result.now.min.value c.deref-in-CharacterClassRange.result.now.max.value; held = c.args.held; not_held = c.args.not_held }) (member_holds (mirror_contents c.args.item.now)) _ pushed
    (λ k. ap (λ r. is_within r.min.value c.deref-in-CharacterClassRange.result.now.max.value k) c.deref.ensures ∙ ap (λ r. is_within c.in-CharacterClassRange.it.value.min.value r.max.value k) c.deref-in-CharacterClassRange.ensures
    ∙ ap (λ m. member_holds m k) (sym (ap mirror_contents c.in-CharacterClassRange.is ∙ range_is c.in-CharacterClassRange.it))) c.requires) c.push_check.ensures

pub returns-in-CharacterClassEscape : goal.returns-in-CharacterClassEscape
returns-in-CharacterClassEscape c =
    on_ok_weaker c.push_check-in-CharacterClassEscape.result
    (λ pushed. led_check c.args.self.now c.push_check-in-CharacterClassEscape.new.self (record { test = item.Escape c.in-CharacterClassEscape.it.kind; held = c.args.held; not_held = c.args.not_held }) (member_holds (mirror_contents c.args.item.now)) _ pushed
    (λ k. ap (λ m. member_holds m k) (sym (ap mirror_contents c.in-CharacterClassEscape.is ∙ escape_is c.in-CharacterClassEscape.it))) c.requires) c.push_check-in-CharacterClassEscape.ensures

pub returns-in-Character : goal.returns-in-Character
returns-in-Character c =
    on_ok_weaker c.push_check-in-Character.result
    (λ pushed. led_check c.args.self.now c.push_check-in-Character.new.self (record { test = item.Character c.in-Character.it.value; held = c.args.held; not_held = c.args.not_held }) (member_holds (mirror_contents c.args.item.now)) _ pushed
    (λ k. ap (λ m. member_holds m k) (sym (ap mirror_contents c.in-Character.is ∙ character_is c.in-Character.it))) c.requires) c.push_check-in-Character.ensures

pub returns-in-UnicodePropertyEscape : goal.returns-in-UnicodePropertyEscape
returns-in-UnicodePropertyEscape c =
    led_none c.args.self.now _ (member_holds (mirror_contents c.args.item.now)) _ c.args.held c.args.not_held refl (λ k. ap (λ m. member_holds m k) (ap mirror_contents c.in-UnicodePropertyEscape.is ∙ property_is c.in-UnicodePropertyEscape.field-0)) c.requires

pub returns-in-ClassStringDisjunction : goal.returns-in-ClassStringDisjunction
returns-in-ClassStringDisjunction c =
    led_none c.args.self.now _ (member_holds (mirror_contents c.args.item.now)) _ c.args.held c.args.not_held refl (λ k. ap (λ m. member_holds m k) (ap mirror_contents c.in-ClassStringDisjunction.is ∙ strings_is c.in-ClassStringDisjunction.field-0)) c.requires

pub returns-in-NestedCharacterClass : goal.returns-in-NestedCharacterClass
returns-in-NestedCharacterClass c =
    let k = c.deref-in-NestedCharacterClass.result.now in
    let is = ap mirror_contents c.in-NestedCharacterClass.is ∙ nested_is c.in-NestedCharacterClass.it ∙ ap (λ b. nested (mirror_class b)) (sym c.deref-in-NestedCharacterClass.ensures) in
    let looks = ap member_looks is in
    on_ok_weaker c.class.result
    (led_same c.args.self.now c.class.new.self (member_holds (mirror_contents c.args.item.now)) (class_holds (mirror_class k)) (2 * member_looks (mirror_contents c.args.item.now)) (1 + 2 * class_looks (mirror_class k)) c.args.held c.args.not_held
    (λ u. ap (λ m. member_holds m u) (sym is)) (omega arith)) c.class.ensures
