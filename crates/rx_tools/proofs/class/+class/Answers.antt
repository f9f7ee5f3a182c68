use Rattle.std.proofs.Common.{refl, ap, sym, ◌∙◌, arith, rules}
use Rattle.std.specs.Str.{chars}
use Rattle.std.proofs.lemmas.Str.{IsUtf8-nil}
use Rattle.rx_ast.specs.ClassTree.{mirror_class, mirror_contents, nested, range}
use Rattle.rx_ast.specs.Size.{all_contents_size, contents_size}
use Rattle.rx_base.proofs.Writing.{left_all, left_then, left_stop, left_none}
use Rattle.rx_ast.specs.Texts.{operator_text}
use Rattle.rx_model.specs.Spelling.ClassText.{member_text}
use Rattle.rx_tools.specs.Utf8.{utf8}
use Rattle.rx_tools.specs.Leaves.{is_nested}
use Rattle.rx_ast.proofs.ClassEquations.{character_is, escape_is, nested_is, property_is, range_is, strings_is}
use Rattle.rx_ast.proofs.ClassSizes.{contents_within, size_of_nested}
use Rattle.rx_tools.proofs.Classes.{after_nothing, class_texts, contents_next, contents_none, of_contents}
use Rattle.rx_tools.proofs.Pieces.{utf8-nil, same_text, text_next, text_then, text_stop, failed_from}
use Rattle.rx_tools.proofs.class.+class.Goals as goal

pub write_all_contents-loop-contents-init : goal.write_all_contents-loop-contents-init
unfolding chars
write_all_contents-loop-contents-init g t c = record { is_text = IsUtf8-nil; written = rw (← after_nothing c.args.mode (operator_text c.args.kind) _) (left_all _ _ _ _ _) }

pub write_all_contents-returns-in_err-write_str : goal.write_all_contents-returns-in_err-write_str
write_all_contents-returns-in_err-write_str g t c =
    let next = contents_next c.args.mode (chars c.loop-contents.before.now) (operator_text c.args.kind) c.args.all_contents.now c.loop-contents.contents-index c.contents-item.result c.loop-contents-test.true c.contents-item.is in
    left_stop _ c.loop-contents.invariant.written (text_next _ (chars c.loop-contents.before.now) _ next) c.in_err-write_str.ensures (failed_from _ _ c.from_residual.ensures.1)

pub write_all_contents-write_contents-requires : goal.write_all_contents-write_contents-requires
write_all_contents-write_contents-requires g t c = λ κs within.
    (omega (arith, contents_within c.args.all_contents.now c.loop-contents.contents-index c.contents-item.result c.loop-contents-test.true c.contents-item.is), search rules)

pub write_all_contents-returns-in_err-write_contents : goal.write_all_contents-returns-in_err-write_contents
write_all_contents-returns-in_err-write_contents g t c =
    let next = contents_next c.args.mode (chars c.loop-contents.before.now) (operator_text c.args.kind) c.args.all_contents.now c.loop-contents.contents-index c.contents-item.result c.loop-contents-test.true c.contents-item.is in
    let past = left_then _ c.loop-contents.invariant.written (text_next _ (chars c.loop-contents.before.now) _ next) c.in_ok-write_str.ensures in
    left_stop _ past (text_next _ (member_text c.args.mode (mirror_contents c.contents-item.result)) _ refl) c.in_err-write_contents.ensures (failed_from _ _ c.from_residual-in_err-write_contents.ensures.1)

pub write_all_contents-loop-contents-preserved : goal.write_all_contents-loop-contents-preserved
write_all_contents-loop-contents-preserved g t c =
    let next = contents_next c.args.mode (chars c.loop-contents.before.now) (operator_text c.args.kind) c.args.all_contents.now c.loop-contents.contents-index c.contents-item.result c.loop-contents-test.true c.contents-item.is in
    let past = left_then _ c.loop-contents.invariant.written (text_next _ (chars c.loop-contents.before.now) _ next) c.in_ok-write_str.ensures in
    record {
      is_text = c.operator_text-operator.utf8;
      written = rw c.operator_text-operator.ensures (left_then _ past (text_next _ (member_text c.args.mode (mirror_contents c.contents-item.result)) _ refl) c.in_ok-write_contents.ensures);
    }

pub write_all_contents-returns : goal.write_all_contents-returns
write_all_contents-returns g t c =
    left_none _ c.loop-contents.invariant.written (ap utf8 (contents_none c.args.mode (chars c.loop-contents.before.now) (operator_text c.args.kind) c.args.all_contents.now c.loop-contents.contents-index c.loop-contents-test.false) ∙ utf8-nil)

pub write_class-returns-in_err-write_opener : goal.write_class-returns-in_err-write_opener
write_class-returns-in_err-write_opener g t c =
    same_text (class_texts c.args.mode c.args.class.now) (text_stop _ _ c.in_err-write_opener.ensures (failed_from _ _ c.from_residual.ensures.1))

pub write_class-returns-in_err-write_all_contents : goal.write_class-returns-in_err-write_all_contents
write_class-returns-in_err-write_all_contents g t c =
    same_text (class_texts c.args.mode c.args.class.now) (text_then _ _ c.in_ok-write_opener.ensures
    (text_stop _ _ (rw c.as_slice.ensures at c.in_err-write_all_contents.ensures) (failed_from _ _ c.from_residual-in_err-write_all_contents.ensures.1)))

pub write_class-returns : goal.write_class-returns
write_class-returns g t c =
    same_text (class_texts c.args.mode c.args.class.now) (text_then _ _ c.in_ok-write_opener.ensures
    (text_then _ _ (rw c.as_slice.ensures at c.in_ok-write_all_contents.ensures) c.write_char.ensures))

pub write_contents-returns-in-Character : goal.write_contents-returns-in-Character
write_contents-returns-in-Character g t c = same_text (of_contents (member_text c.args.mode) c.in-Character.is (character_is c.in-Character.it)) c.write_character.ensures

pub write_contents-returns-in-CharacterClassRange : goal.write_contents-returns-in-CharacterClassRange
write_contents-returns-in-CharacterClassRange g t c = same_text (of_contents (member_text c.args.mode) c.in-CharacterClassRange.is (range_is c.in-CharacterClassRange.it ∙ ap range (sym c.deref.ensures))) c.write_range.ensures

pub write_contents-returns-in-NestedCharacterClass : goal.write_contents-returns-in-NestedCharacterClass
write_contents-returns-in-NestedCharacterClass g t c = same_text (of_contents (member_text c.args.mode) c.in-NestedCharacterClass.is (nested_is c.in-NestedCharacterClass.it ∙ ap (λ x. nested (mirror_class x)) (sym c.deref-in-NestedCharacterClass.ensures))) c.write_class.ensures

pub write_contents-write_class-requires : goal.write_contents-write_class-requires
write_contents-write_class-requires g t c = λ κs within.
    (omega (arith, ap contents_size c.in-NestedCharacterClass.is ∙ size_of_nested c.in-NestedCharacterClass.it, ap (λ k. all_contents_size k.body) c.deref-in-NestedCharacterClass.ensures), search rules)

pub write_contents-write_flat_contents-requires : goal.write_contents-write_flat_contents-requires
write_contents-write_flat_contents-requires g t c = of_contents is_nested c.in-CharacterClassEscape.is (escape_is c.in-CharacterClassEscape.field-0)

pub write_contents-returns-in-CharacterClassEscape : goal.write_contents-returns-in-CharacterClassEscape
write_contents-returns-in-CharacterClassEscape g t c = c.write_flat_contents.ensures

pub write_contents-write_flat_contents-requires-in-UnicodePropertyEscape : goal.write_contents-write_flat_contents-requires-in-UnicodePropertyEscape
write_contents-write_flat_contents-requires-in-UnicodePropertyEscape g t c = of_contents is_nested c.in-UnicodePropertyEscape.is (property_is c.in-UnicodePropertyEscape.field-0)

pub write_contents-returns-in-UnicodePropertyEscape : goal.write_contents-returns-in-UnicodePropertyEscape
write_contents-returns-in-UnicodePropertyEscape g t c = c.write_flat_contents-in-UnicodePropertyEscape.ensures

pub write_contents-write_flat_contents-requires-in-ClassStringDisjunction : goal.write_contents-write_flat_contents-requires-in-ClassStringDisjunction
write_contents-write_flat_contents-requires-in-ClassStringDisjunction g t c = of_contents is_nested c.in-ClassStringDisjunction.is (strings_is c.in-ClassStringDisjunction.field-0)

pub write_contents-returns-in-ClassStringDisjunction : goal.write_contents-returns-in-ClassStringDisjunction
write_contents-returns-in-ClassStringDisjunction g t c = c.write_flat_contents-in-ClassStringDisjunction.ensures
