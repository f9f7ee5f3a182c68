use Rattle.std.proofs.Common.{ap, sym, ◌∙◌, ◌∷◌, ◌++◌, [], arith, rules, codes, map, append-nil}
use Rattle.std.specs.Char.{encode_utf8}
use Rattle.std.specs.Str.{chars}
use Rattle.std.proofs.lemmas.Str.{IsUtf8-nil}
use Rattle.rx_ast.specs.ClassTree.{members, mirror_class, mirror_contents, nested, property, range, strings}
use Rattle.rx_ast.specs.Shown.{member_shown, members_shown, pair_or}
use Rattle.rx_ast.specs.Size.{all_contents_size, contents_size}
use Rattle.rx_ast.specs.Texts.{class_opener, operator_text}
use Rattle.rx_ast.proofs.ClassEquations.{character_is, escape_is, nested_is, property_is, range_is, strings_is}
use Rattle.rx_ast.proofs.ClassShown.{after_nothing, class_shown_is, contents_after, contents_shown, contents_cons, contents_next}
use Rattle.rx_ast.proofs.ClassSizes.{size_of_nested}
use Rattle.rx_ast.proofs.FormatterWrites.{left_all, left_same, left_then, other_bytes, same_shown, shown_then, unless_joined}
use Rattle.rx_ast.proofs.display.class.+class.Goals as goal

pub write_all_contents-loop-contents-init : goal.write_all_contents-loop-contents-init
unfolding chars
write_all_contents-loop-contents-init g t c = record {
  is_text = IsUtf8-nil;
  written = left_same _ (left_all _ _) (after_nothing (operator_text c.args.kind) (members (map mirror_contents c.args.all_contents.now)));
  smaller = omega arith;
}

pub write_all_contents-write_unless_joined-requires : goal.write_all_contents-write_unless_joined-requires
write_all_contents-write_unless_joined-requires g t c = λ κs within.
    (omega (arith, c.loop-contents.invariant.smaller, ap all_contents_size c.in-Some.ensures.cases.0 ∙ contents_cons c.in-Some.contents.now c.in-Some.others.now), search rules)

pub write_all_contents-loop-contents-preserved : goal.write_all_contents-loop-contents-preserved
write_all_contents-loop-contents-preserved g t c =
    let loop = c.loop-contents in
    let first = c.in-Some.contents.now in
    let others = c.in-Some.others.now in
    let operator = operator_text c.args.kind in
    let cut = ap (λ cs. contents_after (chars loop.before.now) operator loop.joined (members (map mirror_contents cs))) c.in-Some.ensures.cases.0
    ∙ contents_next (chars loop.before.now) operator loop.joined c.contents_pair-pair.result first others c.contents_pair-pair.ensures in
    let written = left_then _ _ loop.invariant.written cut c.in_ok-write_unless_joined.ensures in
    record {
      is_text = c.operator_text-before.utf8;
      written = rw (c.operator_text-before.ensures, c.is_some-joined.ensures) written;
      smaller = omega (arith, loop.invariant.smaller, ap all_contents_size c.in-Some.ensures.cases.0 ∙ contents_cons first others);
    }

pub write_class-returns : goal.write_class-returns
unfolding chars
write_class-returns g t c =
    let it = c.args.class.now in
    let body = members_shown (operator_text it.kind) (members (map mirror_contents it.body)) in
    same_shown _ (class_shown_is it) (shown_then _ (class_opener it.negative) (body ++ codes "]") (rw c.class_opener.ensures at c.in_ok-write_text.ensures)
    (shown_then _ body (codes "]") (rw c.as_slice.ensures at c.in_ok-write_all_contents.ensures) c.write_text-2.ensures))

pub write_unless_joined-returns-in-Some : goal.write_unless_joined-returns-in-Some
write_unless_joined-returns-in-Some g t c =
    let before = chars c.args.before.now in
    let alone = member_shown (mirror_contents c.args.contents.now) in
    let text = unless_joined c.args.joined _ c.if-joined.false ∙ ap (λ p. before ++ pair_or p alone) c.in-Some.is in
    same_shown _ text (shown_then _ before (c.in-Some.pair ∷ []) c.in_ok-write_text.ensures (other_bytes _ (sym (append-nil (encode_utf8 c.in-Some.pair))) c.write_char.ensures.writes))

pub write_unless_joined-returns-in-None : goal.write_unless_joined-returns-in-None
write_unless_joined-returns-in-None g t c =
    let before = chars c.args.before.now in
    let alone = member_shown (mirror_contents c.args.contents.now) in
    let text = unless_joined c.args.joined _ c.if-joined.false ∙ ap (λ p. before ++ pair_or p alone) c.in-None.is in
    same_shown _ text (shown_then _ before alone c.in_ok-write_text.ensures c.write_contents.ensures)

pub write_contents-returns-in-NestedCharacterClass : goal.write_contents-returns-in-NestedCharacterClass
write_contents-returns-in-NestedCharacterClass g t c = same_shown _ (contents_shown c.in-NestedCharacterClass.is (nested_is c.in-NestedCharacterClass.it ∙ ap (λ x. nested (mirror_class x)) (sym c.deref.ensures))) c.write_class.ensures

pub write_contents-returns-in-CharacterClassRange : goal.write_contents-returns-in-CharacterClassRange
write_contents-returns-in-CharacterClassRange g t c = same_shown _ (contents_shown c.in-CharacterClassRange.is (range_is c.in-CharacterClassRange.it ∙ ap range (sym c.deref-in-CharacterClassRange.ensures))) c.fmt.ensures.writes

pub write_contents-returns-in-CharacterClassEscape : goal.write_contents-returns-in-CharacterClassEscape
write_contents-returns-in-CharacterClassEscape g t c = same_shown _ (contents_shown c.in-CharacterClassEscape.is (escape_is c.in-CharacterClassEscape.it)) c.fmt-in-CharacterClassEscape.ensures.writes

pub write_contents-returns-in-UnicodePropertyEscape : goal.write_contents-returns-in-UnicodePropertyEscape
write_contents-returns-in-UnicodePropertyEscape g t c = same_shown _ (contents_shown c.in-UnicodePropertyEscape.is (property_is c.in-UnicodePropertyEscape.it ∙ ap property (sym c.deref-in-UnicodePropertyEscape.ensures))) c.fmt-in-UnicodePropertyEscape.ensures.writes

pub write_contents-returns-in-Character : goal.write_contents-returns-in-Character
write_contents-returns-in-Character g t c = same_shown _ (contents_shown c.in-Character.is (character_is c.in-Character.it)) c.fmt-in-Character.ensures.writes

pub write_contents-returns-in-ClassStringDisjunction : goal.write_contents-returns-in-ClassStringDisjunction
write_contents-returns-in-ClassStringDisjunction g t c = same_shown _ (contents_shown c.in-ClassStringDisjunction.is (strings_is c.in-ClassStringDisjunction.it ∙ ap strings (sym c.deref-in-ClassStringDisjunction.ensures))) c.fmt-in-ClassStringDisjunction.ensures.writes

pub write_contents-write_class-requires : goal.write_contents-write_class-requires
write_contents-write_class-requires g t c = λ κs within.
    (omega (arith, ap contents_size c.in-NestedCharacterClass.is ∙ size_of_nested c.in-NestedCharacterClass.it, ap (λ k. all_contents_size k.body) c.deref.ensures), search rules)
