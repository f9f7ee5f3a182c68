use Rattle.std.proofs.Common.{◌≡◌, ap, ◌∙◌, refl, sym, rules, false, length, ◌<◌, ◌≤◌, IsTrue}
use Rattle.std.proofs.lemmas.Bool.{true≢false}
use Rattle.std.proofs.lemmas.List.Elements.{length_all_zip}
use Rattle.rx_base.proofs.Pairwise.{pairs_more}
use Rattle.rx_ast.specs.ClassTree.{range, escape, property, character, nested, strings, mirror_contents}
use Rattle.rx_ast.specs.Forget.{nowhere, forget_character, forget_range, forget_strings, forget_member, same_kind}
use Rattle.rx_ast.proofs.ClassEquations.{range_is, escape_is, property_is, character_is, nested_is, strings_is}
use Rattle.rx_ast.proofs.ClassContentEq.{class_of, member_of, class_from_parts, same_negative, same_strings, same_class_kind, same_members}
use Rattle.rx_ast.proofs.ContentEq.{by_held, all_same, same_here}
use Rattle.rx_ast.proofs.ClassShapes.{one_variant, range_or, escape_or, property_or, character_or, nested_or, strings_or}
use Rattle.rx_ast.proofs.content_eq.class.+class.Goals as goal

pub CharacterClassContentsContentEq::content_eq-returns-in-CharacterClassRange-other : goal.CharacterClassContentsContentEq::content_eq-returns-in-CharacterClassRange-other
CharacterClassContentsContentEq::content_eq-returns-in-CharacterClassRange-other t c =
    let a = c.in-CharacterClassRange.it in
    let b = c.in-CharacterClassRange-other.that in
    let x = forget_range same_kind a.value in
    let y = forget_range same_kind b.value in
    by_held range (range_or x) x y _ _ refl refl
    (ap (λ k. forget_member same_kind (mirror_contents k)) c.in-CharacterClassRange.is ∙ ap (forget_member same_kind) (range_is a))
    (ap (λ k. forget_member same_kind (mirror_contents k)) c.in-CharacterClassRange-other.is ∙ ap (forget_member same_kind) (range_is b))
    c.content_eq.ensures

pub CharacterClassContentsContentEq::content_eq-returns-in_default : goal.CharacterClassContentsContentEq::content_eq-returns-in_default
CharacterClassContentsContentEq::content_eq-returns-in_default t c = (
  λ f. absurd (true≢false (sym f)),
  λ same. let other = one_variant c.args.self.now c.args.other.now _ (ap mirror_contents c.in-CharacterClassRange.is ∙ range_is c.in-CharacterClassRange.it) same in absurd (c.in_default.not-CharacterClassRange other.0 other.1),
)

pub CharacterClassContentsContentEq::content_eq-returns-in-CharacterClassEscape-other : goal.CharacterClassContentsContentEq::content_eq-returns-in-CharacterClassEscape-other
CharacterClassContentsContentEq::content_eq-returns-in-CharacterClassEscape-other t c =
    let a = c.in-CharacterClassEscape.it in
    let b = c.in-CharacterClassEscape-other.that in
    let x = record a { span = nowhere } in
    let y = record b { span = nowhere } in
    by_held escape (escape_or x) x y _ _ refl refl
    (ap (λ k. forget_member same_kind (mirror_contents k)) c.in-CharacterClassEscape.is ∙ ap (forget_member same_kind) (escape_is a))
    (ap (λ k. forget_member same_kind (mirror_contents k)) c.in-CharacterClassEscape-other.is ∙ ap (forget_member same_kind) (escape_is b))
    c.content_eq-in-CharacterClassEscape-other.ensures

pub CharacterClassContentsContentEq::content_eq-returns-in_default-other : goal.CharacterClassContentsContentEq::content_eq-returns-in_default-other
CharacterClassContentsContentEq::content_eq-returns-in_default-other t c = (
  λ f. absurd (true≢false (sym f)),
  λ same. let other = one_variant c.args.self.now c.args.other.now _ (ap mirror_contents c.in-CharacterClassEscape.is ∙ escape_is c.in-CharacterClassEscape.it) same in absurd (c.in_default-other.not-CharacterClassEscape other.0 other.1),
)

pub CharacterClassContentsContentEq::content_eq-returns-in-UnicodePropertyEscape-other : goal.CharacterClassContentsContentEq::content_eq-returns-in-UnicodePropertyEscape-other
CharacterClassContentsContentEq::content_eq-returns-in-UnicodePropertyEscape-other t c =
    let a = c.in-UnicodePropertyEscape.it in
    let b = c.in-UnicodePropertyEscape-other.that in
    let x = record a.value { span = nowhere } in
    let y = record b.value { span = nowhere } in
    by_held property (property_or x) x y _ _ refl refl
    (ap (λ k. forget_member same_kind (mirror_contents k)) c.in-UnicodePropertyEscape.is ∙ ap (forget_member same_kind) (property_is a))
    (ap (λ k. forget_member same_kind (mirror_contents k)) c.in-UnicodePropertyEscape-other.is ∙ ap (forget_member same_kind) (property_is b))
    c.content_eq-in-UnicodePropertyEscape-other.ensures

pub CharacterClassContentsContentEq::content_eq-returns-in_default-other-2 : goal.CharacterClassContentsContentEq::content_eq-returns-in_default-other-2
CharacterClassContentsContentEq::content_eq-returns-in_default-other-2 t c = (
  λ f. absurd (true≢false (sym f)),
  λ same. let other = one_variant c.args.self.now c.args.other.now _ (ap mirror_contents c.in-UnicodePropertyEscape.is ∙ property_is c.in-UnicodePropertyEscape.it) same in absurd (c.in_default-other-2.not-UnicodePropertyEscape other.0 other.1),
)

pub CharacterClassContentsContentEq::content_eq-returns-in-Character-other : goal.CharacterClassContentsContentEq::content_eq-returns-in-Character-other
CharacterClassContentsContentEq::content_eq-returns-in-Character-other t c =
    let a = c.in-Character.it in
    let b = c.in-Character-other.that in
    let x = forget_character same_kind a in
    let y = forget_character same_kind b in
    by_held character (character_or x) x y _ _ refl refl
    (ap (λ k. forget_member same_kind (mirror_contents k)) c.in-Character.is ∙ ap (forget_member same_kind) (character_is a))
    (ap (λ k. forget_member same_kind (mirror_contents k)) c.in-Character-other.is ∙ ap (forget_member same_kind) (character_is b))
    c.content_eq-in-Character-other.ensures

pub CharacterClassContentsContentEq::content_eq-returns-in_default-other-3 : goal.CharacterClassContentsContentEq::content_eq-returns-in_default-other-3
CharacterClassContentsContentEq::content_eq-returns-in_default-other-3 t c = (
  λ f. absurd (true≢false (sym f)),
  λ same. let other = one_variant c.args.self.now c.args.other.now _ (ap mirror_contents c.in-Character.is ∙ character_is c.in-Character.it) same in absurd (c.in_default-other-3.not-Character other.0 other.1),
)

pub CharacterClassContentsContentEq::content_eq-returns-in-NestedCharacterClass-other : goal.CharacterClassContentsContentEq::content_eq-returns-in-NestedCharacterClass-other
CharacterClassContentsContentEq::content_eq-returns-in-NestedCharacterClass-other t c =
    let a = c.in-NestedCharacterClass.it in
    let b = c.in-NestedCharacterClass-other.that in
    let x = class_of c.deref.result.now in
    let y = class_of c.deref-in-NestedCharacterClass-other.result.now in
    by_held nested (nested_or x) x y _ _ refl refl
    (ap (λ k. forget_member same_kind (mirror_contents k)) c.in-NestedCharacterClass.is ∙ ap (forget_member same_kind) (nested_is a) ∙ ap (λ k. nested (class_of k)) (sym c.deref.ensures))
    (ap (λ k. forget_member same_kind (mirror_contents k)) c.in-NestedCharacterClass-other.is ∙ ap (forget_member same_kind) (nested_is b) ∙ ap (λ k. nested (class_of k)) (sym c.deref-in-NestedCharacterClass-other.ensures))
    c.content_eq-in-NestedCharacterClass-other.ensures

pub CharacterClassContentsContentEq::content_eq-returns-in_default-other-4 : goal.CharacterClassContentsContentEq::content_eq-returns-in_default-other-4
CharacterClassContentsContentEq::content_eq-returns-in_default-other-4 t c = (
  λ f. absurd (true≢false (sym f)),
  λ same. let other = one_variant c.args.self.now c.args.other.now _ (ap mirror_contents c.in-NestedCharacterClass.is ∙ nested_is c.in-NestedCharacterClass.it) same in absurd (c.in_default-other-4.not-NestedCharacterClass other.0 other.1),
)

pub CharacterClassContentsContentEq::content_eq-returns-in-ClassStringDisjunction-other : goal.CharacterClassContentsContentEq::content_eq-returns-in-ClassStringDisjunction-other
CharacterClassContentsContentEq::content_eq-returns-in-ClassStringDisjunction-other t c =
    let a = c.in-ClassStringDisjunction.it in
    let b = c.in-ClassStringDisjunction-other.that in
    let x = forget_strings same_kind a.value in
    let y = forget_strings same_kind b.value in
    by_held strings (strings_or x) x y _ _ refl refl
    (ap (λ k. forget_member same_kind (mirror_contents k)) c.in-ClassStringDisjunction.is ∙ ap (forget_member same_kind) (strings_is a))
    (ap (λ k. forget_member same_kind (mirror_contents k)) c.in-ClassStringDisjunction-other.is ∙ ap (forget_member same_kind) (strings_is b))
    c.content_eq-in-ClassStringDisjunction-other.ensures

pub CharacterClassContentsContentEq::content_eq-returns-in_default-other-5 : goal.CharacterClassContentsContentEq::content_eq-returns-in_default-other-5
CharacterClassContentsContentEq::content_eq-returns-in_default-other-5 t c = (
  λ f. absurd (true≢false (sym f)),
  λ same. let other = one_variant c.args.self.now c.args.other.now _ (ap mirror_contents c.in-ClassStringDisjunction.is ∙ strings_is c.in-ClassStringDisjunction.it) same in absurd (c.in_default-other-5.not-ClassStringDisjunction other.0 other.1),
)

pub CharacterClassContentEq::content_eq-returns-then-not-have_same_head : goal.CharacterClassContentEq::content_eq-returns-then-not-have_same_head
CharacterClassContentEq::content_eq-returns-then-not-have_same_head t c =
    let some = c.args.self.now in
    let other = c.args.other.now in
    let h = c.if-not-have_same_head.true in
    let differ : c.have_same_head.result ≡ false = search rules in (
      λ f. absurd (true≢false (sym f)),
      λ same. absurd (true≢false (sym (c.have_same_head.ensures.1 (same_negative some other same, same_strings some other same, same_class_kind some other same)) ∙ differ)),
    )

pub CharacterClassContentEq::content_eq-returns-then-len : goal.CharacterClassContentEq::content_eq-returns-then-len
CharacterClassContentEq::content_eq-returns-then-len t c = (
  λ f. absurd (true≢false (sym f)),
  λ same. let as_long = length_all_zip (λ x y. member_of x ≡ member_of y) _ _ (same_members c.args.self.now c.args.other.now same) in let h = c.if-len.true in search rules,
)

pub CharacterClassContentEq::content_eq-returns-then-not-content_eq : goal.CharacterClassContentEq::content_eq-returns-then-not-content_eq
CharacterClassContentEq::content_eq-returns-then-not-content_eq t c =
    let h = c.if-not-content_eq.true in
    let differ : c.content_eq.result ≡ false = search rules in (
      λ f. absurd (true≢false (sym f)),
      λ same.
          let here = same_here member_of c.loop-i-test.true c.as_slice-contents-items.ensures c.as_slice-others.ensures c.contents-item.is c.index-others-i.is (same_members c.args.self.now c.args.other.now same) in
          absurd (true≢false (sym (c.content_eq.ensures.1 here) ∙ differ)),
    )

pub CharacterClassContentEq::content_eq-loop-i-preserved : goal.CharacterClassContentEq::content_eq-loop-i-preserved
CharacterClassContentEq::content_eq-loop-i-preserved t c =
    let as_long = c.if-len.false in
    let h = c.if-not-content_eq.false in
    let equal : IsTrue c.content_eq.result = search rules in
    let within : c.loop-i.i < length c.as_slice-others.result.now = search rules in
    pairs_more (λ x y. member_of x ≡ member_of y) c.as_slice-contents-items.result.now c.as_slice-others.result.now c.loop-i.i c.contents-item.result c.index-others-i.result c.loop-i-test.true c.contents-item.is c.index-others-i.is within c.loop-i.invariant (c.content_eq.ensures.0 equal)

pub CharacterClassContentEq::content_eq-returns : goal.CharacterClassContentEq::content_eq-returns
CharacterClassContentEq::content_eq-returns t c =
    let as_long = c.if-len.false in
    let h = c.if-not-have_same_head.false in
    let equal : IsTrue c.have_same_head.result = search rules in
    let head = c.have_same_head.ensures.0 equal in
    let within : length c.as_slice-others.result.now ≤ c.loop-i.i = search rules in
    let members = all_same member_of c.loop-i-test.false within c.as_slice-contents-items.ensures c.as_slice-others.ensures c.loop-i.invariant in
    (λ _. class_from_parts c.args.self.now c.args.other.now head.0 head.1 head.2 members, λ _. refl)
