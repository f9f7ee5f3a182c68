use Rattle.std.proofs.Common.{refl, ap, sym, ◌∙◌, ◌+◌, Some, map}
use Rattle.rx_ast.specs.ClassTree.{nested, members, mirror_class, mirror_contents}
use Rattle.rx_ast.proofs.ClassEquations.{range_is, escape_is, property_is, character_is, nested_is, strings_is, class_is}
use Rattle.rx_program.specs.declared.survey.Rest.TheVariants as rest
use Rattle.rx_program.specs.SurveyState.{unsupported_member, unsupported_members, member_looks, members_looks, with_rest}
use Rattle.rx_program.proofs.Looking.{looked_contents, looked_nested, refused_member}
use Rattle.rx_program.proofs.survey.Surveyor.look_at_contents.Goals as goal

pub returns-in-UnicodePropertyEscape : goal.returns-in-UnicodePropertyEscape
returns-in-UnicodePropertyEscape c =
    refused_member c.args.contents.now c.in-Some.more.now c.in-Some.first.now _ c.in-Some.ensures.cases.0 (ap (λ m. unsupported_member (mirror_contents m)) c.in-UnicodePropertyEscape.is ∙ ap unsupported_member (property_is c.in-UnicodePropertyEscape.it) ∙ ap (λ p. Some p.span) (sym c.deref.ensures))

pub returns-in-ClassStringDisjunction : goal.returns-in-ClassStringDisjunction
returns-in-ClassStringDisjunction c =
    refused_member c.args.contents.now c.in-Some.more.now c.in-Some.first.now _ c.in-Some.ensures.cases.0 (ap (λ m. unsupported_member (mirror_contents m)) c.in-ClassStringDisjunction.is ∙ ap unsupported_member (strings_is c.in-ClassStringDisjunction.it) ∙ ap (λ p. Some p.span) (sym c.deref-in-ClassStringDisjunction.ensures))

pub returns-in-CharacterClassRange : goal.returns-in-CharacterClassRange
returns-in-CharacterClassRange c =
    looked_contents c.args.self.now c.push_rest.new.self c.args.contents.now c.in-Some.more.now c.in-Some.first.now (rest.Contents c.in-Some.more) c.in-Some.ensures.cases.0
    (ap (λ m. unsupported_member (mirror_contents m)) c.in-CharacterClassRange.is ∙ ap unsupported_member (range_is c.in-CharacterClassRange.field-0)) (record { refuses = refl; named = refl; few = refl }) c.in_ok-push_rest.ensures

pub returns-in-CharacterClassEscape : goal.returns-in-CharacterClassEscape
returns-in-CharacterClassEscape c =
    looked_contents c.args.self.now c.push_rest.new.self c.args.contents.now c.in-Some.more.now c.in-Some.first.now (rest.Contents c.in-Some.more) c.in-Some.ensures.cases.0
    (ap (λ m. unsupported_member (mirror_contents m)) c.in-CharacterClassEscape.is ∙ ap unsupported_member (escape_is c.in-CharacterClassEscape.field-0)) (record { refuses = refl; named = refl; few = refl }) c.in_ok-push_rest.ensures

pub returns-in-Character : goal.returns-in-Character
returns-in-Character c =
    looked_contents c.args.self.now c.push_rest.new.self c.args.contents.now c.in-Some.more.now c.in-Some.first.now (rest.Contents c.in-Some.more) c.in-Some.ensures.cases.0
    (ap (λ m. unsupported_member (mirror_contents m)) c.in-Character.is ∙ ap unsupported_member (character_is c.in-Character.field-0)) (record { refuses = refl; named = refl; few = refl }) c.in_ok-push_rest.ensures

pub returns-in_ok-push_rest-in-NestedCharacterClass : goal.returns-in_ok-push_rest-in-NestedCharacterClass
returns-in_ok-push_rest-in-NestedCharacterClass c =
    let r = rest.Contents c.in-Some.more in
    let q = rest.Contents c.as_slice.result in
    let k = c.deref-in-NestedCharacterClass.result.now in
    let is = ap mirror_contents c.in-NestedCharacterClass.is ∙ nested_is c.in-NestedCharacterClass.it ∙ ap (λ b. nested (mirror_class b)) (sym c.deref-in-NestedCharacterClass.ensures) ∙ ap nested (class_is k) in
    looked_nested c.args.self.now c.push_rest-in-NestedCharacterClass.new.self c.args.contents.now c.in-Some.more.now c.as_slice.result.now c.in-Some.first.now r q c.in-Some.ensures.cases.0
    (ap unsupported_member is ∙ ap (λ b. unsupported_members (members (map mirror_contents b))) (sym c.as_slice.ensures))
    (ap member_looks is ∙ ap (λ b. 1 + members_looks (members (map mirror_contents b))) (sym c.as_slice.ensures))
    (record { refuses = refl; named = refl; few = refl }) (record { refuses = refl; named = refl; few = refl })
    (c.in_ok-push_rest-in-NestedCharacterClass.ensures ∙ ap (λ s. with_rest s q) c.in_ok-push_rest.ensures)
