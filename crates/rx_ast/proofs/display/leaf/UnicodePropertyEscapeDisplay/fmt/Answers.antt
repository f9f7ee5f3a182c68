use Rattle.std.proofs.Common.{◌≡◌, refl, false, append_assoc, ap, ap₂, sym, ◌∙◌, ℕ, Bool, true, List, ◌∷◌, ◌++◌, codes, Some}
use Rattle.std.specs.Char.{encode_utf8}
use Rattle.std.specs.Str.{chars, encode_utf8_all, IsUtf8}
use Rattle.std.proofs.lemmas.Str.{encodes-append}
use Rattle.rx_base.specs.Texts.{are_same}
use Rattle.rx_ast.specs.Texts.{property_opener, property_text}
use Rattle.rx_ast.proofs.FormatterWrites.{encoded, encoded_three, other_bytes}
use Rattle.rx_ast.proofs.display.leaf.UnicodePropertyEscapeDisplay.fmt.Goals as goal

-- the opener, a name or a value and the end
whole_bytes : (opener body : List ℕ) (first second : List ℕ) → IsUtf8 opener → chars opener ≡ first → IsUtf8 body → chars body ≡ second →
    encode_utf8_all (first ++ (second ++ codes "}")) ≡ opener ++ (body ++ codes "}")
unfolding encode_utf8
whole_bytes opener body first second a b c d = encoded_three first second (codes "}") ∙ ap₂ (λ xs ys. xs ++ (ys ++ codes "}")) (encoded opener first a b) (encoded body second c d)

pub returns-in-None-clause-writes : goal.returns-in-None-clause-writes
returns-in-None-clause-writes g c =
    let property = c.args.self.now in
    let opener = c.property_opener-opener in
    let name = c.as_str-name in
    let text = ap (λ v. encode_utf8_all (property_text property.negative property.name v)) c.in-None.is in
    other_bytes _ (sym (text ∙ whole_bytes opener.result.now name.result.now _ _ opener.utf8 opener.ensures name.utf8 name.ensures)) c.write.ensures.writes

alone : (negative : Bool) (name value : List ℕ) → are_same name (codes "General_Category") ≡ true → property_text negative name (Some value) ≡ property_opener negative ++ (value ++ codes "}")
alone negative name value general = rw general refl

pub returns-in-Some-clause-writes : goal.returns-in-Some-clause-writes
returns-in-Some-clause-writes g c =
    let property = c.args.self.now in
    let opener = c.property_opener-opener in
    let value = c.as_str in
    let text = ap (λ v. encode_utf8_all (property_text property.negative property.name v)) c.in-Some.is in
    let general = sym c.is_general_category.ensures ∙ c.if-is_general_category.true in
    let body = ap encode_utf8_all (alone property.negative property.name c.in-Some.value general) in
    other_bytes _ (sym (text ∙ body ∙ whole_bytes opener.result.now value.result.now _ _ opener.utf8 opener.ensures value.utf8 value.ensures)) c.write-in-Some.ensures.writes

named : (negative : Bool) (name value : List ℕ) → are_same name (codes "General_Category") ≡ false → property_text negative name (Some value) ≡ property_opener negative ++ (name ++ (61 ∷ (value ++ codes "}")))
named negative name value other = rw other (ap (λ text. property_opener negative ++ text) (append_assoc name (61 ∷ value) (codes "}")))

named_bytes : (opener name value : List ℕ) (first second third : List ℕ) → IsUtf8 opener → chars opener ≡ first → IsUtf8 name → chars name ≡ second → IsUtf8 value → chars value ≡ third →
    encode_utf8_all (first ++ (second ++ (61 ∷ (third ++ codes "}")))) ≡ opener ++ (name ++ (61 ∷ (value ++ codes "}")))
unfolding encode_utf8
named_bytes opener name value first second third a b c d e f =
    encoded_three first second (61 ∷ (third ++ codes "}"))
    ∙ ap₂ (λ xs ys. xs ++ (ys ++ (61 ∷ encode_utf8_all (third ++ codes "}")))) (encoded opener first a b) (encoded name second c d)
    ∙ ap (λ ys. opener ++ (name ++ (61 ∷ ys))) (encodes-append third (codes "}") ∙ ap (λ ys. ys ++ codes "}") (encoded value third e f))

pub returns-in-Some-2-clause-writes : goal.returns-in-Some-2-clause-writes
returns-in-Some-2-clause-writes g c =
    let property = c.args.self.now in
    let opener = c.property_opener-opener in
    let name = c.as_str-name in
    let value = c.as_str-in-Some-2 in
    let text = ap (λ v. encode_utf8_all (property_text property.negative property.name v)) c.in-Some-2.is in
    let other = sym c.is_general_category.ensures ∙ c.if-is_general_category.false in
    let body = ap encode_utf8_all (named property.negative property.name c.in-Some-2.value other) in
    other_bytes _ (sym (text ∙ body ∙ named_bytes opener.result.now name.result.now value.result.now _ _ _ opener.utf8 opener.ensures name.utf8 name.ensures value.utf8 value.ensures)) c.write-in-Some-2.ensures.writes
