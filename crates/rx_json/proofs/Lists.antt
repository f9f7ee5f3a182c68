-- The tokens of values that are made of lists.
use Rattle.std.proofs.Common.{◌≡◌, ◌∙◌, refl, ap, sym, ℕ, List, [], ◌∷◌, ◌++◌, append_assoc}
use Rattle.std.specs.Str.{chars, encode_utf8_all, IsUtf8}
use Rattle.std.proofs.lemmas.Str.{encodes-chars}
use Rattle.json.specs.Token.{Token, end_object, end_array, key}
use Rattle.json.specs.Json.{Json}
use Rattle.json.specs.Tree.{json_tokens, items_tokens, members_tokens}
use Rattle.rx_json.specs.Values.{Field, members_of, items_of, field_tokens, value_tokens}

pub members_are : (fs : List Field) → members_tokens (members_of fs) ≡ field_tokens fs ++ end_object ∷ []
members_are [] = refl
members_are (f ∷ fs) =
    ap (λ (ts : List Token). key f.0 ∷ (json_tokens f.1 ++ ts)) (members_are fs)
    ∙ ap (λ (ts : List Token). key f.0 ∷ ts) (sym (append_assoc (json_tokens f.1) (field_tokens fs) (end_object ∷ [])))

pub items_are : (js : List Json) → items_tokens (items_of js) ≡ value_tokens js ++ end_array ∷ []
items_are [] = refl
items_are (j ∷ js) =
    ap (λ (ts : List Token). json_tokens j ++ ts) (items_are js)
    ∙ sym (append_assoc (json_tokens j) (value_tokens js) (end_array ∷ []))

pub fields_then : (fs gs : List Field) → field_tokens (fs ++ gs) ≡ field_tokens fs ++ field_tokens gs
fields_then [] gs = refl
fields_then (f ∷ fs) gs =
    ap (λ (ts : List Token). key f.0 ∷ (json_tokens f.1 ++ ts)) (fields_then fs gs)
    ∙ ap (λ (ts : List Token). key f.0 ∷ ts) (sym (append_assoc (json_tokens f.1) (field_tokens fs) (field_tokens gs)))

pub values_then : (js ks : List Json) → value_tokens (js ++ ks) ≡ value_tokens js ++ value_tokens ks
values_then [] ks = refl
values_then (j ∷ js) ks =
    ap (λ (ts : List Token). json_tokens j ++ ts) (values_then js ks)
    ∙ sym (append_assoc (json_tokens j) (value_tokens js) (value_tokens ks))

-- The bytes of a text are its characters, encoded.
pub encoded : (bytes cs : List ℕ) → IsUtf8 bytes → chars bytes ≡ cs → bytes ≡ encode_utf8_all cs
encoded bytes cs is_text same = sym (encodes-chars bytes is_text) ∙ ap encode_utf8_all same
