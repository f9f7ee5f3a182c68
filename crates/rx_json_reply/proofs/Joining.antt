-- Fields that are written one after another.
use Rattle.std.proofs.Common.{◌≡◌, ◌∙◌, sym, ap, subst, append-nil, ℕ, List, [], ◌∷◌, ◌++◌, Result, OnOk}
use Rattle.json.specs.Json.{Json}
use Rattle.json.specs.Token.{Token, begin_array, begin_object, end_array, end_object, key}
use Rattle.json.specs.Tree.{json_tokens}
use Rattle.json.specs.Written.{Written}
use Rattle.rx_json.specs.Adding.{Adds}
use Rattle.rx_json.specs.Values.{Field, field_tokens, list_of, object_of, value_tokens}
use Rattle.rx_json.proofs.Adding.{adds_last, adds_then}
use Rattle.rx_json.proofs.Lists.{fields_then, items_are, members_are}

-- the last fields, whose result is handed on
pub fields_last : {E : Type 0} (r : Result (Unit {0}) E) (a b c : Written) (fs gs : List Field) → Adds a b (field_tokens fs) → OnOk r (Adds b c (field_tokens gs)) → OnOk r (Adds a c (field_tokens (fs ++ gs)))
fields_last r a b c fs gs first second =
    subst (λ (ts : List Token). OnOk r (Adds a c ts)) (sym (fields_then fs gs)) (adds_last r a b c (field_tokens fs) (field_tokens gs) first second)

-- fields of an object that was begun
begun_with : (fs gs : List Field) → begin_object ∷ field_tokens (fs ++ gs) ≡ (begin_object ∷ field_tokens fs) ++ field_tokens gs
begun_with fs gs = ap (λ (ts : List Token). begin_object ∷ ts) (fields_then fs gs)

pub object_goes_on : (a b c : Written) (fs gs : List Field) → Adds a b (begin_object ∷ field_tokens fs) → Adds b c (field_tokens gs) → Adds a c (begin_object ∷ field_tokens (fs ++ gs))
object_goes_on a b c fs gs first second =
    subst (λ (ts : List Token). Adds a c ts) (sym (begun_with fs gs)) (adds_then a b c (begin_object ∷ field_tokens fs) (field_tokens gs) first second)

-- an object that is closed
pub object_closed : (a b c : Written) (fs : List Field) → Adds a b (begin_object ∷ field_tokens fs) → Adds b c (end_object ∷ []) → Adds a c (json_tokens (object_of fs))
object_closed a b c fs begun closed =
    subst (λ (ts : List Token). Adds a c (begin_object ∷ ts)) (sym (members_are fs)) (adds_then a b c (begin_object ∷ field_tokens fs) (end_object ∷ []) begun closed)

-- a field whose value is a list
pub list_field : (name : List ℕ) (js : List Json) → field_tokens ((name, list_of js) ∷ []) ≡ key name ∷ (begin_array ∷ (value_tokens js ++ end_array ∷ []))
list_field name js =
    ap (λ (ts : List Token). key name ∷ ts) (append-nil (json_tokens (list_of js)))
    ∙ ap (λ (ts : List Token). key name ∷ (begin_array ∷ ts)) (items_are js)
