-- Objects, lists and members that were written part by part.
use Rattle.std.proofs.Common.{◌≡◌, ◌∙◌, refl, ap, sym, subst, append-nil, append_assoc, ℕ, List, [], ◌∷◌, ◌++◌, Result, OnOk}
use Rattle.std.specs.Str.{chars, IsUtf8}
use Rattle.json.specs.Token.{Token, begin_object, end_object, begin_array, end_array, key, string}
use Rattle.json.specs.Json.{Json}
use Rattle.json.specs.Tree.{json_tokens}
use Rattle.json.specs.Written.{Written}
use Rattle.rx_json.specs.Adding.{Adds}
use Rattle.rx_json.specs.Values.{Field, field_tokens, list_of, object_of, text, value_tokens}
use Rattle.rx_json.proofs.Adding.{adds_last, adds_nothing, adds_then}
use Rattle.rx_json.proofs.Lists.{encoded, fields_then, items_are, members_are}

-- a text, by its characters
pub text_added : {a b : Written} {bytes : List ℕ} (cs : List ℕ) → IsUtf8 bytes → chars bytes ≡ cs → Adds a b (string bytes ∷ []) → Adds a b (json_tokens (text cs))
text_added {a = a} {b = b} {bytes = bytes} cs is_text same added = subst (λ (s : List ℕ). Adds a b (string s ∷ [])) (encoded bytes cs is_text same) added

-- fields between braces
pub object_added : {a b c d : Written} (fs : List Field) → Adds a b (begin_object ∷ []) → Adds b c (field_tokens fs) → Adds c d (end_object ∷ []) → Adds a d (json_tokens (object_of fs))
object_added {a = a} {b = b} {c = c} {d = d} fs opened filled closed =
    subst (λ (ts : List Token). Adds a d (begin_object ∷ ts)) (sym (members_are fs))
    (adds_then a b d (begin_object ∷ []) (field_tokens fs ++ end_object ∷ []) opened (adds_then b c d (field_tokens fs) (end_object ∷ []) filled closed))

-- values between brackets
pub list_added : {a b c d : Written} (js : List Json) → Adds a b (begin_array ∷ []) → Adds b c (value_tokens js) → Adds c d (end_array ∷ []) → Adds a d (json_tokens (list_of js))
list_added {a = a} {b = b} {c = c} {d = d} js opened filled closed =
    subst (λ (ts : List Token). Adds a d (begin_array ∷ ts)) (sym (items_are js))
    (adds_then a b d (begin_array ∷ []) (value_tokens js ++ end_array ∷ []) opened (adds_then b c d (value_tokens js) (end_array ∷ []) filled closed))

-- a value after its name
pub member_added : {a b c : Written} (name : List ℕ) (j : Json) → Adds a b (key name ∷ []) → Adds b c (json_tokens j) → Adds a c (field_tokens ((name, j) ∷ []))
member_added {a = a} {b = b} {c = c} name j named valued =
    subst (λ (ts : List Token). Adds a c (key name ∷ ts)) (sym (append-nil (json_tokens j))) (adds_then a b c (key name ∷ []) (json_tokens j) named valued)

-- fields after fields
pub fields_added : {a b c : Written} (fs gs : List Field) → Adds a b (field_tokens fs) → Adds b c (field_tokens gs) → Adds a c (field_tokens (fs ++ gs))
fields_added {a = a} {b = b} {c = c} fs gs first second = subst (Adds a c) (sym (fields_then fs gs)) (adds_then a b c (field_tokens fs) (field_tokens gs) first second)

-- and the last ones, whose result is handed on
pub fields_last : {E : Type 0} (r : Result (Unit {0}) E) (a b c : Written) (fs gs : List Field) → Adds a b (field_tokens fs) → OnOk r (Adds b c (field_tokens gs)) → OnOk r (Adds a c (field_tokens (fs ++ gs)))
fields_last r a b c fs gs first second = subst (λ (ts : List Token). OnOk r (Adds a c ts)) (sym (fields_then fs gs)) (adds_last r a b c (field_tokens fs) (field_tokens gs) first second)

-- a field in other words
pub field_is : {a b : Written} {f g : Field} → f ≡ g → Adds a b (field_tokens (f ∷ [])) → Adds a b (field_tokens (g ∷ []))
field_is {a = a} {b = b} same added = subst (λ (it : Field). Adds a b (field_tokens (it ∷ []))) same added

-- Of some tokens a front was added, and these are left.
pub record AddsFront (old new : Written) (all left : List Token) : Type 0 where
  pub front : List Token
  pub cut : all ≡ front ++ left
  pub added : Adds old new front

-- nothing was added so far
pub front_none : (w : Written) (all : List Token) → AddsFront w w all all
front_none w all = record { front = []; cut = refl; added = adds_nothing w }

-- some more was added of what was left
pub front_more : {old mid new : Written} {all left : List Token} (ts rest : List Token) → left ≡ ts ++ rest → Adds mid new ts → AddsFront old mid all left → AddsFront old new all rest
front_more {old = old} {mid = mid} {new = new} ts rest cut added so_far = record {
  front = so_far.front ++ ts;
  cut = so_far.cut ∙ ap (λ (xs : List Token). so_far.front ++ xs) cut ∙ sym (append_assoc so_far.front ts rest);
  added = adds_then old mid new so_far.front ts so_far.added added;
}

-- nothing is left
pub front_all : {old new : Written} {all left : List Token} → left ≡ [] → AddsFront old new all left → Adds old new all
front_all {old = old} {new = new} none so_far =
    subst (Adds old new) (sym (so_far.cut ∙ ap (λ (xs : List Token). so_far.front ++ xs) none ∙ append-nil so_far.front)) so_far.added
