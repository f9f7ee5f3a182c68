-- Names, and what is called so.
use Rattle.std.proofs.Common.{◌≡◌, ◌≢◌, ◌∙◌, refl, sym, ap, ℕ, Bool, true, false, cond, Some, None, List, [], ◌∷◌, codes, if◌then◌else◌}
use Rattle.std.specs.List.{find}
use Rattle.std.proofs.lemmas.Slice.Eq.{bytes_eq-Decides}
use Rattle.rx_base.specs.Texts.{are_same}
use Rattle.rx_json_reply.specs.declared.field.Field.{Field}
use Rattle.rx_model.specs.declared.form.Form.TheVariants.{Literal, Constructor}
use Rattle.rx_json_reply.specs.Faults.{form_named}
use Rattle.rx_json_reply.specs.Fields.{field_name, field_of, fields}

-- texts that are the same are equal, and the other way
pub same_equal : (cs ds : List ℕ) → are_same cs ds ≡ true → cs ≡ ds
same_equal cs ds same = (bytes_eq-Decides cs ds).0 same

pub equal_same : (cs ds : List ℕ) → cs ≡ ds → are_same cs ds ≡ true
equal_same cs ds equal = (bytes_eq-Decides cs ds).1 equal

pub other_not_same : (cs ds : List ℕ) → cs ≢ ds → are_same cs ds ≡ false
other_not_same cs ds other = go (are_same cs ds) refl
  where
    go : (b : Bool) → are_same cs ds ≡ b → are_same cs ds ≡ false
    go true is = absurd (other (same_equal cs ds is))
    go false is = is

found_nowhere : {X : Type 0} (test : X → Bool) (xs : List X) → ((x : X) → test x ≡ false) → find test xs ≡ None
found_nowhere test [] none = refl
found_nowhere test (x ∷ xs) none = ap (λ (b : Bool). cond b (Some x) (find test xs)) (none x) ∙ found_nowhere test xs none

pub no_field : (name : List ℕ) → ((f : Field) → name ≢ field_name f) → field_of name ≡ None
no_field name other = found_nowhere (λ f. are_same (field_name f) name) fields (λ f. other_not_same (field_name f) name (λ e. other f (sym e)))

-- a name of neither form
pub no_form : (name : List ℕ) → name ≢ codes "literal" → name ≢ codes "constructor" → form_named name ≡ None
no_form name literal constructor =
    ap (λ (b : Bool). if b then Some Literal else (if are_same (codes "constructor") name then Some Constructor else None)) (other_not_same (codes "literal") name (λ e. literal (sym e)))
    ∙ ap (λ (b : Bool). if b then Some Constructor else None) (other_not_same (codes "constructor") name (λ e. constructor (sym e)))
