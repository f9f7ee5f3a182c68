-- Lines in which no request is.
use Rattle.std.proofs.Common.{◌≡◌, ◌∙◌, sym, ap, refl, subst, ℕ, true, ◌==◌, List, [], ◌∷◌, ◌++◌}
use Rattle.std.proofs.lemmas.Bool.{and_parts, eq-eqb, false≢true, not-true}
use Rattle.rx_model.specs.declared.form.Form.{Form}
use Rattle.rx_run.specs.Lines.{lacks}
use Rattle.rx_run.specs.Request.{Request, IsRequest, form_field}

-- the byte occurs
lacks-there : (byte : ℕ) (front back : List ℕ) → lacks byte (front ++ byte ∷ back) ≡ true → ⊥
unfolding lacks
lacks-there byte [] back h = false≢true (sym (not-true (byte == byte) (and_parts _ _ h).0) ∙ eq-eqb byte byte refl)
lacks-there byte (b ∷ front) back h = lacks-there byte front back (and_parts _ _ h).1

differs : (byte : ℕ) (xs : List ℕ) → lacks byte (byte ∷ xs) ≡ true → ⊥
differs byte xs h = lacks-there byte [] xs h

-- what stands before and after the first such byte is one
cut_once : (byte : ℕ) (a b c d : List ℕ) → lacks byte a ≡ true → lacks byte c ≡ true → a ++ byte ∷ b ≡ c ++ byte ∷ d → (a ≡ c) × (b ≡ d)
unfolding lacks
cut_once byte [] b [] d h g e = (refl, cc)
cut_once byte [] b (y ∷ c) d h g e = absurd (differs byte c (let P : ℕ → Type 0 = λ z. lacks byte (z ∷ c) ≡ true in let same : y ≡ byte = cc in subst P same g))
cut_once byte (x ∷ a) b [] d h g e = absurd (differs byte a (let P : ℕ → Type 0 = λ z. lacks byte (z ∷ a) ≡ true in let same : x ≡ byte = cc in subst P same h))
cut_once byte (x ∷ a) b (y ∷ c) d h g e =
    let head : x ≡ y = cc in
    let tail : a ++ byte ∷ b ≡ c ++ byte ∷ d = cc in
    let rest = cut_once byte a b c d (and_parts _ _ h).1 (and_parts _ _ g).1 tail in
    (ap (λ (z : ℕ). z ∷ a) head ∙ ap (λ (z : List ℕ). y ∷ z) rest.0, rest.1)

-- no TAB
pub no_tab : (line : List ℕ) → lacks 9 line ≡ true → (request : Request) → ¬ IsRequest line request
no_tab line h request is =
    let P : List ℕ → Type 0 = λ x. lacks 9 x ≡ true in
    lacks-there 9 (form_field request.form) (is.flags_field ++ 9 ∷ is.text_field) (subst P is.fields.cut h)

-- a first field that stands for no form
pub no_form : (line field rest : List ℕ) → line ≡ field ++ 9 ∷ rest → lacks 9 field ≡ true → ((form : Form) → ¬ (field ≡ form_field form)) → (request : Request) → ¬ IsRequest line request
no_form line field rest e h none request is =
    none request.form (cut_once 9 field rest (form_field request.form) (is.flags_field ++ 9 ∷ is.text_field) h is.fields.first_tab (sym e ∙ is.fields.cut)).0

-- no second TAB
pub one_tab : (line field rest : List ℕ) → line ≡ field ++ 9 ∷ rest → lacks 9 field ≡ true → lacks 9 rest ≡ true → (request : Request) → ¬ IsRequest line request
one_tab line field rest e h g request is =
    let same : rest ≡ is.flags_field ++ 9 ∷ is.text_field = (cut_once 9 field rest (form_field request.form) (is.flags_field ++ 9 ∷ is.text_field) h is.fields.first_tab (sym e ∙ is.fields.cut)).1 in
    let P : List ℕ → Type 0 = λ x. lacks 9 x ≡ true in
    lacks-there 9 is.flags_field is.text_field (subst P same g)
