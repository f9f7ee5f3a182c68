-- With neither `u` nor `v` an escape begins at each backslash, but at one that ends the text, and before a `k` where `\k` is a reference.
use Rattle.std.proofs.Common.{◌≡◌, ℕ, ◌==◌, Bool, true, false, cond, not, is_some, ◌||◌, ◌&&◌, List, [], ◌∷◌, Option, option_map, Some, None, codes, refl, ap, ◌∙◌, subst, arith, inl, inr}
use Rattle.std.proofs.lemmas.Bool.{eqb-true, cond-true, cond-false, cases_Bool, not-true, or_parts, not-false}
use Rattle.std.proofs.lemmas.Bool.Decides.{nat_tests}
use Rattle.std.proofs.Math.Bool.{and-false}
use Rattle.rx_base.specs.Characters.{is_within, is_one_of}
use Rattle.rx_tables.specs.Characters.{control_escape_value, control_letter_value, is_decimal_digit, is_octal_digit, is_reserved_punctuator}
use Rattle.rx_ast.specs.declared.leaf.BoundaryAssertionKind.{BoundaryAssertionKind}
use Rattle.rx_ast.specs.declared.leaf.CharacterClassEscapeKind.{CharacterClassEscapeKind}
use Rattle.rx_ast.specs.declared.leaf.CharacterKind.{CharacterKind}
use Rattle.rx_units.specs.Digits.{front_is, hex_number}
use Rattle.rx_ast.specs.declared.leaf.CharacterKind.TheVariants as kinds
use Rattle.rx_units.proofs.Choices.{both, chosen, low_next}
use Rattle.rx_model.specs.Classes.ClassFronts.{AtomRead, atom_read, no_atom, character_atom, escape_atom, escape_in_class}
use Rattle.rx_model.specs.Classes.ClassTokens.{Atom}
use Rattle.rx_model.specs.Characters.Decoding.{four_at, after_u}
use Rattle.rx_model.specs.Inputs.Environment.{Environment, is_sets, is_unicode}
use Rattle.rx_model.specs.Characters.EscapeFronts.{EscapeRead, escaped, nothing, too_many, no_unicode, escape_if, unicode_read, two_at, escape_after, escape_at, control_after, octal_at, digit_at, legacy_at, or_legacy, any_escape_at, class_escape_at}
use Rattle.rx_model.specs.Reading.Fronts.{boundary_at, backslash_token, backslash_front, escaped_token, is_reference, indexed_token, digits, digits_after, Digits}
use Rattle.rx_model.specs.Characters.LegacyEscapes.{is_free, two_next, four_next, is_class_control}
use Rattle.rx_model.specs.Properties.PropertyForms.{begins_property}
use Rattle.rx_model.specs.Refusals.Stops.{is_hyphen_escaped, begins_class_escape}
use Rattle.rx_model.specs.Trees.Token.{Token}
use Rattle.rx_model.proofs.Characters.Escapes.{escape_no_limit}
use Rattle.rx_model.proofs.Classes.ClassFronts.{no_legacy_hyphen, no_legacy_punctuator}
use Rattle.rx_model.proofs.Refusals.Stops.{some_there}
use Rattle.rx_model.proofs.Characters.LegacyEscapes.{swapped}

-- some escape is read
abbrev IsRead : EscapeRead → Type 0
IsRead r = (k : CharacterKind) × (v : ℕ) × (n : ℕ) × (r ≡ escaped k v n)

-- none of the escapes of every mode is read
abbrev NotEscaped : List ℕ → Type 0
NotEscaped w = (k : CharacterKind) (v n : ℕ) → escape_at false w ≡ escaped k v n → ⊥

letter_read : (c : ℕ) (w : List ℕ) → is_some (control_letter_value c) ≡ true → NotEscaped (99 ∷ c ∷ w) → ⊥
unfolding escape_at
letter_read c w h n = let v = some_there (control_letter_value c) h in n kinds.ControlLetter v.0 2 (ap (escape_if kinds.ControlLetter 2) v.1)

null_read : (w : List ℕ) → front_is is_decimal_digit w ≡ false → NotEscaped (48 ∷ w) → ⊥
unfolding escape_at
null_read w h n = n kinds.Null 0 1 (cond-false (front_is is_decimal_digit w) _ _ h)

value_read : (c : ℕ) (w : List ℕ) (v : ℕ) → control_escape_value c ≡ Some v → NotEscaped (c ∷ w) → ⊥
unfolding escape_at
value_read c w v h n = n kinds.SingleEscape v 1 (ap (λ o. escape_after false o c w) h)

two_some : (w : List ℕ) → is_some (two_next w) ≡ true → (v : ℕ) × (two_at w ≡ Some v)
two_some [] h = absurd (let no : ⊥ = cc h in no)
two_some (a ∷ []) h = absurd (let no : ⊥ = cc h in no)
two_some (a ∷ b ∷ w) h = some_there (hex_number (a ∷ b ∷ [])) h

four_some : (w : List ℕ) → is_some (four_next w) ≡ true → (v : ℕ × List ℕ) × (four_at w ≡ Some v)
four_some [] h = absurd (let no : ⊥ = cc h in no)
four_some (a ∷ []) h = absurd (let no : ⊥ = cc h in no)
four_some (a ∷ b ∷ []) h = absurd (let no : ⊥ = cc h in no)
four_some (a ∷ b ∷ c ∷ []) h = absurd (let no : ⊥ = cc h in no)
four_some (a ∷ b ∷ c ∷ d ∷ w) h = let v = some_there (hex_number (a ∷ b ∷ c ∷ d ∷ [])) h in ((v.0, w), ap (option_map (λ v. (v, w))) v.1)

two_read : (w : List ℕ) → is_some (two_next w) ≡ true → NotEscaped (120 ∷ w) → ⊥
unfolding escape_at
two_read w h n = let v = two_some w h in n kinds.HexadecimalEscape v.0 3 (ap (escape_if kinds.HexadecimalEscape 3) v.1)

four_read : (w : List ℕ) → is_some (four_next w) ≡ true → NotEscaped (117 ∷ w) → ⊥
unfolding escape_at
four_read w h n = let v = four_some w h in n kinds.UnicodeEscape v.0.0 5 (ap (λ o. unicode_read (after_u false o w)) v.1)

letter_cases : (c : ℕ) → is_one_of (codes "dDsSwWfnrtvb") c ≡ true → class_escape_at c ≡ None → (c == 98) ≡ false → is_some (control_escape_value c) ≡ true
letter_cases c h k b = grind (arith, nat_tests)

octal_is_read : (c : ℕ) (w : List ℕ) → IsRead (octal_at c w)
octal_is_read c [] = (_, _, _, refl)
octal_is_read c (d ∷ []) = elim (cases_Bool (is_octal_digit d)) [ inl h ↦ (_, _, _, cond-true (is_octal_digit d) _ _ h) | inr h ↦ (_, _, _, cond-false (is_octal_digit d) _ _ h) ]
octal_is_read c (d ∷ g ∷ w) = elim (cases_Bool (is_octal_digit d)) [
  | inl h ↦ elim (cases_Bool (is_within 48 51 c && is_octal_digit g)) [
    | inl k ↦ (_, _, _, cond-true (is_octal_digit d) _ _ h ∙ cond-true (is_within 48 51 c && is_octal_digit g) _ _ k)
    | inr k ↦ (_, _, _, cond-true (is_octal_digit d) _ _ h ∙ cond-false (is_within 48 51 c && is_octal_digit g) _ _ k)
  ]
  | inr h ↦ (_, _, _, cond-false (is_octal_digit d) _ _ h)
]

read_by : (r s : EscapeRead) → r ≡ s → IsRead s → IsRead r
read_by r s h k = (k.0, k.1, k.2, h ∙ k.3)

module _ (inside : Bool) (e : Environment) where
  control_is_read : (w : List ℕ) → NotEscaped (99 ∷ w) → IsRead (control_after inside w)
  control_is_read [] n = (_, _, _, refl)
  control_is_read (c ∷ w) n = elim (cases_Bool (is_some (control_letter_value c))) [
    | inl h ↦ absurd (letter_read c w h n)
    | inr h ↦ elim (cases_Bool (inside && is_class_control c)) [
      | inl k ↦ (_, _, _, cond-false (is_some (control_letter_value c)) _ _ h ∙ cond-true (inside && is_class_control c) _ _ k)
      | inr k ↦ (_, _, _, cond-false (is_some (control_letter_value c)) _ _ h ∙ cond-false (inside && is_class_control c) _ _ k)
    ]
  ]

  digit_is_read : (c : ℕ) (w : List ℕ) → NotEscaped (c ∷ w) → is_free inside e.groups (c ∷ w) ≡ true → IsRead (digit_at inside e.groups c w)
  digit_is_read c w n f = elim (cases_Bool (c == 48 && not (front_is is_decimal_digit w))) [
    | inl h ↦
        let p = both (c == 48) (not (front_is is_decimal_digit w)) h in
        absurd (null_read w (not-true _ p.1) (subst (λ c. NotEscaped (c ∷ w)) (eqb-true c 48 p.0) n))
    | inr h ↦ elim (cases_Bool (is_octal_digit c)) [
      | inl o ↦ read_by _ (octal_at c w) (cond-false (not (is_free inside e.groups (c ∷ w))) _ _ (ap not f) ∙ cond-false (c == 48 && not (front_is is_decimal_digit w)) _ _ h ∙ cond-true (is_octal_digit c) _ _ o) (octal_is_read c w)
      | inr o ↦ (_, _, _, cond-false (not (is_free inside e.groups (c ∷ w))) _ _ (ap not f) ∙ cond-false (c == 48 && not (front_is is_decimal_digit w)) _ _ h ∙ cond-false (is_octal_digit c) _ _ o)
    ]
  ]

  legacy_is_read : (c : ℕ) (w : List ℕ) → NotEscaped (c ∷ w) → (c == 107 && e.named) ≡ false → class_escape_at c ≡ None → (c == 98) ≡ false → (not inside && c == 66) ≡ false →
      is_free inside e.groups (c ∷ w) ≡ true → IsRead (legacy_at inside e (c ∷ w))
  unfolding legacy_at
  legacy_is_read c w n k d b boundary f = elim (cases_Bool (c == 99)) [
    | inl h ↦ read_by _ (control_after inside w) (cond-true (c == 99) _ _ h) (control_is_read w (subst (λ c. NotEscaped (c ∷ w)) (eqb-true c 99 h) n))
    | inr h ↦ elim (cases_Bool (is_decimal_digit c)) [
      | inl i ↦ read_by _ (digit_at inside e.groups c w) (cond-false (c == 99) _ _ h ∙ cond-true (is_decimal_digit c) _ _ i) (digit_is_read c w n f)
      | inr i ↦ elim (cases_Bool (is_one_of (codes "dDsSwWfnrtvb") c)) [
        | inl j ↦ let v = some_there (control_escape_value c) (letter_cases c j d b) in absurd (value_read c w v.0 v.1 n)
        | inr j ↦
            let none : (is_one_of (codes "dDsSwWfnrtvb") c || ((e.named && c == 107) || (not inside && c == 66))) ≡ false = others_none c j k boundary in
            elim (cases_Bool (c == 120 && is_some (two_next w))) [
              | inl x ↦ let p = both (c == 120) (is_some (two_next w)) x in absurd (two_read w p.1 (subst (λ c. NotEscaped (c ∷ w)) (eqb-true c 120 p.0) n))
              | inr x ↦ elim (cases_Bool (c == 117 && is_some (four_next w))) [
                | inl u ↦ let p = both (c == 117) (is_some (four_next w)) u in absurd (four_read w p.1 (subst (λ c. NotEscaped (c ∷ w)) (eqb-true c 117 p.0) n))
                | inr u ↦ (_, _, _, cond-false (c == 99) _ _ h ∙ cond-false (is_decimal_digit c) _ _ i ∙ cond-false _ _ _ none ∙ cond-false (c == 120 && is_some (two_next w)) _ _ x ∙ cond-false (c == 117 && is_some (four_next w)) _ _ u)
              ]
            ]
      ]
    ]
  ]
    where
      others_none : (c : ℕ) → is_one_of (codes "dDsSwWfnrtvb") c ≡ false → (c == 107 && e.named) ≡ false → (not inside && c == 66) ≡ false →
          (is_one_of (codes "dDsSwWfnrtvb") c || ((e.named && c == 107) || (not inside && c == 66))) ≡ false
      others_none c h k b = rw (h, b, swapped (c == 107) e.named k) refl

  -- some escape is read
  any_is_read : (c : ℕ) (w : List ℕ) → (r : EscapeRead) → escape_at false (c ∷ w) ≡ r → (c == 107 && e.named) ≡ false → class_escape_at c ≡ None → (c == 98) ≡ false → (not inside && c == 66) ≡ false →
      is_free inside e.groups (c ∷ w) ≡ true → IsRead (or_legacy r false (legacy_at inside e (c ∷ w)))
  any_is_read c w (escaped j v n) f k d b boundary free = (_, _, _, refl)
  any_is_read c w nothing f k d b boundary free = legacy_is_read c w (λ j v n g. cc (f, g)) k d b boundary free
  any_is_read c w (too_many n) f k d b boundary free = absurd (escape_no_limit (c ∷ w) n f)
  any_is_read c w no_unicode f k d b boundary free = legacy_is_read c w (λ j v n g. cc (f, g)) k d b boundary free

-- Outside classes a token is read.
abbrev IsSome : Option (Token × ℕ) → Type 0
IsSome o = (p : Token × ℕ) × (o ≡ Some p)

read_token : (r : EscapeRead) → IsRead r → IsSome (escaped_token r)
read_token r h = (_, ap escaped_token h.3)

digits_token : (d : Digits) → IsSome (indexed_token d)
digits_token (digits n count w) = (_, refl)

module _ (e : Environment) (m : is_unicode e.mode ≡ false) where
  kinds_token : (c : ℕ) (w : List ℕ) → (c == 107 && e.named) ≡ false → is_reference e (c ∷ w) ≡ false → (b : Option BoundaryAssertionKind) → boundary_at e c ≡ b →
      (d : Option CharacterClassEscapeKind) → class_escape_at c ≡ d → IsSome (backslash_token b d (any_escape_at false e (c ∷ w)))
  kinds_token c w k r (Some b) f d g = (_, refl)
  kinds_token c w k r None f (Some d) g = (_, refl)
  kinds_token c w k r None f None g =
      read_token (any_escape_at false e (c ∷ w))
      (read_by _ _ (ap (λ u. or_legacy (escape_at u (c ∷ w)) u (legacy_at false e (c ∷ w))) m)
      (any_is_read false e c w (escape_at false (c ∷ w)) refl k g (no_b c f) (no_capital c f) (free_there c w r)))
    where
      no_b : (c : ℕ) → boundary_at e c ≡ None → (c == 98) ≡ false
      no_b c f = elim (chosen (c == 98) f) [ inl p ↦ absurd (let no : ⊥ = cc p.1 in no) | inr p ↦ p.0 ]

      no_capital : (c : ℕ) → boundary_at e c ≡ None → (c == 66) ≡ false
      no_capital c f = elim (chosen (c == 98) f) [
        | inl p ↦ absurd (let no : ⊥ = cc p.1 in no)
        | inr p ↦ elim (chosen (c == 66) p.1) [ inl q ↦ absurd (let no : ⊥ = cc q.1 in no) | inr q ↦ q.0 ]
      ]

      free_there : (c : ℕ) (w : List ℕ) → is_reference e (c ∷ w) ≡ false → is_free false e.groups (c ∷ w) ≡ true
      free_there c w h = ap not (rw m at h)

  pub backslash_read : (c : ℕ) (w : List ℕ) → (c == 107 && e.named) ≡ false → IsSome (backslash_front e (c ∷ w))
  unfolding backslash_front
  backslash_read c w k = elim (cases_Bool (is_reference e (c ∷ w))) [
    | inl h ↦ let t = digits_token (digits_after 0 0 (c ∷ w)) in (t.0, cond-true (is_reference e (c ∷ w)) _ _ h ∙ t.1)
    | inr h ↦
        let t = kinds_token c w k h (boundary_at e c) refl (class_escape_at c) refl in (
          t.0,
          cond-false (is_reference e (c ∷ w)) _ _ h ∙ cond-false (c == 107 && e.named) _ _ k
              ∙ cond-false (begins_property c && is_unicode e.mode) _ _ (ap (λ u. begins_property c && u) m ∙ and-false (begins_property c)) ∙ t.1,
        )
  ]

-- In a class an atom is read.
abbrev IsAtomRead : AtomRead → Type 0
IsAtomRead r = (a : Atom) × (n : ℕ) × (r ≡ atom_read a n)

read_atom : (r : EscapeRead) → IsRead r → IsAtomRead (character_atom r)
read_atom r h = (_, _, ap character_atom h.3)

module _ (e : Environment) (m : is_unicode e.mode ≡ false) where
  kinds_atom : (c : ℕ) (w : List ℕ) → (c == 107 && e.named) ≡ false → (c == 98) ≡ false → (d : Option CharacterClassEscapeKind) → class_escape_at c ≡ d → IsAtomRead (escape_atom d (any_escape_at true e (c ∷ w)))
  kinds_atom c w k b (Some d) g = (_, _, refl)
  kinds_atom c w k b None g =
      read_atom (any_escape_at true e (c ∷ w))
      (read_by _ _ (ap (λ u. or_legacy (escape_at u (c ∷ w)) u (legacy_at true e (c ∷ w))) m) (any_is_read true e c w (escape_at false (c ∷ w)) refl k g b refl refl))

  pub atom_after_backslash : (c : ℕ) (w : List ℕ) → (c == 107 && e.named) ≡ false → IsAtomRead (escape_in_class e (c ∷ w))
  atom_after_backslash c w k = elim (cases_Bool (c == 98)) [
    | inl h ↦ (_, _, cond-true (c == 98) _ _ h)
    | inr h ↦
        let t = kinds_atom c w k h (class_escape_at c) refl in (
          t.0,
          t.1,
          cond-false (c == 98) _ _ h ∙ cond-false (is_hyphen_escaped e.mode && c == 45) _ _ (no_legacy_hyphen e.mode c m)
              ∙ cond-false (is_sets e.mode && is_reserved_punctuator c) _ _ (no_legacy_punctuator e.mode c m)
              ∙ cond-false (begins_property c && is_unicode e.mode) _ _ (ap (λ u. begins_property c && u) m ∙ and-false (begins_property c)) ∙ t.2,
        )
  ]

  -- and none where one begins by no rule of the mode
  pub no_atom_after_backslash : (w : List ℕ) → begins_class_escape e w ≡ false → escape_in_class e w ≡ no_atom
  unfolding escape_at legacy_at
  no_atom_after_backslash [] h = refl
  no_atom_after_backslash (c ∷ w) h =
      let last = (or_parts _ (not (is_unicode e.mode) && not (c == 107 && e.named)) h).1 in
      let k : (c == 107 && e.named) ≡ true = not-false _ (low_next (not (is_unicode e.mode)) _ (ap not m) last) in
      let p = both (c == 107) e.named k in
      ap (λ c. escape_in_class e (c ∷ w)) (eqb-true c 107 p.0)
      ∙ cond-false (is_hyphen_escaped e.mode && 107 == 45) _ _ (no_legacy_hyphen e.mode 107 m)
      ∙ cond-false (is_sets e.mode && is_reserved_punctuator 107) _ _ (no_legacy_punctuator e.mode 107 m)
      ∙ ap (λ u. character_atom (or_legacy (escape_at u (107 ∷ w)) u (legacy_at true e (107 ∷ w)))) m
      ∙ ap (λ b. character_atom (cond ((b && true) || false) nothing (escaped kinds.Identifier 107 1))) p.1
