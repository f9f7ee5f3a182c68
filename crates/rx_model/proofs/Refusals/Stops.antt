-- Where terms end no token is spelled, but for a closer at `)`.
use Rattle.std.proofs.Common.{◌≡◌, ℕ, ◌+◌, ◌*◌, ◌==◌, true, false, not, is_some, ◌||◌, ◌&&◌, Option, Some, None, List, [], ◌∷◌, ◌++◌, length, refl, sym, ap, ◌∙◌, subst, codes, arith, inl, inr}
use Rattle.std.proofs.lemmas.Bool.{eqb-true, or_cases, or_parts, or_from, not-true, true≢false, false_from_ne_true, both_ways}
use Rattle.std.proofs.lemmas.Bool.Decides.{nat_tests}
use Rattle.std.proofs.lemmas.Option.{option_and_then_some}
use Rattle.rx_base.specs.Characters.{is_within, is_one_of}
use Rattle.rx_tables.specs.Characters.{is_decimal_digit, control_escape_value, control_letter_value, hex_digit_value}
use Rattle.rx_ast.specs.declared.leaf.BoundaryAssertionKind.{BoundaryAssertionKind}
use Rattle.rx_ast.specs.declared.leaf.CharacterClassEscapeKind.{CharacterClassEscapeKind}
use Rattle.rx_ast.specs.declared.leaf.CharacterKind.{CharacterKind}
use Rattle.rx_ast.specs.declared.leaf.CharacterKind.TheVariants as kinds
use Rattle.rx_units.specs.declared.code_point.CodePoint.{CodePoint}
use Rattle.rx_units.specs.Units.{values}
use Rattle.rx_units.specs.Digits.{front_is, is_hex_digit, hex_number}
use Rattle.rx_units.proofs.Choices.{both}
use Rattle.rx_model.specs.Reading.Boundaries.{has_buffers}
use Rattle.rx_model.specs.Inputs.Environment.{Environment, is_unicode}
use Rattle.rx_model.specs.Characters.Escapes.{is_identity_escape, SpellsEscape, control, letter, null, hexadecimal, unicode, identity}
use Rattle.rx_model.specs.Reading.Fronts.{EscapeRead, escaped, nothing, too_many, no_unicode, any_escape_at, or_legacy, escape_at, legacy_at, boundary_at, class_escape_at, escaped_token, backslash_token, backslash_front, Counts, counts, no_counts, counts_at, quantifier_token, front}
use Rattle.rx_model.specs.FirstPass.Marks.{starts}
use Rattle.rx_model.specs.Quantifiers.Quantifiers.{SpellsCounts, star, plus, optional, braces, BeginsWithBraces}
use Rattle.rx_model.specs.Reading.Rows.{Spells}
use Rattle.rx_model.specs.Refusals.Stops.{is_letter, two_hex_digits, begins_escape, IsStop, at_end, at_closer, at_bracket, at_brace, after_backslash}
use Rattle.rx_model.specs.Trees.Token.{Token, character, closer}
use Rattle.rx_model.specs.Properties.PropertyForms.{begins_property}
use Rattle.rx_model.proofs.Characters.Backslashes.{unreferred, escape_token}
use Rattle.rx_model.proofs.Characters.Escapes.{begins_with_u, escape_spelled}
use Rattle.rx_model.proofs.Reading.Fronts.{front_by_values, front_by_unicode, spelled_front}
use Rattle.rx_model.proofs.Quantifiers.Quantifiers.{counts_spelled}
use Rattle.rx_model.proofs.Reading.Splits.{starts_there}

pub some_there : (o : Option ℕ) → is_some o ≡ true → (v : ℕ) × (o ≡ Some v)
some_there None h = absurd (let k : ⊥ = cc h in k)
some_there (Some v) h = (v, refl)

parts_none : (b : Option BoundaryAssertionKind) (c : Option CharacterClassEscapeKind) (r : EscapeRead) → backslash_token b c r ≡ None → (b ≡ None) × (c ≡ None)
parts_none (Some k) c r h = absurd (let f : ⊥ = cc h in f)
parts_none None (Some k) r h = absurd (let f : ⊥ = cc h in f)
parts_none None None r h = (refl, refl)

pub two_number : (a b i j : ℕ) → hex_digit_value a ≡ Some i → hex_digit_value b ≡ Some j → hex_number (a ∷ b ∷ []) ≡ Some (16 * (16 * 0 + i) + j)
two_number a b i j h k = rw (h, k) refl

no_letter_begins : (e : Environment) (c : ℕ) → is_one_of (codes "upPk") c ≡ false → boundary_at e c ≡ None → class_escape_at c ≡ None → control_escape_value c ≡ None →
    is_one_of (codes "upPkbBdDsSwWfnrtv") c ≡ false
no_letter_begins e c a b d f = grind (arith, nat_tests)

no_buffer : (e : Environment) (c : ℕ) → boundary_at e c ≡ None → (has_buffers e && is_one_of (codes "AzZ") c) ≡ false
no_buffer e c h = grind (arith, nat_tests)

no_letter_k : (c : ℕ) → is_one_of (codes "upPk") c ≡ false → (c == 107) ≡ false
no_letter_k c h = grind (arith, nat_tests)

no_letter_p : (c : ℕ) → is_one_of (codes "upPk") c ≡ false → begins_property c ≡ false
no_letter_p c h = grind (arith, nat_tests)

-- the other way
no_p : (c : ℕ) → is_one_of (codes "upPkbBdDsSwWfnrtv") c ≡ false → begins_property c ≡ false
no_p c h = grind (arith, nat_tests)

no_k : (c : ℕ) → is_one_of (codes "upPkbBdDsSwWfnrtv") c ≡ false → (c == 107) ≡ false
no_k c h = grind (arith, nat_tests)

no_boundary : (e : Environment) (c : ℕ) → is_one_of (codes "upPkbBdDsSwWfnrtv") c ≡ false → (has_buffers e && is_one_of (codes "AzZ") c) ≡ false → boundary_at e c ≡ None
no_boundary e c h k = grind (arith, nat_tests)

no_class : (c : ℕ) → is_one_of (codes "upPkbBdDsSwWfnrtv") c ≡ false → class_escape_at c ≡ None
no_class c h = grind (arith, nat_tests)

no_control_value : (c : ℕ) → is_one_of (codes "upPkbBdDsSwWfnrtv") c ≡ false → control_escape_value c ≡ None
no_control_value c h = grind (arith, nat_tests)

pub two_there : (a b v : ℕ) → hex_number (a ∷ b ∷ []) ≡ Some v → (is_hex_digit a && is_hex_digit b) ≡ true
two_there a b v h =
    option_and_then_some _ (hex_digit_value a) v h (λ i at_a h.
    option_and_then_some _ (hex_digit_value b) v h (λ j at_b h.
    rw (at_a, at_b) refl))

only_braces : (min : ℕ) (max : Option ℕ) (prefix rest w : List ℕ) → SpellsCounts min max prefix → 123 ∷ w ≡ prefix ++ rest → (BeginsWithBraces (123 ∷ w) → ⊥) → ⊥
only_braces _ _ _ rest w star h k = true≢false (ap (front_is (λ c. c == 123)) h)
only_braces _ _ _ rest w plus h k = true≢false (ap (front_is (λ c. c == 123)) h)
only_braces _ _ _ rest w optional h k = true≢false (ap (front_is (λ c. c == 123)) h)
only_braces min max prefix rest w (braces s) h k = k (record {
  min = min;
  max = max;
  prefix = prefix;
  rest = rest;
  spelled = s;
  whole = h;
})

no_quantifier : (c : ℕ) (w : List ℕ) → (c == 42) ≡ false → (c == 43) ≡ false → (c == 63) ≡ false → (c == 123) ≡ false → quantifier_token (counts_at (c ∷ w)) (c ∷ w) ≡ None
unfolding counts_at
no_quantifier c w h k l m = rw (h, k, l, m) refl

module _ (e : Environment) where
  -- After a backslash that begins no token no escape is spelled.
  no_escape : (kind : CharacterKind) (v : ℕ) (w rest : List ℕ) → backslash_front e (w ++ rest) ≡ None → SpellsEscape e kind v w rest → ⊥
  no_escape kind v w rest h s = let k : Some (character kind v, length w + 1) ≡ None = sym (escape_token e kind v w rest s) ∙ h in cc k

  no_control : (c : ℕ) (w : List ℕ) → backslash_front e (c ∷ w) ≡ None → control_escape_value c ≡ None
  no_control c w h = go (control_escape_value c) refl
    where
      go : (o : Option ℕ) → control_escape_value c ≡ o → o ≡ None
      go None f = refl
      go (Some v) f = absurd (no_escape kinds.SingleEscape v (c ∷ []) w h (control f))

  no_letter : (w : List ℕ) → backslash_front e (99 ∷ w) ≡ None → front_is is_letter w ≡ true → ⊥
  no_letter [] h k = cc k
  no_letter (c ∷ w) h k = let v = some_there (control_letter_value c) k in no_escape kinds.ControlLetter v.0 (99 ∷ c ∷ []) w h (letter v.1)

  no_digits : (w : List ℕ) → backslash_front e (120 ∷ w) ≡ None → two_hex_digits w ≡ true → ⊥
  no_digits [] h k = cc k
  no_digits (a ∷ []) h k = let f = (both (is_hex_digit a) false k).1 in cc f
  no_digits (a ∷ b ∷ w) h k =
      let p = both (is_hex_digit a) (is_hex_digit b) k in
      let i = some_there (hex_digit_value a) p.0 in
      let j = some_there (hex_digit_value b) p.1 in
      no_escape kinds.HexadecimalEscape _ (120 ∷ a ∷ b ∷ []) w h (hexadecimal (two_number a b i.0 j.0 i.1 j.1))

  at_character : (c d : ℕ) (w : List ℕ) → (c == d) ≡ true → backslash_front e (c ∷ w) ≡ None → backslash_front e (d ∷ w) ≡ None
  at_character c d w f h = subst (λ c. backslash_front e (c ∷ w) ≡ None) (eqb-true c d f) h

  pub stop_backslash : (w : List ℕ) → is_unicode e.mode ≡ true → backslash_front e w ≡ None → front_is (λ c. is_one_of (codes "upPk") c || is_within 49 57 c) w ≡ false → begins_escape e w ≡ false
  stop_backslash [] u h k = refl
  stop_backslash (c ∷ w) u h k =
      let free = or_parts (is_one_of (codes "upPk") c) (is_within 49 57 c) k in
      let none = parts_none (boundary_at e c) (class_escape_at c) (any_escape_at false e (c ∷ w)) (sym (unreferred e c w free.1 (no_letter_k c free.0) (no_letter_p c free.0)) ∙ h) in
      let no_control_letter = no_control c w h in
      or_from _ _ (or_from _ _ (or_from _ _ (or_from _ _ (or_from _ _ (or_from _ _
      (no_letter_begins e c free.0 none.0 none.1 no_control_letter)
      (false_from_ne_true _ (λ t. no_escape kinds.Identifier c (c ∷ []) w h (identity u t))))
      free.1)
      (no_buffer e c none.0))
      (false_from_ne_true _ (λ t. let p = both (c == 99) (front_is is_letter w) t in no_letter w (at_character c 99 w p.0 h) p.1)))
      (false_from_ne_true _ (λ t. let p = both (c == 48) (not (front_is is_decimal_digit w)) t in no_escape kinds.Null 0 (48 ∷ []) w (at_character c 48 w p.0 h) (null (not-true _ p.1)))))
      (false_from_ne_true _ (λ t. let p = both (c == 120) (two_hex_digits w) t in no_digits w (at_character c 120 w p.0 h) p.1))

  -- what does not stand after a backslash that begins no escape
  pub record NoBeginning (c : ℕ) (w : List ℕ) : Type 0 where
    pub no_letters : is_one_of (codes "upPkbBdDsSwWfnrtv") c ≡ false
    pub no_identity : is_identity_escape c ≡ false
    pub no_digit : is_within 49 57 c ≡ false
    pub no_buffers : (has_buffers e && is_one_of (codes "AzZ") c) ≡ false
    pub no_c : (c == 99 && front_is is_letter w) ≡ false
    pub no_null : (c == 48 && not (front_is is_decimal_digit w)) ≡ false
    pub no_hexadecimal : (c == 120 && two_hex_digits w) ≡ false

  pub no_beginning : (c : ℕ) (w : List ℕ) → begins_escape e (c ∷ w) ≡ false → NoBeginning c w
  no_beginning c w h =
      let last = or_parts _ (c == 120 && two_hex_digits w) h in
      let sixth = or_parts _ (c == 48 && not (front_is is_decimal_digit w)) last.0 in
      let fifth = or_parts _ (c == 99 && front_is is_letter w) sixth.0 in
      let fourth = or_parts _ (has_buffers e && is_one_of (codes "AzZ") c) fifth.0 in
      let third = or_parts _ (is_within 49 57 c) fourth.0 in
      let second = or_parts (is_one_of (codes "upPkbBdDsSwWfnrtv") c) (is_identity_escape c) third.0 in
      record {
        no_letters = second.0;
        no_identity = second.1;
        no_digit = third.1;
        no_buffers = fourth.1;
        no_c = fifth.1;
        no_null = sixth.1;
        no_hexadecimal = last.1;
      }

  -- An escape begins where one is spelled.
  escape_begins : (kind : CharacterKind) (v : ℕ) (w rest : List ℕ) → SpellsEscape e kind v w rest → begins_escape e (w ++ rest) ≡ false → ⊥
  escape_begins _ v _ rest (control {c} h) k = let f = no_control_value c (no_beginning c rest k).no_letters in cc (f, h)
  escape_begins _ v _ rest (letter {c} h) k = let f = (no_beginning 99 (c ∷ rest) k).no_c in both_ways (is_letter c) f (ap is_some h)
  escape_begins _ _ _ rest (null h) k = let f = (no_beginning 48 rest k).no_null in cc (f, ap not h)
  escape_begins _ v _ rest (hexadecimal {a} {b} h) k = let f = (no_beginning 120 (a ∷ b ∷ rest) k).no_hexadecimal in both_ways (is_hex_digit a && is_hex_digit b) f (two_there a b v h)
  escape_begins _ v w rest (unicode s) k = let u = begins_with_u s in let f = no_beginning 117 (u.0 ++ rest) (subst (λ w. begins_escape e (w ++ rest) ≡ false) u.1 k) in cc f.no_letters
  escape_begins _ _ _ rest (identity {c} u h) k = both_ways (is_identity_escape c) (no_beginning c rest k).no_identity h

  nothing_read : (w : List ℕ) (r : EscapeRead) → begins_escape e w ≡ false → escape_at (is_unicode e.mode) w ≡ r → escaped_token r ≡ None
  nothing_read w (escaped kind v n) h f = let s = escape_spelled e kind v n w f in absurd (escape_begins kind v s.spelled s.rest s.spells (ap (begins_escape e) (sym s.whole) ∙ h))
  nothing_read w q h f = refl

  nothing_else : (w : List ℕ) (r : EscapeRead) → is_unicode e.mode ≡ true → escaped_token r ≡ None → escaped_token (or_legacy r (is_unicode e.mode) (legacy_at false e w)) ≡ None
  nothing_else w (escaped kind v n) m h = h
  nothing_else w nothing m h = ap (λ u. escaped_token (or_legacy nothing u (legacy_at false e w))) m
  nothing_else w (too_many n) m h = h
  nothing_else w no_unicode m h = ap (λ u. escaped_token (or_legacy no_unicode u (legacy_at false e w))) m

  pub backslash_stop : (w : List ℕ) → is_unicode e.mode ≡ true → begins_escape e w ≡ false → backslash_front e w ≡ None
  unfolding backslash_front
  backslash_stop [] m h = refl
  backslash_stop (c ∷ w) m h =
      let b = no_beginning c w h in
      unreferred e c w b.no_digit (no_k c b.no_letters) (no_p c b.no_letters)
      ∙ rw (no_boundary e c b.no_letters b.no_buffers, no_class c b.no_letters)
      (nothing_else (c ∷ w) (escape_at (is_unicode e.mode) (c ∷ w)) m (nothing_read (c ∷ w) (escape_at (is_unicode e.mode) (c ∷ w)) h refl))

  brace_stop : (w : List ℕ) (r : Counts) → counts_at (123 ∷ w) ≡ r → (BeginsWithBraces (123 ∷ w) → ⊥) → quantifier_token r (123 ∷ w) ≡ None
  brace_stop w no_counts h k = refl
  brace_stop w (counts min max n) h k =
      let f = counts_spelled min max n (123 ∷ w) h in
      absurd (only_braces min max f.prefix f.rest w f.spelled f.whole k)

  -- A stop that is not at `)` begins no token.
  pub stop_front : (us : List CodePoint) (i : ℕ) → IsStop e us i → starts 41 (values us) ≡ false → front e us ≡ None
  unfolding front
  stop_front _ _ at_end other = refl
  stop_front _ _ (at_closer {u} {us} h) other = absurd (true≢false (ap (λ c. c == 41) (sym h) ∙ other))
  stop_front _ _ (at_bracket {u} {us} m h) other = elim (or_cases (u.value == 93) (u.value == 125) h) [
    | inl p ↦ front_by_unicode e (u ∷ us) 93 (values us) m refl (ap (λ c. c ∷ values us) (eqb-true u.value 93 p)) ∙ no_quantifier 93 (values us) refl refl refl refl
    | inr p ↦ front_by_unicode e (u ∷ us) 125 (values us) m refl (ap (λ c. c ∷ values us) (eqb-true u.value 125 p)) ∙ no_quantifier 125 (values us) refl refl refl refl
  ]
  stop_front _ _ (at_brace {u} {us} m h none limit) other =
      let text : values (u ∷ us) ≡ 123 ∷ values us = ap (λ c. c ∷ values us) h in
      front_by_unicode e (u ∷ us) 123 (values us) m refl text ∙ brace_stop (values us) (counts_at (123 ∷ values us)) refl (λ b. none (subst BeginsWithBraces (sym text) b))
  stop_front _ _ (after_backslash {u} {us} m h none) other = front_by_values e (u ∷ us) 92 (values us) refl (ap (λ c. c ∷ values us) h) ∙ backslash_stop (values us) m none

  pub stopped : (us : List CodePoint) (i : ℕ) → IsStop e us i → starts 41 (values us) ≡ false → (t : Token) (w rest : List CodePoint) → us ≡ w ++ rest → Spells e t w rest → ⊥
  stopped us i s other t w rest h spelled = let k : Some (t, length w) ≡ None = sym (spelled_front e t w rest spelled) ∙ ap (front e) (sym h) ∙ stop_front us i s other in cc k

  -- At `)` a closer is read.
  pub closer_front : (us : List CodePoint) → starts 41 (values us) ≡ true → front e us ≡ Some (closer, 1)
  closer_front us h = let s = starts_there 41 (values us) h in front_by_values e us 41 s.0 refl s.1
