-- Escapes with neither `u` nor `v`: what is spelled is read, and what is read is spelled.
use Rattle.std.proofs.Common.{◌≡◌, ℕ, ◌+◌, ◌≤◌, ◌*◌, All, ◌%◌, ◌==◌, Bool, true, false, cond, not, is_some, ◌||◌, ◌&&◌, List, [], ◌∷◌, ◌++◌, length, None, codes, refl, sym, ap, ◌∙◌, subst, arith, ◌⊎◌, inl, inr, nat_le, length-append}
use Rattle.std.proofs.lemmas.Bool.{eqb-true, cond-true, cond-false, cases_Bool, leb-true, not-false}
use Rattle.std.proofs.lemmas.Bool.Decides.{nat_tests}
use Rattle.std.proofs.lemmas.List.Elements.{All-head}
use Rattle.std.proofs.Math.Bool.{and-false, or-true}
use Rattle.rx_base.specs.Characters.{is_within, is_one_of}
use Rattle.rx_tables.specs.Characters.{control_escape_value, control_letter_value, is_decimal_digit, is_octal_digit}
use Rattle.rx_ast.specs.declared.leaf.CharacterKind.{CharacterKind}
use Rattle.rx_units.specs.Digits.{front_is, octal, hex_number}
use Rattle.rx_units.specs.OctalEscapes.{octal_zero, octal1, octal2_low, octal2_high, octal3}
use Rattle.rx_ast.specs.declared.leaf.CharacterKind.TheVariants as kinds
use Rattle.rx_units.proofs.Choices.{both, chosen, is_none, low_next}
use Rattle.rx_units.proofs.Digits.{high_octal, nonzero_octal, zero_next}
use Rattle.rx_units.proofs.OctalEscapes.{octal_value_small}
use Rattle.rx_model.specs.Characters.Decoding.{four_at, after_u}
use Rattle.rx_model.specs.Inputs.Environment.{Environment, is_unicode}
use Rattle.rx_model.specs.Characters.Escapes.{SpellsEscape}
use Rattle.rx_model.specs.Characters.EscapeFronts.{EscapeRead, escaped, nothing, too_many, no_unicode, escape_if, unicode_read, two_at, escape_after, escape_at, control_after, octal_at, digit_at, legacy_at, or_legacy, any_escape_at, class_escape_at}
use Rattle.rx_model.specs.Characters.LegacyEscapes.{is_free, two_next, four_next, is_class_control, is_control, IsIdentity, SpellsLegacy, lone, class_control, legacy_octal, identity}
use Rattle.rx_model.proofs.Characters.Escapes.{EscapeFront, escape_no_limit, escape_spelled, spelled_escape, spelled_small}

pub swapped : (a b : Bool) → (a && b) ≡ false → (b && a) ≡ false
swapped a b h = grind arith

no_control : (inside : Bool) (c : ℕ) → (is_some (control_letter_value c) || (inside && is_class_control c)) ≡ false → (is_some (control_letter_value c) ≡ false) × ((inside && is_class_control c) ≡ false)
no_control inside c h = (grind arith, grind arith)

control_no_letter : (c : ℕ) → is_class_control c ≡ true → is_some (control_letter_value c) ≡ false
control_no_letter c h = grind (arith, nat_tests)

-- Each row is read as what it spells.
module _ (inside : Bool) (e : Environment) where
  lone_row : (rest : List ℕ) → front_is (is_control inside) rest ≡ false → legacy_at inside e (99 ∷ rest) ≡ escaped kinds.Symbol 92 0
  unfolding legacy_at
  lone_row [] h = refl
  lone_row (c ∷ rest) h = let n = no_control inside c h in cond-false (is_some (control_letter_value c)) _ _ n.0 ∙ cond-false (inside && is_class_control c) _ _ n.1

  class_control_row : (c : ℕ) (rest : List ℕ) → inside ≡ true → is_class_control c ≡ true → legacy_at inside e (99 ∷ c ∷ rest) ≡ escaped kinds.ControlLetter (c % 32) 2
  unfolding legacy_at
  class_control_row c rest h k = cond-false (is_some (control_letter_value c)) _ _ (control_no_letter c k) ∙ rw (h, k) refl

  octal_zero_row : (rest : List ℕ) → front_is (is_within 56 57) rest ≡ true → legacy_at inside e (48 ∷ rest) ≡ escaped kinds.Octal1 0 1
  unfolding legacy_at
  octal_zero_row [] h = grind (arith, nat_tests)
  octal_zero_row (d ∷ []) h = grind (arith, nat_tests)
  octal_zero_row (d ∷ f ∷ rest) h = grind (arith, nat_tests)

  octal1_row : (c : ℕ) (rest : List ℕ) → is_within 49 55 c ≡ true → front_is is_octal_digit rest ≡ false → is_free inside e.groups (c ∷ rest) ≡ true → legacy_at inside e (c ∷ rest) ≡ escaped kinds.Octal1 (octal c) 1
  unfolding legacy_at
  octal1_row c [] h k f = grind (arith, nat_tests)
  octal1_row c (d ∷ []) h k f = grind (arith, nat_tests)
  octal1_row c (d ∷ g ∷ rest) h k f = grind (arith, nat_tests)

  octal2_low_row : (c d : ℕ) (rest : List ℕ) → is_within 48 51 c ≡ true → is_octal_digit d ≡ true → front_is is_octal_digit rest ≡ false → is_free inside e.groups (c ∷ d ∷ rest) ≡ true →
      legacy_at inside e (c ∷ d ∷ rest) ≡ escaped kinds.Octal2 (8 * octal c + octal d) 2
  unfolding legacy_at
  octal2_low_row c d [] h k n f = grind (arith, nat_tests)
  octal2_low_row c d (g ∷ rest) h k n f = grind (arith, nat_tests)

  octal2_high_row : (c d : ℕ) (rest : List ℕ) → is_within 52 55 c ≡ true → is_octal_digit d ≡ true → is_free inside e.groups (c ∷ d ∷ rest) ≡ true →
      legacy_at inside e (c ∷ d ∷ rest) ≡ escaped kinds.Octal2 (8 * octal c + octal d) 2
  unfolding legacy_at
  octal2_high_row c d [] h k f = grind (arith, nat_tests)
  octal2_high_row c d (g ∷ rest) h k f = grind (arith, nat_tests)

  octal3_row : (c d g : ℕ) (rest : List ℕ) → is_within 48 51 c ≡ true → is_octal_digit d ≡ true → is_octal_digit g ≡ true → is_free inside e.groups (c ∷ d ∷ g ∷ rest) ≡ true →
      legacy_at inside e (c ∷ d ∷ g ∷ rest) ≡ escaped kinds.Octal3 (64 * octal c + 8 * octal d + octal g) 3
  unfolding legacy_at
  octal3_row c d g rest h k l f = grind (arith, nat_tests)

  identity_row : (c : ℕ) (rest : List ℕ) → IsIdentity inside e c rest → legacy_at inside e (c ∷ rest) ≡ escaped kinds.Identifier c 1
  unfolding legacy_at
  identity_row c rest h = grind (arith, nat_tests)

  -- spelled → read
  pub spelled_legacy : (kind : CharacterKind) (v : ℕ) (w rest : List ℕ) → SpellsLegacy inside e kind v w rest → legacy_at inside e (w ++ rest) ≡ escaped kind v (length w)
  spelled_legacy _ _ _ _ (lone {rest} h) = lone_row rest h
  spelled_legacy _ _ _ rest (class_control {c} h k) = class_control_row c rest h k
  spelled_legacy _ _ _ rest (legacy_octal (octal_zero h) f) = octal_zero_row rest h
  spelled_legacy _ _ _ rest (legacy_octal (octal1 {c} h k) f) = octal1_row c rest h k f
  spelled_legacy _ _ _ rest (legacy_octal (octal2_low {c} {d} h k n) f) = octal2_low_row c d rest h k n f
  spelled_legacy _ _ _ rest (legacy_octal (octal2_high {c} {d} h k) f) = octal2_high_row c d rest h k f
  spelled_legacy _ _ _ rest (legacy_octal (octal3 {c} {d} {f} h k l) x) = octal3_row c d f rest h k l x
  spelled_legacy _ _ _ rest (identity {c} h) = identity_row c rest h

  -- an escape that stands at the front
  pub record LegacyFront (kind : CharacterKind) (v n : ℕ) (w : List ℕ) : Type 0 where
    pub spelled : List ℕ
    pub rest : List ℕ
    pub spells : SpellsLegacy inside e kind v spelled rest
    pub whole : w ≡ spelled ++ rest
    pub count : length spelled ≡ n

  give : {kind other : CharacterKind} {v x m n : ℕ} (s rest : List ℕ) → SpellsLegacy inside e kind v s rest → length s ≡ m → escaped kind v m ≡ escaped other x n → LegacyFront other x n (s ++ rest)
  give {kind} {other} {v} {x} {m} {n} s rest p l h = record {
    spelled = s;
    rest = rest;
    spells = subst (λ k. SpellsLegacy inside e k x s rest) (let same : kind ≡ other = cc h in same) (subst (λ v. SpellsLegacy inside e kind v s rest) (let same : v ≡ x = cc h in same) p);
    whole = refl;
    count = l ∙ (let same : m ≡ n = cc h in same);
  }

  control_found : (w : List ℕ) (kind : CharacterKind) (v n : ℕ) → control_after inside w ≡ escaped kind v n → LegacyFront kind v n (99 ∷ w)
  control_found [] kind v n h = give [] (99 ∷ []) (lone refl) refl h
  control_found (c ∷ w) kind v n h = elim (chosen (is_some (control_letter_value c)) h) [
    | inl p ↦ absurd (let no : ⊥ = cc p.1 in no)
    | inr p ↦ elim (chosen (inside && is_class_control c) p.1) [
      | inl q ↦ let b = both inside (is_class_control c) q.0 in give (99 ∷ c ∷ []) w (class_control b.0 b.1) refl q.1
      | inr q ↦ give [] (99 ∷ c ∷ w) (lone (ap (λ a. a || (inside && is_class_control c)) p.0 ∙ q.0)) refl q.1
    ]
  ]

  zero_or_one : (c : ℕ) (w : List ℕ) (kind : CharacterKind) (v n : ℕ) → is_octal_digit c ≡ true → is_free inside e.groups (c ∷ w) ≡ true → (c == 48 && not (front_is is_decimal_digit w)) ≡ false →
      front_is is_octal_digit w ≡ false → escaped kinds.Octal1 (octal c) 1 ≡ escaped kind v n → LegacyFront kind v n (c ∷ w)
  zero_or_one c w kind v n o f z x h = elim (cases_Bool (c == 48)) [
    | inl s ↦ subst (λ c. LegacyFront kind v n (c ∷ w)) (sym (eqb-true c 48 s))
        (give (48 ∷ []) w (legacy_octal (octal_zero (zero_next c w s z x)) (or-true inside)) refl (ap (λ c. escaped kinds.Octal1 (octal c) 1) (sym (eqb-true c 48 s)) ∙ h))
    | inr s ↦ give (c ∷ []) w (legacy_octal (octal1 (nonzero_octal c o s) x) f) refl h
  ]

  two_digits : (c d : ℕ) (w : List ℕ) (kind : CharacterKind) (v n : ℕ) → is_octal_digit c ≡ true → is_octal_digit d ≡ true → is_free inside e.groups (c ∷ d ∷ w) ≡ true →
      (is_within 48 51 c && front_is is_octal_digit w) ≡ false → escaped kinds.Octal2 (8 * octal c + octal d) 2 ≡ escaped kind v n → LegacyFront kind v n (c ∷ d ∷ w)
  two_digits c d w kind v n o p f z h = elim (cases_Bool (is_within 48 51 c)) [
    | inl s ↦ give (c ∷ d ∷ []) w (legacy_octal (octal2_low s p (low_next _ _ s z)) f) refl h
    | inr s ↦ give (c ∷ d ∷ []) w (legacy_octal (octal2_high (high_octal c o s) p) f) refl h
  ]

  octal_found : (c : ℕ) (w : List ℕ) (kind : CharacterKind) (v n : ℕ) → is_octal_digit c ≡ true → is_free inside e.groups (c ∷ w) ≡ true →
      (c == 48 && not (front_is is_decimal_digit w)) ≡ false → octal_at c w ≡ escaped kind v n → LegacyFront kind v n (c ∷ w)
  octal_found c [] kind v n o f z h = zero_or_one c [] kind v n o f z refl h
  octal_found c (d ∷ []) kind v n o f z h = elim (chosen (is_octal_digit d) h) [
    | inl p ↦ two_digits c d [] kind v n o p.0 f (and-false (is_within 48 51 c)) p.1
    | inr p ↦ zero_or_one c (d ∷ []) kind v n o f z p.0 p.1
  ]
  octal_found c (d ∷ g ∷ w) kind v n o f z h = elim (chosen (is_octal_digit d) h) [
    | inl p ↦ elim (chosen (is_within 48 51 c && is_octal_digit g) p.1) [
      | inl q ↦ let b = both (is_within 48 51 c) (is_octal_digit g) q.0 in give (c ∷ d ∷ g ∷ []) w (legacy_octal (octal3 b.0 p.0 b.1) f) refl q.1
      | inr q ↦ two_digits c d (g ∷ w) kind v n o p.0 f q.0 q.1
    ]
    | inr p ↦ zero_or_one c (d ∷ g ∷ w) kind v n o f z p.0 p.1
  ]

  digit_identity : (c : ℕ) (w : List ℕ) → is_decimal_digit c ≡ true → is_octal_digit c ≡ false → is_free inside e.groups (c ∷ w) ≡ true → IsIdentity inside e c w
  digit_identity c w d o f = record {
    no_letter = grind (arith, nat_tests);
    no_octal = o;
    no_k = grind (arith, nat_tests);
    no_boundary = grind (arith, nat_tests);
    no_reference = f;
    no_x = grind (arith, nat_tests);
    no_u = grind (arith, nat_tests);
  }

  digit_found : (c : ℕ) (w : List ℕ) (kind : CharacterKind) (v n : ℕ) → is_decimal_digit c ≡ true → digit_at inside e.groups c w ≡ escaped kind v n → LegacyFront kind v n (c ∷ w)
  digit_found c w kind v n d h = elim (chosen (not (is_free inside e.groups (c ∷ w))) h) [
    | inl p ↦ absurd (let no : ⊥ = cc p.1 in no)
    | inr p ↦ elim (chosen (c == 48 && not (front_is is_decimal_digit w)) p.1) [
      | inl q ↦ absurd (let no : ⊥ = cc q.1 in no)
      | inr q ↦ elim (chosen (is_octal_digit c) q.1) [
        | inl r ↦ octal_found c w kind v n r.0 (not-false _ p.0) q.0 r.1
        | inr r ↦ give (c ∷ []) w (identity (digit_identity c w d r.0 (not-false _ p.0))) refl r.1
      ]
    ]
  ]

  plain_identity : (c : ℕ) (w : List ℕ) → (c == 99) ≡ false → is_decimal_digit c ≡ false → (is_one_of (codes "dDsSwWfnrtvb") c || ((e.named && c == 107) || (not inside && c == 66))) ≡ false →
      (c == 120 && is_some (two_next w)) ≡ false → (c == 117 && is_some (four_next w)) ≡ false → IsIdentity inside e c w
  plain_identity c w k d h x u = record {
    no_letter = grind (arith, nat_tests);
    no_octal = grind (arith, nat_tests);
    no_k = grind (arith, nat_tests);
    no_boundary = grind (arith, nat_tests);
    no_reference = grind (arith, nat_tests);
    no_x = x;
    no_u = u;
  }

  -- read → spelled
  pub legacy_spelled : (kind : CharacterKind) (v n : ℕ) (w : List ℕ) → legacy_at inside e w ≡ escaped kind v n → LegacyFront kind v n w
  unfolding legacy_at
  legacy_spelled kind v n [] h = absurd (let no : ⊥ = cc h in no)
  legacy_spelled kind v n (c ∷ w) h = elim (chosen (c == 99) h) [
    | inl p ↦ subst (λ c. LegacyFront kind v n (c ∷ w)) (sym (eqb-true c 99 p.0)) (control_found w kind v n p.1)
    | inr p ↦ elim (chosen (is_decimal_digit c) p.1) [
      | inl q ↦ digit_found c w kind v n q.0 q.1
      | inr q ↦ elim (chosen (is_one_of (codes "dDsSwWfnrtvb") c || ((e.named && c == 107) || (not inside && c == 66))) q.1) [
        | inl r ↦ absurd (let no : ⊥ = cc r.1 in no)
        | inr r ↦ elim (chosen (c == 120 && is_some (two_next w)) r.1) [
          | inl s ↦ absurd (let no : ⊥ = cc s.1 in no)
          | inr s ↦ elim (chosen (c == 117 && is_some (four_next w)) s.1) [
            | inl t ↦ absurd (let no : ⊥ = cc t.1 in no)
            | inr t ↦ give (c ∷ []) w (identity (plain_identity c w p.0 q.0 r.0 s.0 t.0)) refl t.1
          ]
        ]
      ]
    ]
  ]

-- Where one is spelled, none of those that every mode has is read.
abbrev Unread : List ℕ → Type 0
Unread w = (escape_at false w ≡ nothing) ⊎ (escape_at false w ≡ no_unicode)

unread_control : (inside : Bool) (w : List ℕ) → front_is (λ c. is_some (control_letter_value c)) w ≡ false → Unread (99 ∷ w)
unfolding escape_at
unread_control inside [] h = inl refl
unread_control inside (c ∷ w) h = inl (ap (escape_if kinds.ControlLetter 2) (is_none (control_letter_value c) h))

front_no_letter : (inside : Bool) (w : List ℕ) → front_is (is_control inside) w ≡ false → front_is (λ c. is_some (control_letter_value c)) w ≡ false
front_no_letter inside [] h = refl
front_no_letter inside (c ∷ w) h = (no_control inside c h).0

octal_front : (w : List ℕ) → front_is (is_within 56 57) w ≡ true → front_is is_decimal_digit w ≡ true
octal_front [] h = absurd (let no : ⊥ = cc h in no)
octal_front (c ∷ w) h = grind (arith, nat_tests)

unread_zero : (w : List ℕ) → front_is is_decimal_digit w ≡ true → Unread (48 ∷ w)
unfolding escape_at
unread_zero w h = inl (cond-true (front_is is_decimal_digit w) _ _ h)

unread_digit : (c : ℕ) (w : List ℕ) → is_within 49 57 c ≡ true → escape_at false (c ∷ w) ≡ nothing
unfolding escape_at
unread_digit c w h = grind (arith, nat_tests)

octal_decimal : (c : ℕ) → is_octal_digit c ≡ true → is_decimal_digit c ≡ true
octal_decimal c h = grind (arith, nat_tests)

unread_low : (c d : ℕ) (w : List ℕ) → is_octal_digit c ≡ true → is_octal_digit d ≡ true → Unread (c ∷ d ∷ w)
unread_low c d w h k = elim (cases_Bool (c == 48)) [
  | inl s ↦ subst (λ c. Unread (c ∷ d ∷ w)) (sym (eqb-true c 48 s)) (unread_zero (d ∷ w) (octal_decimal d k))
  | inr s ↦ inl (unread_digit c (d ∷ w) (grind (arith, nat_tests)))
]

two_none : (w : List ℕ) → is_some (two_next w) ≡ false → two_at w ≡ None
two_none [] h = refl
two_none (a ∷ []) h = refl
two_none (a ∷ b ∷ w) h = is_none (hex_number (a ∷ b ∷ [])) h

four_none : (w : List ℕ) → is_some (four_next w) ≡ false → four_at w ≡ None
four_none [] h = refl
four_none (a ∷ []) h = refl
four_none (a ∷ b ∷ []) h = refl
four_none (a ∷ b ∷ c ∷ []) h = refl
four_none (a ∷ b ∷ c ∷ d ∷ w) h = rw (is_none (hex_number (a ∷ b ∷ c ∷ d ∷ [])) h) refl

no_value : (c : ℕ) → is_one_of (codes "cdDsSwWfnrtvb") c ≡ false → control_escape_value c ≡ None
no_value c h = grind (arith, nat_tests)

unread_identity : (inside : Bool) (e : Environment) (c : ℕ) (w : List ℕ) → IsIdentity inside e c w → Unread (c ∷ w)
unfolding escape_at
unread_identity inside e c w h = elim (cases_Bool (c == 117)) [
  | inl s ↦
      let is = eqb-true c 117 s in
      let none = four_none w (low_next (c == 117) (is_some (four_next w)) s h.no_u) in
      subst (λ c. Unread (c ∷ w)) (sym is) (inr (ap (λ o. unicode_read (after_u false o w)) none))
  | inr s ↦ elim (cases_Bool (c == 120)) [
    | inl t ↦
        let is = eqb-true c 120 t in
        let none = two_none w (low_next (c == 120) (is_some (two_next w)) t h.no_x) in
        subst (λ c. Unread (c ∷ w)) (sym is) (inl (ap (escape_if kinds.HexadecimalEscape 3) none))
    | inr t ↦
        let no_c : (c == 99) ≡ false = (let l = h.no_letter in grind (arith, nat_tests)) in
        let no_zero : (c == 48) ≡ false = (let l = h.no_octal in grind (arith, nat_tests)) in
        inl (ap (λ o. escape_after false o c w) (no_value c h.no_letter) ∙ cond-false (c == 99) _ _ no_c ∙ cond-false (c == 48) _ _ no_zero ∙ cond-false (c == 120) _ _ t ∙ cond-false (c == 117) _ _ s)
  ]
]

module _ (inside : Bool) (e : Environment) where
  unread : (kind : CharacterKind) (v : ℕ) (w rest : List ℕ) → SpellsLegacy inside e kind v w rest → Unread (w ++ rest)
  unread _ _ _ _ (lone {rest} h) = unread_control inside rest (front_no_letter inside rest h)
  unread _ _ _ rest (class_control {c} h k) = unread_control inside (c ∷ rest) (control_no_letter c k)
  unread _ _ _ rest (legacy_octal (octal_zero h) f) = unread_zero rest (octal_front rest h)
  unread _ _ _ rest (legacy_octal (octal1 {c} h k) f) = inl (unread_digit c rest (grind (arith, nat_tests)))
  unread _ _ _ rest (legacy_octal (octal2_low {c} {d} h k n) f) = unread_low c d rest (grind (arith, nat_tests)) k
  unread _ _ _ rest (legacy_octal (octal2_high {c} {d} h k) f) = unread_low c d rest (grind (arith, nat_tests)) k
  unread _ _ _ rest (legacy_octal (octal3 {c} {d} {f} h k l) x) = unread_low c d (f ∷ rest) (grind (arith, nat_tests)) k
  unread _ _ _ rest (identity {c} h) = unread_identity inside e c rest h

  -- spelled → read, among all escapes
  pub any_read : (kind : CharacterKind) (v : ℕ) (w rest : List ℕ) → SpellsEscape e kind v w rest → any_escape_at inside e (w ++ rest) ≡ escaped kind v (length w)
  any_read kind v w rest s = ap (λ r. or_legacy r (is_unicode e.mode) (legacy_at inside e (w ++ rest))) (spelled_escape e kind v w rest s)

  pub any_legacy_read : (kind : CharacterKind) (v : ℕ) (w rest : List ℕ) → is_unicode e.mode ≡ false → SpellsLegacy inside e kind v w rest → any_escape_at inside e (w ++ rest) ≡ escaped kind v (length w)
  any_legacy_read kind v w rest m s =
      ap (λ u. or_legacy (escape_at u (w ++ rest)) u (legacy_at inside e (w ++ rest))) m
      ∙ elim (unread kind v w rest s) [
        | inl h ↦ ap (λ r. or_legacy r false (legacy_at inside e (w ++ rest))) h
        | inr h ↦ ap (λ r. or_legacy r false (legacy_at inside e (w ++ rest))) h
      ]
      ∙ spelled_legacy inside e kind v w rest s

  -- an escape of either sort that stands at the front
  abbrev pub AnyFront : CharacterKind → ℕ → ℕ → List ℕ → Type 0
  AnyFront kind v n w = EscapeFront e kind v n w ⊎ ((is_unicode e.mode ≡ false) × LegacyFront inside e kind v n w)

  legacy_there : (kind : CharacterKind) (v n : ℕ) (w : List ℕ) (none : EscapeRead) → (none ≡ escaped kind v n → ⊥) → cond (is_unicode e.mode) none (legacy_at inside e w) ≡ escaped kind v n → AnyFront kind v n w
  legacy_there kind v n w none never h = elim (chosen (is_unicode e.mode) h) [
    | inl p ↦ absurd (never p.1)
    | inr p ↦ inr (p.0, legacy_spelled inside e kind v n w p.1)
  ]

  any_found : (kind : CharacterKind) (v n : ℕ) (w : List ℕ) (r : EscapeRead) → escape_at (is_unicode e.mode) w ≡ r → or_legacy r (is_unicode e.mode) (legacy_at inside e w) ≡ escaped kind v n → AnyFront kind v n w
  any_found kind v n w (escaped j x m) f h = inl (escape_spelled e kind v n w (f ∙ h))
  any_found kind v n w nothing f h = legacy_there kind v n w nothing (λ k. cc k) h
  any_found kind v n w (too_many m) f h = absurd (let no : ⊥ = cc h in no)
  any_found kind v n w no_unicode f h = legacy_there kind v n w no_unicode (λ k. cc k) h

  -- read → spelled
  pub any_spelled : (kind : CharacterKind) (v n : ℕ) (w : List ℕ) → any_escape_at inside e w ≡ escaped kind v n → AnyFront kind v n w
  any_spelled kind v n w h = any_found kind v n w (escape_at (is_unicode e.mode) w) refl h

  -- an escape of a code point is one
  legacy_low : (kind : CharacterKind) (v : ℕ) (w rest : List ℕ) → SpellsLegacy inside e kind v w rest → front_is (λ c. nat_le c 0x10FFFF) (w ++ rest) ≡ true → v ≤ 0x10FFFF
  legacy_low _ _ _ _ (lone h) n = omega arith
  legacy_low _ _ _ rest (class_control {c} h k) n = omega arith
  legacy_low _ _ _ rest (legacy_octal {v} {w} s f) n = omega (arith, octal_value_small v w rest s)
  legacy_low _ _ _ rest (identity {c} h) n = leb-true c 0x10FFFF n

  pub any_small : (kind : CharacterKind) (v n : ℕ) (w : List ℕ) → front_is (λ c. nat_le c 0x10FFFF) w ≡ true → any_escape_at inside e w ≡ escaped kind v n → v ≤ 0x10FFFF
  any_small kind v n w small h = elim (any_spelled kind v n w h) [
    | inl f ↦ spelled_small e kind v f.spelled f.rest f.spells
    | inr f ↦ legacy_low kind v f.1.spelled f.1.rest f.1.spells (ap (front_is (λ c. nat_le c 0x10FFFF)) (sym f.1.whole) ∙ small)
  ]

  -- and one stays within the text
  pub any_within : (kind : CharacterKind) (v n : ℕ) (w : List ℕ) → any_escape_at inside e w ≡ escaped kind v n → n ≤ length w
  any_within kind v n w h = elim (any_spelled kind v n w h) [
    | inl f ↦ omega (arith, f.count, ap length f.whole, length-append f.spelled f.rest)
    | inr f ↦ omega (arith, f.1.count, ap length f.1.whole, length-append f.1.spelled f.1.rest)
  ]

  -- With `u` or `v` there are none but those of every mode.
  pub any_in_unicode : (w : List ℕ) → is_unicode e.mode ≡ true → any_escape_at inside e w ≡ escape_at (is_unicode e.mode) w
  any_in_unicode w m = go (escape_at (is_unicode e.mode) w)
    where
      go : (r : EscapeRead) → or_legacy r (is_unicode e.mode) (legacy_at inside e w) ≡ r
      go (escaped k v n) = refl
      go nothing = cond-true (is_unicode e.mode) _ _ m
      go (too_many n) = refl
      go no_unicode = cond-true (is_unicode e.mode) _ _ m

  -- What stands after a backslash where one is spelled: no reference, no assertion and no class escape.
  pub record LegacyBeginning (w : List ℕ) : Type 0 where
    pub first : ℕ
    pub following : List ℕ
    pub whole : w ≡ first ∷ following
    pub free : is_free inside e.groups (first ∷ following) ≡ true
    pub no_k : (first == 107 && e.named) ≡ false
    pub no_boundary : (not inside && first == 66) ≡ false
    pub no_b : (first == 98) ≡ false
    pub no_class : class_escape_at first ≡ None

  begins_with_c : (w : List ℕ) → LegacyBeginning (99 ∷ w)
  begins_with_c w = record { first = 99; following = w; whole = refl; free = or-true inside; no_k = refl; no_boundary = and-false (not inside); no_b = refl; no_class = refl }

  begins_with_digit : (c : ℕ) (w : List ℕ) → is_decimal_digit c ≡ true → is_free inside e.groups (c ∷ w) ≡ true → LegacyBeginning (c ∷ w)
  begins_with_digit c w d f = record {
    first = c;
    following = w;
    whole = refl;
    free = f;
    no_k = grind (arith, nat_tests);
    no_boundary = grind (arith, nat_tests);
    no_b = grind (arith, nat_tests);
    no_class = grind (arith, nat_tests);
  }

  identity_class : (c : ℕ) → is_one_of (codes "cdDsSwWfnrtvb") c ≡ false → class_escape_at c ≡ None
  identity_class c h = grind (arith, nat_tests)

  identity_no_b : (c : ℕ) → is_one_of (codes "cdDsSwWfnrtvb") c ≡ false → (c == 98) ≡ false
  identity_no_b c h = grind (arith, nat_tests)

  pub legacy_begins : (kind : CharacterKind) (v : ℕ) (w rest : List ℕ) → SpellsLegacy inside e kind v w rest → LegacyBeginning (w ++ rest)
  legacy_begins _ _ _ _ (lone {rest} h) = begins_with_c rest
  legacy_begins _ _ _ rest (class_control {c} h k) = begins_with_c (c ∷ rest)
  legacy_begins _ _ _ rest (legacy_octal (octal_zero h) f) = begins_with_digit 48 rest refl (or-true inside)
  legacy_begins _ _ _ rest (legacy_octal (octal1 {c} h k) f) = begins_with_digit c rest (grind (arith, nat_tests)) f
  legacy_begins _ _ _ rest (legacy_octal (octal2_low {c} {d} h k n) f) = begins_with_digit c (d ∷ rest) (grind (arith, nat_tests)) f
  legacy_begins _ _ _ rest (legacy_octal (octal2_high {c} {d} h k) f) = begins_with_digit c (d ∷ rest) (grind (arith, nat_tests)) f
  legacy_begins _ _ _ rest (legacy_octal (octal3 {c} {d} {f} h k l) x) = begins_with_digit c (d ∷ f ∷ rest) (grind (arith, nat_tests)) x
  legacy_begins _ _ _ rest (identity {c} h) = record {
    first = c;
    following = rest;
    whole = refl;
    free = h.no_reference;
    no_k = swapped e.named (c == 107) h.no_k;
    no_boundary = h.no_boundary;
    no_b = identity_no_b c h.no_letter;
    no_class = identity_class c h.no_letter;
  }

-- An answer is a character or nothing.
abbrev pub IsCharacterOrNothing : EscapeRead → Type 0
IsCharacterOrNothing (escaped kind v n) = Unit {0}
IsCharacterOrNothing nothing = Unit {0}
IsCharacterOrNothing q = ⊥

either : (b : Bool) (r s : EscapeRead) → IsCharacterOrNothing r → IsCharacterOrNothing s → IsCharacterOrNothing (cond b r s)
either true r s p q = p
either false r s p q = q

-- With neither `u` nor `v` alone no escape is refused.
module _ (inside : Bool) (e : Environment) where
  control_no_refusal : (w : List ℕ) → IsCharacterOrNothing (control_after inside w)
  control_no_refusal [] = tt
  control_no_refusal (c ∷ w) = either (is_some (control_letter_value c)) _ _ tt (either (inside && is_class_control c) _ _ tt tt)

  octal_no_refusal : (c : ℕ) (w : List ℕ) → IsCharacterOrNothing (octal_at c w)
  octal_no_refusal c [] = tt
  octal_no_refusal c (d ∷ []) = either (is_octal_digit d) _ _ tt tt
  octal_no_refusal c (d ∷ f ∷ w) = either (is_octal_digit d) _ _ (either (is_within 48 51 c && is_octal_digit f) _ _ tt tt) tt

  digit_no_refusal : (c : ℕ) (w : List ℕ) → IsCharacterOrNothing (digit_at inside e.groups c w)
  digit_no_refusal c w = either (not (is_free inside e.groups (c ∷ w))) _ _ tt (either (c == 48 && not (front_is is_decimal_digit w)) _ _ tt (either (is_octal_digit c) _ _ (octal_no_refusal c w) tt))

  pub legacy_no_refusal : (w : List ℕ) → IsCharacterOrNothing (legacy_at inside e w)
  unfolding legacy_at
  legacy_no_refusal [] = tt
  legacy_no_refusal (c ∷ w) = either (c == 99) _ _ (control_no_refusal w) (either (is_decimal_digit c) _ _ (digit_no_refusal c w)
      (either (is_one_of (codes "dDsSwWfnrtvb") c || ((e.named && c == 107) || (not inside && c == 66))) _ _ tt
      (either (c == 120 && is_some (two_next w)) _ _ tt (either (c == 117 && is_some (four_next w)) _ _ tt tt))))

  -- The value of a character is a code point where all its characters are.
  pub legacy_small : (kind : CharacterKind) (v : ℕ) (w rest : List ℕ) → SpellsLegacy inside e kind v w rest → All (λ c. c ≤ 0x10FFFF) (w ++ rest) → v ≤ 0x10FFFF
  legacy_small _ _ _ _ (lone h) small = omega arith
  legacy_small _ _ _ _ (class_control {c} h k) small = grind (arith, nat_tests)
  legacy_small _ _ _ rest (legacy_octal {v} {w} s f) small = omega (arith, octal_value_small v w rest s)
  legacy_small _ _ _ rest (identity {c} h) small = All-head (λ c. c ≤ 0x10FFFF) c rest small

  -- So what is refused is refused with `u` or `v`, among the escapes of every mode.
  in_legacy_mode : (w : List ℕ) (r : EscapeRead) → escape_at false w ≡ r → IsCharacterOrNothing (or_legacy r false (legacy_at inside e w))
  in_legacy_mode w (escaped kind v n) h = tt
  in_legacy_mode w nothing h = legacy_no_refusal w
  in_legacy_mode w (too_many n) h = absurd (escape_no_limit w n h)
  in_legacy_mode w no_unicode h = legacy_no_refusal w

  pub any_refused : (w : List ℕ) (r : EscapeRead) → any_escape_at inside e w ≡ r → (IsCharacterOrNothing r → ⊥) → (is_unicode e.mode ≡ true) × (escape_at true w ≡ r)
  any_refused w r h never = by (is_unicode e.mode) refl
    where
      by : (b : Bool) → is_unicode e.mode ≡ b → (is_unicode e.mode ≡ true) × (escape_at true w ≡ r)
      by true m = (m, ap (λ u. escape_at u w) (sym m) ∙ sym (any_in_unicode inside e w m) ∙ h)
      by false m = absurd (never (subst IsCharacterOrNothing (ap (λ u. or_legacy (escape_at u w) u (legacy_at inside e w)) (sym m) ∙ h) (in_legacy_mode w (escape_at false w) refl)))
