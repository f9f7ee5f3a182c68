-- The elements of strings: what is spelled is read, and what is read is spelled.
use Rattle.std.proofs.Common.{◌≡◌, ℕ, ◌+◌, ◌*◌, ◌==◌, true, false, not, ◌&&◌, ◌||◌, List, [], ◌∷◌, ◌++◌, length, refl, sym, ap, ◌∙◌, subst, arith, inl, inr}
use Rattle.rx_units.proofs.Common.{nat_tests, eqb-true, cond-false, cases_Bool, is_within, is_octal_digit, is_decimal_digit, Writing, Element, written, is_string_character, SpellsInString, character, escape, legacy_octal, non_octal, EscapeRead, escaped, digit, unended, no_hex, no_unicode}
use Rattle.rx_units.proofs.Common.{passes, element, escape_at, octal_at, legacy_at, string_escape, string_front, front_is, octal, both, chosen, low_next, high_octal, nonzero_octal, zero_next}
use Rattle.std.proofs.Math.Bool.{and-false}
use Rattle.rx_units.specs.declared.quoted_text.element.Writing.TheVariants as writing
use Rattle.rx_units.specs.declared.string_literal_parser.LegacyKind.TheVariants as legacy_kind
use Rattle.rx_units.proofs.Quoted.Escapes.{ElementFront, EscapeFront, escape_spelled, spelled_escape, stands_first}
use Rattle.rx_units.proofs.Quoted.EscapeDigits.{BeginsWithDigit, digit_escape, digit_found}
use Rattle.rx_units.proofs.Quoted.ReadForms.{string_rows}
use Rattle.rx_units.specs.OctalEscapes.{octal_zero, octal1, octal2_low, octal2_high, octal3}

-- a digit of a legacy escape
record Legacy (c : ℕ) (w : List ℕ) : Type 0 where
  is_digit : is_decimal_digit c ≡ true
  no_null : (c == 48 && not (front_is is_decimal_digit w)) ≡ false

module _ (quote : ℕ) (apart : (92 == quote) ≡ false) where
  at_backslash : (w : List ℕ) (r : EscapeRead) → escape_at w ≡ r → string_front quote (92 ∷ w) ≡ string_escape r w
  at_backslash w r e = cond-false _ _ _ apart ∙ ap (λ r. string_escape r w) e

  legacy_read : (c : ℕ) (w : List ℕ) → Legacy c w → string_front quote (92 ∷ c ∷ w) ≡ legacy_at (c ∷ w)
  legacy_read c w l = at_backslash (c ∷ w) digit (digit_escape c w l.is_digit l.no_null)

  zero_there : (d : ℕ) (w : List ℕ) → is_within 56 57 d ≡ true → Legacy 48 (d ∷ w)
  zero_there d w h = record { is_digit = refl; no_null = grind (arith, nat_tests) }

  zero_row : (rest : List ℕ) → front_is (is_within 56 57) rest ≡ true → (Legacy 48 rest) × (octal_at 48 rest ≡ element (written 0 (writing.Legacy legacy_kind.Octal)) 2)
  zero_row [] h = absurd (let no : ⊥ = cc h in no)
  zero_row (d ∷ []) h = (zero_there d [] h, grind (arith, nat_tests))
  zero_row (d ∷ f ∷ rest) h = (zero_there d (f ∷ rest) h, grind (arith, nat_tests))

  one_row : (c : ℕ) (rest : List ℕ) → is_within 49 55 c ≡ true → front_is is_octal_digit rest ≡ false → legacy_at (c ∷ rest) ≡ element (written (octal c) (writing.Legacy legacy_kind.Octal)) 2
  one_row c (d ∷ f ∷ rest) h k = grind (arith, nat_tests)
  one_row c rest h k = grind (arith, nat_tests)

  two_low_row : (c d : ℕ) (rest : List ℕ) → is_within 48 51 c ≡ true → is_octal_digit d ≡ true → front_is is_octal_digit rest ≡ false → legacy_at (c ∷ d ∷ rest) ≡ element (written (8 * octal c + octal d) (writing.Legacy legacy_kind.Octal)) 3
  two_low_row c d [] h k n = grind (arith, nat_tests)
  two_low_row c d (f ∷ rest) h k n = grind (arith, nat_tests)

  two_high_row : (c d : ℕ) (rest : List ℕ) → is_within 52 55 c ≡ true → is_octal_digit d ≡ true → legacy_at (c ∷ d ∷ rest) ≡ element (written (8 * octal c + octal d) (writing.Legacy legacy_kind.Octal)) 3
  two_high_row c d [] h k = grind (arith, nat_tests)
  two_high_row c d (f ∷ rest) h k = grind (arith, nat_tests)

  three_row : (c d f : ℕ) (rest : List ℕ) → is_within 48 51 c ≡ true → is_octal_digit d ≡ true → is_octal_digit f ≡ true → legacy_at (c ∷ d ∷ f ∷ rest) ≡ element (written (64 * octal c + 8 * octal d + octal f) (writing.Legacy legacy_kind.Octal)) 4
  three_row c d f rest h k l = grind (arith, nat_tests)

  last_row : (c : ℕ) (rest : List ℕ) → is_within 56 57 c ≡ true → legacy_at (c ∷ rest) ≡ element (written c (writing.Legacy legacy_kind.NonOctalDecimal)) 2
  last_row c rest h = grind (arith, nat_tests)

  digit_there : (c : ℕ) (w : List ℕ) → is_within 49 57 c ≡ true → Legacy c w
  digit_there c w h = record {
    is_digit = grind (arith, nat_tests);
    no_null = grind (arith, nat_tests);
  }

  pair_there : (c d : ℕ) (w : List ℕ) → is_octal_digit c ≡ true → is_octal_digit d ≡ true → Legacy c (d ∷ w)
  pair_there c d w h k = record {
    is_digit = grind (arith, nat_tests);
    no_null = grind (arith, nat_tests);
  }

  -- a character that stands for itself
  record Plain (c : ℕ) : Type 0 where
    no_quote : (c == quote) ≡ false
    no_backslash : (c == 92) ≡ false
    no_line : (c == 13 || c == 10) ≡ false

  is_plain : (c : ℕ) → is_string_character quote c ≡ true → Plain c
  is_plain c h = record {
    no_quote = grind arith;
    no_backslash = grind arith;
    no_line = grind arith;
  }

  plain_is : (c : ℕ) → (c == quote) ≡ false → (c == 92) ≡ false → (c == 13 || c == 10) ≡ false → is_string_character quote c ≡ true
  plain_is c h k l = grind arith

  -- spelled → read
  pub spelled_string : (e : Element) (w rest : List ℕ) → SpellsInString quote e w rest → string_front quote (w ++ rest) ≡ element e (length w)
  spelled_string _ _ rest (character {c} h) = let p = is_plain c h in cond-false _ _ _ p.no_quote ∙ cond-false _ _ _ p.no_backslash ∙ cond-false _ _ _ p.no_line
  spelled_string _ _ rest (escape {v} {k} {w} p) = at_backslash (w ++ rest) (escaped v k (length w + 1)) (spelled_escape v k w rest p) ∙ ap (element (written v k)) (omega arith)
  spelled_string _ _ rest (legacy_octal (octal_zero h)) = let z = zero_row rest h in legacy_read 48 rest z.0 ∙ z.1
  spelled_string _ _ rest (legacy_octal (octal1 {c} h k)) = legacy_read c rest (digit_there c rest (grind (arith, nat_tests))) ∙ one_row c rest h k
  spelled_string _ _ rest (legacy_octal (octal2_low {c} {d} h k n)) = legacy_read c (d ∷ rest) (pair_there c d rest (grind (arith, nat_tests)) k) ∙ two_low_row c d rest h k n
  spelled_string _ _ rest (legacy_octal (octal2_high {c} {d} h k)) = legacy_read c (d ∷ rest) (pair_there c d rest (grind (arith, nat_tests)) k) ∙ two_high_row c d rest h k
  spelled_string _ _ rest (legacy_octal (octal3 {c} {d} {f} h k l)) = legacy_read c (d ∷ f ∷ rest) (pair_there c d (f ∷ rest) (grind (arith, nat_tests)) k) ∙ three_row c d f rest h k l
  spelled_string _ _ rest (non_octal {c} h) = legacy_read c rest (digit_there c rest (grind (arith, nat_tests))) ∙ last_row c rest h

  one_digit : (c : ℕ) (w : List ℕ) (e : Element) (n : ℕ) → is_octal_digit c ≡ true → (c == 48 && not (front_is is_decimal_digit w)) ≡ false → front_is is_octal_digit w ≡ false
      → element (written (octal c) (writing.Legacy legacy_kind.Octal)) 2 ≡ element e n → ElementFront (SpellsInString quote) e n (92 ∷ c ∷ w)
  one_digit c w e n o z x h = elim (cases_Bool (c == 48)) [
    | inl s ↦ subst (λ c. ElementFront (SpellsInString quote) e n (92 ∷ c ∷ w)) (sym (eqb-true c 48 s))
        (stands_first (92 ∷ 48 ∷ []) w (legacy_octal (octal_zero (zero_next c w s z x))) refl (ap (λ (c : ℕ). element (written (octal c) (writing.Legacy legacy_kind.Octal)) 2) (sym (eqb-true c 48 s)) ∙ h))
    | inr s ↦ stands_first (92 ∷ c ∷ []) w (legacy_octal (octal1 (nonzero_octal c o s) x)) refl h
  ]

  two_digits : (c d : ℕ) (w : List ℕ) (e : Element) (n : ℕ) → is_octal_digit c ≡ true → is_octal_digit d ≡ true → (is_within 48 51 c && front_is is_octal_digit w) ≡ false
      → element (written (8 * octal c + octal d) (writing.Legacy legacy_kind.Octal)) 3 ≡ element e n → ElementFront (SpellsInString quote) e n (92 ∷ c ∷ d ∷ w)
  two_digits c d w e n o p z h = elim (cases_Bool (is_within 48 51 c)) [
    | inl s ↦ stands_first (92 ∷ c ∷ d ∷ []) w (legacy_octal (octal2_low s p (low_next _ _ s z))) refl h
    | inr s ↦ stands_first (92 ∷ c ∷ d ∷ []) w (legacy_octal (octal2_high (high_octal c o s) p)) refl h
  ]

  octal_found : (c : ℕ) (w : List ℕ) (e : Element) (n : ℕ) → is_octal_digit c ≡ true → (c == 48 && not (front_is is_decimal_digit w)) ≡ false → octal_at c w ≡ element e n → ElementFront (SpellsInString quote) e n (92 ∷ c ∷ w)
  octal_found c [] e n o z h = one_digit c [] e n o z refl h
  octal_found c (d ∷ []) e n o z h = elim (chosen (is_octal_digit d) h) [
    | inl p ↦ two_digits c d [] e n o p.0 (and-false (is_within 48 51 c)) p.1
    | inr p ↦ one_digit c (d ∷ []) e n o z p.0 p.1
  ]
  octal_found c (d ∷ f ∷ w) e n o z h = elim (chosen (is_octal_digit d) h) [
    | inl p ↦ elim (chosen (is_within 48 51 c && is_octal_digit f) p.1) [
      | inl q ↦ let b = both (is_within 48 51 c) (is_octal_digit f) q.0 in stands_first (92 ∷ c ∷ d ∷ f ∷ []) w (legacy_octal (octal3 b.0 p.0 b.1)) refl q.1
      | inr q ↦ two_digits c d (f ∷ w) e n o p.0 q.0 q.1
    ]
    | inr p ↦ one_digit c (d ∷ f ∷ w) e n o z p.0 p.1
  ]

  is_last : (c : ℕ) → is_decimal_digit c ≡ true → is_octal_digit c ≡ false → is_within 56 57 c ≡ true
  is_last c h k = grind (arith, nat_tests)

  legacy_found : (w : List ℕ) (e : Element) (n : ℕ) → BeginsWithDigit w → legacy_at w ≡ element e n → ElementFront (SpellsInString quote) e n (92 ∷ w)
  legacy_found w e n d h = subst (λ w. ElementFront (SpellsInString quote) e n (92 ∷ w)) (sym d.whole) (elim (chosen (is_octal_digit d.c) (ap legacy_at (sym d.whole) ∙ h)) [
    | inl p ↦ octal_found d.c d.rest e n p.0 d.no_null p.1
    | inr p ↦ stands_first (92 ∷ d.c ∷ []) d.rest (non_octal (is_last d.c d.is_digit p.0)) refl p.1
  ])

  escape_in_string : (v m : ℕ) (w : List ℕ) (k : Writing) (e : Element) (n : ℕ) → EscapeFront v k m w → element (written v k) m ≡ element e n → ElementFront (SpellsInString quote) e n (92 ∷ w)
  escape_in_string v m w k e n f h = subst (λ w. ElementFront (SpellsInString quote) e n (92 ∷ w)) (sym f.whole) (stands_first (92 ∷ f.spelled) f.rest (escape f.spells) (omega (arith, f.count)) h)

  escape_found : (w : List ℕ) (e : Element) (n : ℕ) (r : EscapeRead) → escape_at w ≡ r → string_escape r w ≡ element e n → ElementFront (SpellsInString quote) e n (92 ∷ w)
  escape_found w e n (escaped v k m) f h = escape_in_string v m w k e n (escape_spelled v k m w f) h
  escape_found w e n digit f h = legacy_found w e n (digit_found w f) h
  escape_found w e n r f h = absurd (let no : ⊥ = cc h in no)

  -- read → spelled
  pub string_spelled : (us : List ℕ) (e : Element) (n : ℕ) → string_front quote us ≡ element e n → ElementFront (SpellsInString quote) e n us
  string_spelled [] e n h = absurd (let no : ⊥ = cc h in no)
  string_spelled (c ∷ w) e n h =
      string_rows (λ r. r ≡ element e n → ElementFront (SpellsInString quote) e n (c ∷ w)) quote c w (λ q h. absurd (let no : ⊥ = cc h in no)) (λ b h. rw b (escape_found w e n (escape_at w) refl h)) (λ l h. absurd (let no : ⊥ = cc h in no))
      (λ q b l h. stands_first (c ∷ []) w (character (plain_is c q b l)) refl h) h
