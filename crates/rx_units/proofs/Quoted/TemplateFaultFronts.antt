-- Where a fault of a template stands, it is read.
use Rattle.std.proofs.Common.{◌≡◌, ℕ, ◌+◌, ◌<◌, true, false, cond, is_some, List, [], ◌∷◌, ◌++◌, length, Option, Some, None, refl, ap, ◌∙◌, arith}
use Rattle.rx_units.proofs.Common.{hex_digit_value, is_open_brace, IsNoCodePoint, EscapeRead, unended, no_hex, no_unicode, nothing, substitution, invalid_hex, invalid_unicode, front_digit, hex_pair, hex_at, four_at, digits_at, braces_at, unicode_after, escape_at, template_escape, front}
use Rattle.rx_units.proofs.Common.{front_is, hex_number, is_hex_digit, is_none}
use Rattle.rx_units.specs.declared.quoted_text.literal.Literal.TheVariants as literals
use Rattle.rx_units.proofs.Quoted.HexDigits.{no_run_again}
use Rattle.rx_units.proofs.Quoted.Escapes.{brace_no_four}

no_digit_read : (w : List ℕ) → front_is is_hex_digit w ≡ false → front_digit w ≡ None
no_digit_read [] h = refl
no_digit_read (c ∷ w) h = is_none (hex_digit_value c) h

no_pair_read : (w : List ℕ) → front_is is_hex_digit w ≡ false → hex_at w ≡ no_hex 2
no_pair_read [] h = refl
no_pair_read (c ∷ w) h = ap (λ o. hex_pair o (front_digit w)) (is_none (hex_digit_value c) h)

half_pair : (o p : Option ℕ) → is_some o ≡ true → p ≡ None → hex_pair o p ≡ no_hex 3
half_pair None p some none = absurd (let no : ⊥ = cc some in no)
half_pair (Some i) p some none = ap (hex_pair (Some i)) none

no_four_read : (w : List ℕ) → ((a b c d v : ℕ) (more : List ℕ) → w ≡ a ∷ b ∷ c ∷ d ∷ more → hex_number (a ∷ b ∷ c ∷ d ∷ []) ≡ Some v → ⊥) → four_at w ≡ None
no_four_read (a ∷ b ∷ c ∷ d ∷ w) none = go (hex_number (a ∷ b ∷ c ∷ d ∷ [])) refl
  where
    go : (o : Option ℕ) → hex_number (a ∷ b ∷ c ∷ d ∷ []) ≡ o → o ≡ None
    go None e = refl
    go (Some v) e = absurd (none a b c d v w refl e)
no_four_read w none = refl

no_brace_read : (w : List ℕ) → front_is is_open_brace w ≡ false → braces_at w ≡ no_unicode 2
no_brace_read [] h = refl
no_brace_read (c ∷ w) h = ap (λ b. cond b (digits_at 0 0 w) (no_unicode 2)) h

module _ (us : List ℕ) where
  -- how an escape is read after its backslash
  by_escape : (w : List ℕ) (r : EscapeRead) → us ≡ 92 ∷ w → escape_at w ≡ r → front literals.Template us ≡ template_escape r w
  unfolding front
  by_escape w r h e = ap (front literals.Template) h ∙ ap (λ r. template_escape r w) e

  pub end_read : us ≡ [] → front literals.Template us ≡ nothing 0
  unfolding front
  end_read h = ap (front literals.Template) h

  pub escape_end_read : us ≡ 92 ∷ [] → front literals.Template us ≡ nothing 1
  unfolding escape_at
  escape_end_read h = by_escape [] unended h refl

  pub substitution_read : (rest : List ℕ) → us ≡ 36 ∷ 123 ∷ rest → front literals.Template us ≡ substitution
  unfolding front
  substitution_read rest h = ap (front literals.Template) h

  pub no_hex_read : (rest : List ℕ) → us ≡ 92 ∷ 120 ∷ rest → front_is is_hex_digit rest ≡ false → front literals.Template us ≡ invalid_hex 2
  unfolding escape_at
  no_hex_read rest h none = by_escape (120 ∷ rest) (no_hex 2) h (no_pair_read rest none)

  pub one_hex_read : (c : ℕ) (rest : List ℕ) → us ≡ 92 ∷ 120 ∷ c ∷ rest → is_hex_digit c ≡ true → front_is is_hex_digit rest ≡ false → front literals.Template us ≡ invalid_hex 3
  unfolding escape_at
  one_hex_read c rest h one none = by_escape (120 ∷ c ∷ rest) (no_hex 3) h (half_pair (hex_digit_value c) (front_digit rest) one (no_digit_read rest none))

  pub no_digits_read : (rest : List ℕ) → us ≡ 92 ∷ 117 ∷ rest → front_is is_open_brace rest ≡ false
      → ((a b c d v : ℕ) (more : List ℕ) → rest ≡ a ∷ b ∷ c ∷ d ∷ more → hex_number (a ∷ b ∷ c ∷ d ∷ []) ≡ Some v → ⊥) → front literals.Template us ≡ invalid_unicode 2
  unfolding escape_at
  no_digits_read rest h brace none = by_escape (117 ∷ rest) (no_unicode 2) h (ap (λ o. unicode_after o rest) (no_four_read rest none) ∙ no_brace_read rest brace)

  pub no_code_point_read : (digits : List ℕ) → IsNoCodePoint us digits → front literals.Template us ≡ invalid_unicode (length digits + 3)
  unfolding escape_at
  no_code_point_read digits n =
      by_escape (117 ∷ 123 ∷ (digits ++ n.rest)) (no_unicode (length digits + 3)) n.whole
      (ap (λ o. unicode_after o (123 ∷ (digits ++ n.rest))) (brace_no_four (digits ++ n.rest))
      ∙ no_run_again 0 0 digits n.rest n.number n.number_is n.fits n.all (λ some top. n.wrong (not_empty digits some) top)
      ∙ ap no_unicode (omega arith))
    where
      not_empty : (ds : List ℕ) → 0 < 0 + length ds → ds ≡ [] → ⊥
      not_empty ds some e = omega (arith, ap length e)
