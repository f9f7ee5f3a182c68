-- Digits after a backslash that are no null: where they are read.
use Rattle.std.proofs.Common.{◌≡◌, ℕ, ◌==◌, Bool, true, false, not, ◌&&◌, List, [], ◌∷◌, Option, Some, None, refl, sym, ap, ◌∙◌, arith, inl, inr}
use Rattle.rx_units.proofs.Common.{nat_tests, cond-true, cond-false, is_line_terminator, is_line_feed, single_escape_value, EscapeRead, escaped, digit, four_at, escape_after, escape_at, front_is, is_decimal_digit, chosen, either_way, told_apart}
use Rattle.rx_units.specs.declared.quoted_text.element.Writing.TheVariants as writing
use Rattle.rx_units.proofs.Quoted.ReadForms.{escape_rows, hex_read, unicode_read}

abbrev is_digit_read : EscapeRead → Bool
is_digit_read digit = true
is_digit_read _ = false

abbrev NoDigit : EscapeRead → Type 0
NoDigit r = is_digit_read r ≡ false

-- A digit that is no null stands here.
pub record BeginsWithDigit (us : List ℕ) : Type 0 where
  pub c : ℕ
  pub rest : List ℕ
  pub whole : us ≡ c ∷ rest
  pub is_digit : is_decimal_digit c ≡ true
  pub no_null : (c == 48 && not (front_is is_decimal_digit rest)) ≡ false

digit_no_single : (c : ℕ) → is_decimal_digit c ≡ true → single_escape_value c ≡ None
digit_no_single c h = grind (arith, nat_tests)

pub digit_escape : (c : ℕ) (rest : List ℕ) → is_decimal_digit c ≡ true → (c == 48 && not (front_is is_decimal_digit rest)) ≡ false → escape_at (c ∷ rest) ≡ digit
unfolding escape_at
digit_escape c rest h k = ap (λ o. escape_after o c rest) (digit_no_single c h) ∙ cond-true _ _ _ h ∙ cond-false _ _ _ k

digit_after_found : (c : ℕ) (w : List ℕ) (o : Option ℕ) → escape_after o c w ≡ digit → BeginsWithDigit (c ∷ w)
digit_after_found c w (Some x) h = absurd (let n : ⊥ = cc h in n)
digit_after_found c w None h =
    escape_rows (λ r. r ≡ digit → BeginsWithDigit (c ∷ w)) c w (λ z e. absurd (let no : ⊥ = cc e in no)) (λ d z e. record { c = c; rest = w; whole = refl; is_digit = d; no_null = z })
    (λ x e. absurd (told_apart is_digit_read e (hex_read NoDigit (λ v k n. refl) (λ n. refl) w) refl))
    (λ u e. absurd (told_apart is_digit_read e (unicode_read NoDigit (λ v k n. refl) (λ n. refl) (λ n. refl) (four_at w) w) refl))
    (λ l e. absurd (told_apart is_digit_read e (either_way NoDigit (c == 13 && front_is is_line_feed w) (escaped 10 writing.LineContinuation 3) (escaped c writing.LineContinuation 2) refl refl) refl))
    (λ d x u l e. absurd (let no : ⊥ = cc e in no)) h

pub digit_found : (w : List ℕ) → escape_at w ≡ digit → BeginsWithDigit w
unfolding escape_at
digit_found [] h = absurd (let n : ⊥ = cc h in n)
digit_found (c ∷ w) h = digit_after_found c w (single_escape_value c) h
