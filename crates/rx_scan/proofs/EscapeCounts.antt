-- How many digits the decoder of unicode escapes looks at.
use Rattle.std.proofs.Common.{◌≡◌, ℕ, ◌+◌, ◌≤◌, ◌==◌, Bool, true, false, cond, List, [], ◌∷◌, length, min, refl, ap, ◌∙◌, inl, inr, arith}
use Rattle.std.specs.Prelude.{nat_lt}
use Rattle.std.proofs.lemmas.Bool.{cases_Bool, ltb-false}
use Rattle.std.proofs.lemmas.Bool.Decides.{nat_tests}
use Rattle.rx_base.specs.Rising.{Rises}
use Rattle.rx_units.specs.Digits.{is_hex_digit}
use Rattle.rx_units.proofs.Choices.{either_way}
use Rattle.rx_model.specs.Characters.Decoding.{braces_at, invalid, run_at}
use Rattle.rx_scan.specs.declared.unicode_escape.UnicodeEscape.{UnicodeEscape}
use Rattle.rx_scan.specs.declared.unicode_escape.UnicodeEscape.TheVariants as escape
use Rattle.rx_scan.specs.DecodingSteps.{digits_in_braces, digits_of_four, digits_of_run, hex_run, least_digits, most_digits}
use Rattle.rx_scan.specs.EscapeDecoding.{seen_escape}

-- more units may be more digits
most_more : (unicode_mode : Bool) (m n : ℕ) (e : UnicodeEscape) → m ≤ n → most_digits unicode_mode m e ≤ most_digits unicode_mode n e
most_more unicode_mode m n (escape.Value v k) h = omega arith
most_more true m n escape.Invalid h = h
most_more false m n escape.Invalid h = omega arith
most_more unicode_mode m n (escape.Overflow k) h = omega arith

-- a brace is no digit
no_brace : (x : ℕ) → is_hex_digit x ≡ true → (x == 123) ≡ false
no_brace x digit = grind (arith, nat_tests)

no_digit : (x : ℕ) (w : List ℕ) → is_hex_digit x ≡ false → digits_of_four (x ∷ w) ≡ 0
no_digit x w none = either_way (λ k. k ≡ 0) (nat_lt (length (x ∷ w)) 4) _ _ refl (ap (λ b. min 4 (cond b (1 + hex_run w) 0)) none)

-- where no escape is read
unread : (old new units : ℕ) (e : UnicodeEscape) → seen_escape e ≡ invalid → old ≤ new → new ≤ old + units → Rises old new (least_digits e) (most_digits true units e)
unread old new units (escape.Value v k) read least most = absurd (let no : ⊥ = cc in no)
unread old new units escape.Invalid read least most = (omega arith, omega arith)
unread old new units (escape.Overflow k) read least most = absurd (let no : ⊥ = cc in no)

-- Digits in braces are looked for where four digits were looked for: where some of the four were found, no brace stands.
pub after_four : (old four new : ℕ) (w : List ℕ) (units : ℕ) (e : UnicodeEscape) → length w ≡ units → four ≡ digits_of_four w + old → four ≤ old + 3 → seen_escape e ≡ braces_at w →
    Rises four new (digits_in_braces w) (digits_in_braces w + 1) → Rises four new (least_digits e) (most_digits true units e) → Rises old new (least_digits e) (most_digits true units e)
after_four old four new [] units e same looked few read braces rises = (omega arith, omega arith)
after_four old four new (x ∷ w) units e same looked few read braces rises = elim (cases_Bool (is_hex_digit x)) [
  | inr none ↦ let unmoved : four ≡ 0 + old = looked ∙ ap (λ k. k + old) (no_digit x w none) in (omega arith, omega arith)
  | inl digit ↦
      let no = no_brace x digit in
      let nothing : digits_in_braces (x ∷ w) ≡ 0 = ap (λ b. cond b (digits_of_run w) 0) no in
      elim (cases_Bool (nat_lt (length (x ∷ w)) 4)) [
        | inl short ↦ let unmoved : four ≡ 0 + old = looked ∙ ap (λ b. cond b 0 (min 4 (hex_run (x ∷ w))) + old) short in (omega arith, omega arith)
        | inr long ↦ unread old new units e (read ∙ ap (λ b. cond b (run_at 0 0 w) invalid) no) (omega arith) (omega (arith, ltb-false (length (x ∷ w)) 4 long))
      ]
]

-- a lead surrogate is read, with its four digits
pub after_lead : (old four new units : ℕ) (e : UnicodeEscape) → four ≡ old + 4 → Rises four (new + 4) (least_digits e) (most_digits true 0 e) → Rises old new (least_digits e) (most_digits true units e)
after_lead old four new units e found r = let more = most_more true 0 units e (omega arith) in (omega arith, omega arith)
