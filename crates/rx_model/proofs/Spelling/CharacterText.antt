-- What holds of each form that the canonical text of a character has.
use Rattle.std.proofs.Common.{◌≡◌, ℕ, ◌==◌, ◌||◌, true, false, nat_lt, List, [], ◌∷◌}
use Rattle.std.proofs.lemmas.Bool.{cond_both}
use Rattle.rx_base.specs.Characters.{is_surrogate, is_within}
use Rattle.rx_tables.specs.Characters.{is_decimal_digit}
use Rattle.rx_model.specs.declared.mode.Mode.{Mode}
use Rattle.rx_model.specs.declared.mode.Mode.TheVariants.{Legacy}
use Rattle.rx_model.specs.Spelling.CharacterText.{Place, outside, control_letter, two_digits, four_digits, in_braces_text, surrogate_text, greatest_raw, is_escaped, goes_on, character_text}

-- a character that stands for itself
pub record IsRaw (mode : Mode) (place : Place) (c : ℕ) : Type 0 where
  pub no_control : is_within 9 13 c ≡ false
  pub no_separator : (c == 0x2028 || c == 0x2029) ≡ false
  pub unescaped : is_escaped mode place c ≡ false
  pub alone : goes_on place c ≡ false

going_digit : (place : Place) (c : ℕ) → goes_on place c ≡ true → is_decimal_digit c ≡ true
going_digit (outside true) c h = h
going_digit q c h = absurd (let no : ⊥ = cc h in no)

pub by_form : (P : List ℕ → Type 0) (mode : Mode) (place : Place) (c : ℕ) → P (92 ∷ control_letter c ∷ []) → P (two_digits c) → P (four_digits c) → P (in_braces_text c) → (is_escaped mode place c ≡ true → P (92 ∷ c ∷ []))
    → (is_decimal_digit c ≡ true → P (92 ∷ 120 ∷ 51 ∷ c ∷ [])) → (IsRaw mode place c → P (c ∷ [])) → P (character_text mode place c)
unfolding character_text
by_form P mode place c control two four braces escaped digit raw =
    cond_both (is_within 9 13 c) _ _ P (λ _. control)
    (λ no_control. cond_both (nat_lt c 32 || is_within 127 159 c) _ _ P (λ _. two)
    (λ _. cond_both (c == 0x2028 || c == 0x2029) _ _ P (λ _. four)
    (λ no_separator. cond_both (is_surrogate c) _ _ P (λ _. surrogate mode)
    (λ _. cond_both (nat_lt (greatest_raw mode) c) _ _ P (λ _. braces)
    (λ _. cond_both (is_escaped mode place c) _ _ P escaped
    (λ unescaped. cond_both (goes_on place c) _ _ P (λ goes. digit (going_digit place c goes))
    (λ alone. raw (record { no_control = no_control; no_separator = no_separator; unescaped = unescaped; alone = alone }))))))))
  where
    surrogate : (mode : Mode) → P (surrogate_text mode c)
    surrogate Legacy = four
    surrogate mode = braces
