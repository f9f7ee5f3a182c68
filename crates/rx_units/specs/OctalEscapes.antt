-- LegacyOctalEscapeSequence (ECMA-262, 12.9.4), after its backslash: an escape of strings, and by B.1.2 of patterns with neither `u` nor `v`.
use Rattle.rx_base.specs.Characters.{is_within}
use Rattle.std.specs.Prelude.{◌≡◌, ℕ, ◌+◌, ◌*◌, true, false, ◌&&◌, List, [], ◌∷◌, codes, if◌then◌else◌}
use Rattle.rx_base.specs.Ascii as ascii
use Rattle.rx_tables.specs.Characters.{is_octal_digit}
use Rattle.rx_units.specs.Digits.{front_is, octal}

-- These digits, before rest, spell the value.
-- Why: docs/DECISIONS.md, 97.
pub data SpellsOctal : ℕ → List ℕ → List ℕ → Type 0 where
  -- `0` before 8 or 9
  octal_zero : {rest : List ℕ} → front_is (is_within ascii.eight ascii.nine) rest ≡ true → SpellsOctal 0 (codes "0") rest
  -- a NonZeroOctalDigit before no OctalDigit
  octal1 : {c : ℕ} {rest : List ℕ} → is_within ascii.one ascii.seven c ≡ true → front_is is_octal_digit rest ≡ false → SpellsOctal (octal c) (c ∷ []) rest
  -- a ZeroToThree and an OctalDigit before no OctalDigit
  octal2_low : {c d : ℕ} {rest : List ℕ} → is_within ascii.zero ascii.three c ≡ true → is_octal_digit d ≡ true → front_is is_octal_digit rest ≡ false → SpellsOctal (8 * octal c + octal d) (c ∷ d ∷ []) rest
  -- a FourToSeven and an OctalDigit
  octal2_high : {c d : ℕ} {rest : List ℕ} → is_within ascii.four ascii.seven c ≡ true → is_octal_digit d ≡ true → SpellsOctal (8 * octal c + octal d) (c ∷ d ∷ []) rest
  -- a ZeroToThree and two OctalDigits
  octal3 : {c d f : ℕ} {rest : List ℕ} → is_within ascii.zero ascii.three c ≡ true → is_octal_digit d ≡ true → is_octal_digit f ≡ true
      → SpellsOctal (64 * octal c + 8 * octal d + octal f) (c ∷ d ∷ f ∷ []) rest

-- How the digits are read from the first on: what is made of the value and of how many digits spell it.
abbrev pub octal_read : {Answer : Type 0} → (ℕ → ℕ → Answer) → ℕ → List ℕ → Answer
octal_read make c [] = make (octal c) 1
octal_read make c (d ∷ []) = if is_octal_digit d then make (8 * octal c + octal d) 2 else make (octal c) 1
octal_read make c (d ∷ f ∷ w) =
    if is_octal_digit d
    then (if is_within ascii.zero ascii.three c && is_octal_digit f then make (64 * octal c + 8 * octal d + octal f) 3 else make (8 * octal c + octal d) 2)
    else make (octal c) 1
