-- What stands at the front of a list of characters, and the numbers that digits spell.
use Rattle.std.specs.Prelude.{◌≡◌, ℕ, ◌+◌, ◌*◌, ◌-◌, ◌^◌, ◌<◌, ◌≤◌, Bool, false, is_some, List, [], ◌∷◌, ◌++◌, length, Option, Some, option_and_then}
use Rattle.rx_base.specs.Ascii as ascii
use Rattle.rx_tables.specs.Characters.{hex_digit_value}

-- whether the first of these characters is there, and in the set
abbrev pub front_is : (ℕ → Bool) → List ℕ → Bool
front_is set [] = false
front_is set (c ∷ cs) = set c

-- HexDigit (12.9.3)
abbrev pub is_hex_digit : ℕ → Bool
is_hex_digit c = is_some (hex_digit_value c)

-- the number that hexadecimal digits spell after a number, or none where one is no HexDigit
abbrev pub hex_after : ℕ → List ℕ → Option ℕ
hex_after n [] = Some n
hex_after n (c ∷ cs) = option_and_then (λ d. hex_after (16 * n + d) cs) (hex_digit_value c)

abbrev pub hex_number : List ℕ → Option ℕ
hex_number = hex_after 0

-- The number of the first count digits after `u{` fits in 32 bits, and with the next digit it does not.
-- Why: docs/DECISIONS.md, 97.
pub record PassesHex (w : List ℕ) (count : ℕ) : Type 0 where
  pub digits : List ℕ
  pub next : ℕ
  pub rest : List ℕ
  pub number : ℕ
  pub digit : ℕ
  pub whole : w ≡ ascii.u ∷ ascii.left_brace ∷ (digits ++ next ∷ rest)
  pub count_is : length digits ≡ count
  pub number_is : hex_number digits ≡ Some number
  pub digit_is : hex_digit_value next ≡ Some digit
  pub fits : number < 2 ^ 32
  pub passes : 2 ^ 32 ≤ 16 * number + digit

-- the number that an OctalDigit stands for
abbrev pub octal : ℕ → ℕ
octal c = c - ascii.zero
