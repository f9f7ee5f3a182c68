-- How many hexadecimal digits the decoder of unicode escapes looks at.
use Rattle.std.specs.Prelude.{ℕ, ◌+◌, ◌-◌, Bool, ◌==◌, ◌&&◌, List, [], ◌∷◌, drop, length, min, Option, Some, None, nat_lt, if◌then◌else◌}
use Rattle.std.specs.List.{prefix_len}
use Rattle.rx_base.specs.Ascii as ascii
use Rattle.rx_base.specs.Characters.{is_lead}
use Rattle.rx_units.specs.Digits.{is_hex_digit}
use Rattle.rx_model.specs.Characters.Decoding.{four_at}
use Rattle.rx_scan.specs.declared.unicode_escape.UnicodeEscape.{UnicodeEscape}
use Rattle.rx_scan.specs.declared.unicode_escape.UnicodeEscape.TheVariants as escape

-- at least: the digits of an escape of n units, which has a `u` and at most two braces besides, and those before one that passes 32 bits
abbrev pub least_digits : UnicodeEscape → ℕ
least_digits (escape.Value code_point length) = length - 3
least_digits escape.Invalid = 0
least_digits (escape.Overflow digits) = digits

-- at most, of so many units, in unicode mode or not: for a lead surrogate the four digits of a trail are looked for
abbrev pub most_digits : Bool → ℕ → UnicodeEscape → ℕ
most_digits unicode_mode units (escape.Value code_point length) = length + 4
most_digits unicode_mode units escape.Invalid = if unicode_mode then units else 4
most_digits unicode_mode units (escape.Overflow digits) = digits + 1

-- how many units an escape is; 0 where none is read
abbrev pub escape_length : UnicodeEscape → ℕ
escape_length (escape.Value code_point length) = length
escape_length escape.Invalid = 0
escape_length (escape.Overflow digits) = 0

-- how long the longest run of hexadecimal digits at the front is
abbrev pub hex_run : List ℕ → ℕ
hex_run w = prefix_len is_hex_digit w

-- Where four digits are looked for, those of the run are looked at, four at most. Where fewer than four units are left, none is.
abbrev pub digits_of_four : List ℕ → ℕ
digits_of_four w = if nat_lt (length w) 4 then 0 else min 4 (hex_run w)

-- the same after a backslash and `u`, where a trail surrogate is looked for
abbrev pub digits_of_trail : List ℕ → ℕ
digits_of_trail (x ∷ y ∷ w) = if (x == ascii.backslash) && (y == ascii.u) then digits_of_four w else 0
digits_of_trail _ = 0

-- how many zeros stand at the front
abbrev pub zeros : List ℕ → ℕ
zeros w = prefix_len (λ c. c == ascii.zero) w

-- After an opening brace the run is looked at up to the digit that passes 32 bits, and with it: after the zeros at its front this is the ninth.
abbrev pub digits_of_run : List ℕ → ℕ
digits_of_run w = zeros w + min 9 (hex_run (drop (zeros w) w))

abbrev pub digits_in_braces : List ℕ → ℕ
digits_in_braces [] = 0
digits_in_braces (x ∷ w) = if x == ascii.left_brace then digits_of_run w else 0

-- In unicode mode more are looked at where four digits stand that are a lead surrogate, and where no four digits stand and a brace does.
abbrev pub digits_beyond_four : Option (ℕ × List ℕ) → List ℕ → ℕ
digits_beyond_four (Some v) w = if is_lead v.0 then digits_of_trail v.1 else 0
digits_beyond_four None w = digits_in_braces w

abbrev pub digits_after_u : Bool → List ℕ → ℕ
digits_after_u unicode_mode w = digits_of_four w + (if unicode_mode then digits_beyond_four (four_at w) w else 0)

-- How many hexadecimal digits are looked at, in unicode mode or not.
abbrev pub digits_looked_at : Bool → List ℕ → ℕ
digits_looked_at unicode_mode [] = 0
digits_looked_at unicode_mode (x ∷ w) = if x == ascii.u then digits_after_u unicode_mode w else 0
