-- How a character is spelled canonically.
use Rattle.std.specs.Prelude.{ℕ, zero, suc, ◌/◌, ◌%◌, Bool, false, ◌==◌, ◌&&◌, ◌||◌, List, [], ◌∷◌, ◌++◌, nat_lt, if◌then◌else◌, codes}
use Rattle.rx_base.specs.Ascii as ascii
use Rattle.rx_base.specs.Characters.{is_surrogate, is_within}
use Rattle.rx_model.specs.declared.mode.Mode.{Mode}
use Rattle.rx_model.specs.declared.mode.Mode.TheVariants.{Legacy, Unicode, Sets}
use Rattle.rx_tables.specs.Characters.{is_decimal_digit, is_reserved_punctuator, is_syntax_character, hex_digit}

-- t n v f r, for 9 to D
abbrev pub control_letter : ℕ → ℕ
control_letter c = if c == ascii.tab then ascii.t else (if c == ascii.line_feed then ascii.n else (if c == ascii.vertical_tab then ascii.v else (if c == ascii.form_feed then ascii.f else ascii.r)))

-- \xHH
unfoldable pub two_digits : ℕ → List ℕ
two_digits c = codes "\\x" ++ (hex_digit (c / 16 % 16) ∷ hex_digit (c % 16) ∷ [])

-- \uXXXX
unfoldable pub four_digits : ℕ → List ℕ
four_digits c = codes "\\u" ++ (hex_digit (c / 4096 % 16) ∷ hex_digit (c / 256 % 16) ∷ hex_digit (c / 16 % 16) ∷ hex_digit (c % 16) ∷ [])

-- the last k hexadecimal digits at most, without leading zeros
abbrev pub hex : ℕ → ℕ → List ℕ
hex zero n = []
hex (suc k) n = (if nat_lt n 16 then [] else hex k (n / 16)) ++ (hex_digit (n % 16) ∷ [])

-- \u{H..}
unfoldable pub in_braces_text : ℕ → List ℕ
in_braces_text c = codes "\\u{" ++ (hex 8 c ++ codes "}")

-- a surrogate alone
abbrev pub surrogate_text : Mode → ℕ → List ℕ
surrogate_text Legacy c = four_digits c
surrogate_text Unicode c = in_braces_text c
surrogate_text Sets c = in_braces_text c

-- the greatest value that the mode reads raw
abbrev pub greatest_raw : Mode → ℕ
greatest_raw Legacy = 0xFFFF
greatest_raw Unicode = 0x10FFFF
greatest_raw Sets = 0x10FFFF

-- Where a character stands: outside classes, where the flag says whether an unquantified indexed reference stands right before it; or in a class.
pub data Place : Type 0 where
  outside : Bool → Place
  in_class : Place

-- whether a backslash stands before a character: a SyntaxCharacter or `/`; in a class also `-`; in a class in sets mode also a reserved punctuator
abbrev pub is_reserved_in_class : Mode → ℕ → Bool
is_reserved_in_class Legacy c = c == ascii.hyphen
is_reserved_in_class Unicode c = c == ascii.hyphen
is_reserved_in_class Sets c = is_reserved_punctuator c

abbrev pub is_escaped : Mode → Place → ℕ → Bool
is_escaped mode (outside after_reference) c = is_syntax_character c || c == ascii.slash
is_escaped mode in_class c = is_syntax_character c || c == ascii.slash || is_reserved_in_class mode c

-- whether it would go on with the digits of the reference right before it
abbrev pub goes_on : Place → ℕ → Bool
goes_on (outside after_reference) c = after_reference && is_decimal_digit c
goes_on in_class c = false

-- the first row that fits
unfoldable pub character_text : Mode → Place → ℕ → List ℕ
character_text mode place c =
    if is_within ascii.tab ascii.carriage_return c then ascii.backslash ∷ control_letter c ∷ []
    else (if nat_lt c 32 || is_within 127 159 c then two_digits c
    else (if c == 0x2028 || c == 0x2029 then four_digits c
    else (if is_surrogate c then surrogate_text mode c
    else (if nat_lt (greatest_raw mode) c then in_braces_text c
    else (if is_escaped mode place c then ascii.backslash ∷ c ∷ []
    else (if goes_on place c then codes "\\x3" ++ (c ∷ [])
    else c ∷ []))))))
