-- The sets of characters that the grammar of patterns names (ECMA-262, 22.2.1), and the numbers that characters stand for.
use Rattle.std.specs.Prelude.{ℕ, ◌+◌, ◌-◌, ◌%◌, Bool, ◌==◌, ◌&&◌, ◌||◌, Option, Some, None, codes, nat_lt, if◌then◌else◌}
use Rattle.rx_base.specs.Ascii as ascii
use Rattle.rx_base.specs.Characters.{is_one_of, is_within}

-- SyntaxCharacter (22.2.1)
abbrev pub is_syntax_character : ℕ → Bool
is_syntax_character c = is_one_of (codes "^$\\.*+?()[]{}|") c

-- ClassSetSyntaxCharacter (22.2.1)
abbrev pub is_class_set_syntax_character : ℕ → Bool
is_class_set_syntax_character c = is_one_of (codes "()[]{}/-\\|") c

-- ClassSetReservedDoublePunctuator (22.2.1): one of these twice
abbrev pub is_class_set_reserved_double_punctuator : ℕ → ℕ → Bool
is_class_set_reserved_double_punctuator c d = c == d && is_one_of (codes "&!#$%*+,.:;<=>?@^`~") c

-- ClassSetReservedPunctuator (22.2.1)
abbrev pub is_reserved_punctuator : ℕ → Bool
is_reserved_punctuator c = is_one_of (codes "&-!#%,:;<=>@`~") c

-- DecimalDigit (12.9.3): 0 to 9
abbrev pub is_decimal_digit : ℕ → Bool
is_decimal_digit c = is_within ascii.zero ascii.nine c

-- OctalDigit (12.9.3): 0 to 7
abbrev pub is_octal_digit : ℕ → Bool
is_octal_digit c = is_within ascii.zero ascii.seven c

-- AsciiLetter (22.2.1): A to Z, a to z
abbrev pub is_ascii_letter : ℕ → Bool
is_ascii_letter c = is_within ascii.A ascii.Z c || is_within ascii.a ascii.z c

-- UnicodePropertyNameCharacter (22.2.1): an AsciiLetter or _
abbrev pub is_unicode_property_name_character : ℕ → Bool
is_unicode_property_name_character c = is_ascii_letter c || c == ascii.underscore

-- UnicodePropertyValueCharacter (22.2.1): a UnicodePropertyNameCharacter or a DecimalDigit
abbrev pub is_unicode_property_value_character : ℕ → Bool
is_unicode_property_value_character c = is_unicode_property_name_character c || is_decimal_digit c

-- the value of \ and a ControlEscape (22.2.1): \t \n \v \f \r
abbrev pub control_escape_value : ℕ → Option ℕ
control_escape_value c =
    if c == ascii.t then Some ascii.tab
    else (if c == ascii.n then Some ascii.line_feed
    else (if c == ascii.v then Some ascii.vertical_tab
    else (if c == ascii.f then Some ascii.form_feed
    else (if c == ascii.r then Some ascii.carriage_return else None))))

-- the value of \ and a ControlEscape, a SyntaxCharacter or / (CharacterEscape and IdentityEscape of 22.2.1)
abbrev pub short_escape_value : ℕ → Option ℕ
short_escape_value c = if is_syntax_character c || c == ascii.slash then Some c else control_escape_value c

-- the value of \c and an AsciiLetter (22.2.1)
abbrev pub control_letter_value : ℕ → Option ℕ
control_letter_value c = if is_ascii_letter c then Some (c % 32) else None

-- the value of a HexDigit (12.9.3), of either case: the first letter stands for 10
abbrev pub hex_digit_value : ℕ → Option ℕ
hex_digit_value c =
    if is_decimal_digit c then Some (c - ascii.zero)
    else (if is_within ascii.A ascii.F c then Some (c - (ascii.A - 10))
    else (if is_within ascii.a ascii.f c then Some (c - (ascii.a - 10)) else None))

-- the HexDigit of a number below 16, in upper case
abbrev pub hex_digit : ℕ → ℕ
hex_digit d = if nat_lt d 10 then ascii.zero + d else (ascii.A - 10) + d
