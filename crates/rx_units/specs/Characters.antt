-- The sets of characters that the grammar of string literals names (ECMA-262, 12.9.4).
use Rattle.std.specs.Prelude.{ℕ, Bool, not, ◌==◌, ◌||◌}
use Rattle.rx_base.specs.Ascii as ascii
use Rattle.rx_tables.specs.Characters.{is_decimal_digit}

-- LineTerminator (12.3): line feed, carriage return, line separator, paragraph separator
abbrev pub is_line_terminator : ℕ → Bool
is_line_terminator c = c == 0xA || c == 0xD || c == 0x2028 || c == 0x2029

-- SingleEscapeCharacter (12.9.4): one of ' " \ b f n r t v
abbrev pub is_single_escape_character : ℕ → Bool
is_single_escape_character c = c == ascii.apostrophe || c == ascii.quotation_mark || c == ascii.backslash || c == ascii.b || c == ascii.f || c == ascii.n || c == ascii.r || c == ascii.t || c == ascii.v

-- EscapeCharacter (12.9.4): a SingleEscapeCharacter, a DecimalDigit, x or u
abbrev pub is_escape_character : ℕ → Bool
is_escape_character c = is_single_escape_character c || is_decimal_digit c || c == ascii.x || c == ascii.u

-- NonEscapeCharacter (12.9.4): neither an EscapeCharacter nor a LineTerminator
abbrev pub is_non_escape_character : ℕ → Bool
is_non_escape_character c = not (is_escape_character c || is_line_terminator c)
