-- The characters of identifiers (ECMA-262, 12.7). A surrogate is none of them.
use Rattle.std.specs.Prelude.{ℕ, Bool, ◌==◌, ◌&&◌, ◌||◌, codes, nat_lt, if◌then◌else◌}
use Rattle.rx_base.specs.Ascii as ascii
use Rattle.unicode.specs.Binary.{is_id_start, is_id_continue}
use Rattle.rx_base.specs.Characters.{is_character, is_one_of}
use Rattle.rx_tables.specs.Characters.{is_ascii_letter, is_decimal_digit}

-- UnicodeIDStart (12.7): the letters of ASCII, and past it what has the property ID_Start
abbrev pub is_unicode_id_start : ℕ → Bool
is_unicode_id_start c = if nat_lt c 0x80 then is_ascii_letter c else is_character c && is_id_start c

-- UnicodeIDContinue (12.7): the letters and digits of ASCII and _, and past it what has the property ID_Continue
abbrev pub is_unicode_id_continue : ℕ → Bool
is_unicode_id_continue c = if nat_lt c 0x80 then is_ascii_letter c || is_decimal_digit c || c == ascii.underscore else is_character c && is_id_continue c

-- IdentifierStartChar (12.7): UnicodeIDStart, $ or _
abbrev pub is_identifier_start_char : ℕ → Bool
is_identifier_start_char c = is_unicode_id_start c || is_one_of (codes "$_") c

-- IdentifierPartChar (12.7): UnicodeIDContinue or $
abbrev pub is_identifier_part_char : ℕ → Bool
is_identifier_part_char c = is_unicode_id_continue c || c == ascii.dollar_sign
