-- The tables of characters against the definitions, at each ASCII character by computing.
use Rattle.std.proofs.Common.{◌≡◌, ℕ, ◌==◌, ◌<◌, ◌≤◌, get_or, nat_eq, not, refl, arith}
use Rattle.std.specs.Prelude.{Option, Some, None, nat_lt, if◌then◌else◌}
use Rattle.std.proofs.lemmas.Bool.Decides.{nat_tests}
use Rattle.rx_base.proofs.Tables.{table_at}
use Rattle.rx_tables.specs.Characters.{hex_digit_value, is_syntax_character, short_escape_value}
use Rattle.rx_tables.specs.declared.characters.TheConstants.{HEX_DIGITS, SHORT_ESCAPES, SYNTAX_CHARACTERS}

-- what a number of the table of hexadecimal digits says
abbrev digit_of : ℕ → Option ℕ
digit_of n = if nat_lt n 16 then Some n else None

pub digit_at : (c : ℕ) → c < 128 → digit_of (get_or HEX_DIGITS c 0) ≡ hex_digit_value c
digit_at = table_at digit_of hex_digit_value HEX_DIGITS refl

pub no_hex_digit_at : (c : ℕ) → c < 128 → 16 ≤ get_or HEX_DIGITS c 0 → hex_digit_value c ≡ None
no_hex_digit_at c ascii none = let read = digit_at c ascii in grind (arith, nat_tests)

-- what a number of the table of short escapes says
abbrev escape_of : ℕ → Option ℕ
escape_of n = if n == 0 then None else Some n

pub escape_at : (c : ℕ) → c < 128 → escape_of (get_or SHORT_ESCAPES c 0) ≡ short_escape_value c
escape_at = table_at escape_of short_escape_value SHORT_ESCAPES refl

pub short_escape_at : (c : ℕ) → c < 128 → 0 < get_or SHORT_ESCAPES c 0 → short_escape_value c ≡ Some (get_or SHORT_ESCAPES c 0)
short_escape_at c ascii some = let read = escape_at c ascii in grind (arith, nat_tests)

-- the table of syntax characters
pub syntax_at : (c : ℕ) → c < 128 → not (nat_eq (get_or SYNTAX_CHARACTERS c 0) 0) ≡ is_syntax_character c
syntax_at = table_at (λ n. not (nat_eq n 0)) is_syntax_character SYNTAX_CHARACTERS refl
