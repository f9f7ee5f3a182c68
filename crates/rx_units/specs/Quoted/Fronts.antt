-- How a quoted text is read at a place, and an escape after its backslash: which element stands there, or why none does.
-- What elements mean stands in Elements, and what else is wrong in Faults.
use Rattle.std.specs.Prelude.{ℕ, Bool, ◌+◌, ◌*◌, ◌^◌, not, ◌==◌, ◌&&◌, ◌||◌, List, [], ◌∷◌, Option, Some, None, nat_le, nat_lt, if◌then◌else◌}
use Rattle.rx_base.specs.Ascii as ascii
use Rattle.rx_tables.specs.Characters.{hex_digit_value, is_octal_digit, is_decimal_digit}
use Rattle.rx_units.specs.Characters.{is_line_terminator}
use Rattle.rx_units.specs.declared.quoted_text.element.Element.{Element}
use Rattle.rx_units.specs.declared.quoted_text.element.Writing.{Writing}
use Rattle.rx_units.specs.declared.quoted_text.element.Writing.TheVariants as writing
use Rattle.rx_units.specs.declared.quoted_text.literal.Literal.{Literal}
use Rattle.rx_units.specs.declared.quoted_text.literal.Literal.TheVariants as literals
use Rattle.rx_units.specs.declared.string_literal_parser.LegacyKind.TheVariants as legacy_kind
use Rattle.rx_units.specs.declared.string_literal_parser.StringLiteralKind.TheVariants as quotes
use Rattle.rx_units.specs.Quoted.Escapes.{is_line_feed, single_escape_value}
use Rattle.rx_units.specs.Quoted.Elements.{written, is_open_brace}
use Rattle.rx_units.specs.Digits.{front_is, hex_number}
use Rattle.rx_units.specs.OctalEscapes.{octal_read}

-- What stands after a backslash. The numbers count characters from the backslash on.
pub data EscapeRead : Type 0 where
  -- a value, how it was written, and in how many characters
  escaped : ℕ → Writing → ℕ → EscapeRead
  -- a DecimalDigit that is no null
  digit : EscapeRead
  -- the end of the text
  unended : EscapeRead
  -- no HexEscapeSequence or UnicodeEscapeSequence, and how many of its characters stand there; digits that pass 32 bits, and how many characters stand before the one that does
  no_hex : ℕ → EscapeRead
  no_unicode : ℕ → EscapeRead
  passes : ℕ → EscapeRead

-- What stands at a place. The numbers count characters from the place on.
pub data Front : Type 0 where
  element : Element → ℕ → Front
  closer : Front
  -- no element: in a template only where the text ends
  nothing : ℕ → Front
  substitution : Front
  invalid_hex : ℕ → Front
  invalid_unicode : ℕ → Front
  too_large : ℕ → Front

abbrev pub front_digit : List ℕ → Option ℕ
front_digit [] = None
front_digit (c ∷ w) = hex_digit_value c

abbrev pub hex_pair : Option ℕ → Option ℕ → EscapeRead
hex_pair None low = no_hex 2
hex_pair (Some high) None = no_hex 3
hex_pair (Some high) (Some low) = escaped (16 * high + low) writing.Hexadecimal 4

-- after `x`
abbrev pub hex_at : List ℕ → EscapeRead
hex_at [] = no_hex 2
hex_at (a ∷ w) = hex_pair (hex_digit_value a) (front_digit w)

-- the number of the first four
abbrev pub four_at : List ℕ → Option ℕ
four_at (a ∷ b ∷ c ∷ d ∷ w) = hex_number (a ∷ b ∷ c ∷ d ∷ [])
four_at _ = None

-- one step of the digits in braces: what a character stands for, the number and the count so far, the character, and how it goes on
abbrev pub digit_step : Option ℕ → ℕ → ℕ → ℕ → (ℕ → EscapeRead) → EscapeRead
digit_step (Some d) n count x again = if nat_lt (16 * n + d) (2 ^ 32) then again (16 * n + d) else passes (count + 3)
digit_step None n count x again = if (x == ascii.right_brace) && (nat_lt 0 count && nat_le n 0x10FFFF) then escaped n writing.Unicode (count + 4) else no_unicode (count + 3)

-- digits and a brace, after a number and n digits
abbrev pub digits_at : ℕ → ℕ → List ℕ → EscapeRead
digits_at n count [] = no_unicode (count + 3)
digits_at n count (x ∷ xs) = digit_step (hex_digit_value x) n count x (λ m. digits_at m (count + 1) xs)

abbrev pub braces_at : List ℕ → EscapeRead
braces_at [] = no_unicode 2
braces_at (x ∷ xs) = if x == ascii.left_brace then digits_at 0 0 xs else no_unicode 2

-- after `u`
abbrev pub unicode_after : Option ℕ → List ℕ → EscapeRead
unicode_after (Some v) w = escaped v writing.Unicode 6
unicode_after None w = braces_at w

-- after a LineTerminator
abbrev pub line_after : ℕ → List ℕ → EscapeRead
line_after c w = if c == ascii.carriage_return && front_is is_line_feed w then escaped ascii.line_feed writing.LineContinuation 3 else escaped c writing.LineContinuation 2

abbrev pub escape_after : Option ℕ → ℕ → List ℕ → EscapeRead
escape_after (Some v) c w = escaped v writing.Plain 2
escape_after None c w =
    if is_decimal_digit c then (if c == ascii.zero && not (front_is is_decimal_digit w) then escaped 0 writing.Plain 2 else digit)
    else (if c == ascii.x then hex_at w
    else (if c == ascii.u then unicode_after (four_at w) w
    else (if is_line_terminator c then line_after c w
    else escaped c writing.Plain 2)))

unfoldable pub escape_at : List ℕ → EscapeRead
escape_at [] = unended
escape_at (c ∷ w) = escape_after (single_escape_value c) c w

-- a LegacyOctalEscapeSequence from its first digit on
abbrev pub octal_at : ℕ → List ℕ → Front
octal_at = octal_read (λ v n. element (written v (writing.Legacy legacy_kind.Octal)) (n + 1))

-- a digit after a backslash of a string
abbrev pub legacy_at : List ℕ → Front
legacy_at [] = nothing 0
legacy_at (c ∷ w) = if is_octal_digit c then octal_at c w else element (written c (writing.Legacy legacy_kind.NonOctalDecimal)) 2

abbrev pub string_escape : EscapeRead → List ℕ → Front
string_escape (escaped v k n) w = element (written v k) n
string_escape digit w = legacy_at w
string_escape unended w = nothing 0
string_escape (no_hex n) w = nothing 0
string_escape (no_unicode n) w = nothing 0
string_escape (passes n) w = too_large n

abbrev pub string_front : ℕ → List ℕ → Front
string_front quote [] = nothing 0
string_front quote (c ∷ w) =
    if c == quote then closer
    else (if c == ascii.backslash then string_escape (escape_at w) w
    else (if c == ascii.carriage_return || c == ascii.line_feed then nothing 0 else element (written c writing.Plain) 1))

-- a digit after a backslash of a template
abbrev pub digit_after : ℕ → List ℕ → Front
digit_after c [] = element (written c writing.NotEscape) 2
digit_after c (d ∷ w) = if c == ascii.zero then element (written d writing.NotEscape) 3 else element (written c writing.NotEscape) 2

abbrev pub digit_at : List ℕ → Front
digit_at [] = nothing 0
digit_at (c ∷ w) = digit_after c w

abbrev pub template_escape : EscapeRead → List ℕ → Front
template_escape (escaped v k n) w = element (written v k) n
template_escape digit w = digit_at w
template_escape unended w = nothing 1
template_escape (no_hex n) w = invalid_hex n
template_escape (no_unicode n) w = invalid_unicode n
template_escape (passes n) w = too_large n

abbrev pub raw_line : ℕ → List ℕ → Front
raw_line c w = if c == ascii.carriage_return && front_is is_line_feed w then element (written ascii.line_feed writing.LineTerminator) 2 else element (written c writing.LineTerminator) 1

abbrev pub template_front : List ℕ → Front
template_front [] = nothing 0
template_front (c ∷ w) =
    if c == ascii.grave_accent then closer
    else (if c == ascii.backslash then template_escape (escape_at w) w
    else (if c == ascii.dollar_sign then (if front_is is_open_brace w then substitution else element (written c writing.Plain) 1)
    else (if is_line_terminator c then raw_line c w else element (written c writing.Plain) 1)))

-- an ASCII character that stands for itself in each kind of quotes
abbrev pub is_plain : ℕ → Bool
is_plain c =
    nat_lt c 128 && not (c == ascii.quotation_mark || c == ascii.apostrophe || c == ascii.grave_accent || c == ascii.dollar_sign || c == ascii.backslash || c == ascii.line_feed || c == ascii.carriage_return)

unfoldable pub front : Literal → List ℕ → Front
front (literals.String quotes.Double) us = string_front ascii.quotation_mark us
front (literals.String quotes.Single) us = string_front ascii.apostrophe us
front literals.Template us = template_front us
