-- What stands after the backslash of an escape that strings and templates share (EscapeSequence and LineContinuation, ECMA-262, 12.9.4;
-- TemplateEscapeSequence, 12.9.6). A text is a list of characters, and `.. w rest` says that w spells a thing before rest.
use Rattle.std.specs.Prelude.{◌≡◌, ℕ, ◌≤◌, Bool, true, false, ◌==◌, ◌||◌, List, [], ◌∷◌, ◌++◌, Option, Some, None, if◌then◌else◌, codes}
use Rattle.rx_base.specs.Ascii as ascii
use Rattle.rx_tables.specs.Characters.{is_decimal_digit}
use Rattle.rx_units.specs.Digits.{front_is, hex_number}
use Rattle.rx_units.specs.Characters.{is_non_escape_character}
use Rattle.rx_units.specs.declared.quoted_text.element.Writing.{Writing}
use Rattle.rx_units.specs.declared.quoted_text.element.Writing.TheVariants as writing

-- <LF>
abbrev pub is_line_feed : ℕ → Bool
is_line_feed c = c == ascii.line_feed

-- the value of a SingleEscapeCharacter (12.9.4.2): ' " \ are themselves, b t n v f r the control characters of the table there
abbrev pub single_escape_value : ℕ → Option ℕ
single_escape_value c =
    if c == ascii.apostrophe || (c == ascii.quotation_mark || c == ascii.backslash) then Some c
    else (if c == ascii.b then Some ascii.backspace
    else (if c == ascii.t then Some ascii.tab
    else (if c == ascii.n then Some ascii.line_feed
    else (if c == ascii.v then Some ascii.vertical_tab
    else (if c == ascii.f then Some ascii.form_feed
    else (if c == ascii.r then Some ascii.carriage_return else None))))))

-- A LineTerminatorSequence (12.3), and the character that it is read as.
pub data SpellsTerminator : ℕ → List ℕ → List ℕ → Type 0 where
  -- <LF>, <LS>, <PS>
  alone : {c : ℕ} {rest : List ℕ} → (c == ascii.line_feed || (c == 0x2028 || c == 0x2029)) ≡ true → SpellsTerminator c (c ∷ []) rest
  -- <CR>, before no <LF>
  carriage_return : {rest : List ℕ} → front_is is_line_feed rest ≡ false → SpellsTerminator ascii.carriage_return (ascii.carriage_return ∷ []) rest
  -- <CR> <LF> give <LF>
  carriage_return_line_feed : {rest : List ℕ} → SpellsTerminator ascii.line_feed (ascii.carriage_return ∷ ascii.line_feed ∷ []) rest

-- The value of the escape that these characters spell after a backslash, and how it was written.
pub data SpellsEscape : ℕ → Writing → List ℕ → List ℕ → Type 0 where
  -- CharacterEscapeSequence: a SingleEscapeCharacter
  single : {c v : ℕ} {rest : List ℕ} → single_escape_value c ≡ Some v → SpellsEscape v writing.Plain (c ∷ []) rest
  -- CharacterEscapeSequence: a NonEscapeCharacter
  non_escape : {c : ℕ} {rest : List ℕ} → is_non_escape_character c ≡ true → SpellsEscape c writing.Plain (c ∷ []) rest
  -- `0`, before no DecimalDigit
  null : {rest : List ℕ} → front_is is_decimal_digit rest ≡ false → SpellsEscape 0 writing.Plain (codes "0") rest
  -- HexEscapeSequence: `x` and two HexDigits
  hexadecimal : {a b v : ℕ} {rest : List ℕ} → hex_number (a ∷ b ∷ []) ≡ Some v → SpellsEscape v writing.Hexadecimal (ascii.x ∷ a ∷ b ∷ []) rest
  -- UnicodeEscapeSequence: `u` and Hex4Digits
  four_digits : {a b c d v : ℕ} {rest : List ℕ} → hex_number (a ∷ b ∷ c ∷ d ∷ []) ≡ Some v → SpellsEscape v writing.Unicode (ascii.u ∷ a ∷ b ∷ c ∷ d ∷ []) rest
  -- UnicodeEscapeSequence: `u{`, a CodePoint in one or more HexDigits, `}`
  braced : {v : ℕ} {rest : List ℕ} (x : ℕ) (xs : List ℕ) → hex_number (x ∷ xs) ≡ Some v → v ≤ 0x10FFFF → SpellsEscape v writing.Unicode (ascii.u ∷ ascii.left_brace ∷ x ∷ (xs ++ codes "}")) rest
  -- LineContinuation: a LineTerminatorSequence
  continuation : {c : ℕ} {w rest : List ℕ} → SpellsTerminator c w rest → SpellsEscape c writing.LineContinuation w rest
