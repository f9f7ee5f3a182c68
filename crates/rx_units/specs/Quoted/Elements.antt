-- The elements of strings (DoubleStringCharacter and SingleStringCharacter, ECMA-262, 12.9.4) and of templates (TemplateCharacter, 12.9.6).
use Rattle.std.specs.Prelude.{◌≡◌, ℕ, Bool, true, false, not, ◌==◌, ◌||◌, List, [], ◌∷◌, codes}
use Rattle.rx_base.specs.Ascii as ascii
use Rattle.rx_tables.specs.Characters.{is_decimal_digit}
use Rattle.rx_base.specs.Characters.{is_within}
use Rattle.rx_units.specs.Characters.{is_line_terminator}
use Rattle.rx_units.specs.declared.quoted_text.element.Element.{Element}
use Rattle.rx_units.specs.declared.quoted_text.element.Writing.{Writing}
use Rattle.rx_units.specs.declared.quoted_text.element.Writing.TheVariants as writing
use Rattle.rx_units.specs.declared.quoted_text.literal.Literal.{Literal}
use Rattle.rx_units.specs.declared.quoted_text.literal.Literal.TheVariants as literals
use Rattle.rx_units.specs.declared.string_literal_parser.LegacyKind.TheVariants as legacy_kind
use Rattle.rx_units.specs.declared.string_literal_parser.StringLiteralKind.TheVariants as quotes
use Rattle.rx_units.specs.Quoted.Escapes.{SpellsEscape, SpellsTerminator}
use Rattle.rx_units.specs.Digits.{front_is}
use Rattle.rx_units.specs.OctalEscapes.{SpellsOctal}

abbrev pub written : ℕ → Writing → Element
written value how = record { value = value; writing = how }

-- a SourceCharacter but not the quote, `\`, <CR> or <LF>; so <LS> and <PS> are among them
abbrev pub is_string_character : ℕ → ℕ → Bool
is_string_character quote c = not (c == quote || (c == ascii.backslash || (c == ascii.carriage_return || c == ascii.line_feed)))

-- The element of a string in these quotes that these characters spell.
pub data SpellsInString (quote : ℕ) : Element → List ℕ → List ℕ → Type 0 where
  -- a character that stands for itself
  character : {c : ℕ} {rest : List ℕ} → is_string_character quote c ≡ true → SpellsInString quote (written c writing.Plain) (c ∷ []) rest
  -- `\` and an EscapeSequence that is none of the legacy ones, or a LineContinuation
  escape : {v : ℕ} {k : Writing} {w rest : List ℕ} → SpellsEscape v k w rest → SpellsInString quote (written v k) (ascii.backslash ∷ w) rest
  -- `\` and a LegacyOctalEscapeSequence
  legacy_octal : {v : ℕ} {w rest : List ℕ} → SpellsOctal v w rest → SpellsInString quote (written v (writing.Legacy legacy_kind.Octal)) (ascii.backslash ∷ w) rest
  -- NonOctalDecimalEscapeSequence: 8 or 9
  non_octal : {c : ℕ} {rest : List ℕ} → is_within ascii.eight ascii.nine c ≡ true → SpellsInString quote (written c (writing.Legacy legacy_kind.NonOctalDecimal)) (ascii.backslash ∷ c ∷ []) rest

-- a SourceCharacter but not a grave accent, `\`, `$` or a LineTerminator
abbrev pub is_template_character : ℕ → Bool
is_template_character c = not (c == ascii.grave_accent || (c == ascii.backslash || (c == ascii.dollar_sign || is_line_terminator c)))

-- {
abbrev pub is_open_brace : ℕ → Bool
is_open_brace c = c == ascii.left_brace

-- The element of a template that these characters spell.
pub data SpellsInTemplate : Element → List ℕ → List ℕ → Type 0 where
  -- a character that stands for itself
  character : {c : ℕ} {rest : List ℕ} → is_template_character c ≡ true → SpellsInTemplate (written c writing.Plain) (c ∷ []) rest
  -- `$`, before no `{`
  dollar : {rest : List ℕ} → front_is is_open_brace rest ≡ false → SpellsInTemplate (written ascii.dollar_sign writing.Plain) (codes "$") rest
  -- a LineTerminatorSequence
  terminator : {c : ℕ} {w rest : List ℕ} → SpellsTerminator c w rest → SpellsInTemplate (written c writing.LineTerminator) w rest
  -- `\` and a TemplateEscapeSequence, or a LineContinuation
  escape : {v : ℕ} {k : Writing} {w rest : List ℕ} → SpellsEscape v k w rest → SpellsInTemplate (written v k) (ascii.backslash ∷ w) rest
  -- `\` and a NotEscapeSequence of digits, whose value is its last digit: `0` and a DecimalDigit
  zero_digit : {c : ℕ} {rest : List ℕ} → is_decimal_digit c ≡ true → SpellsInTemplate (written c writing.NotEscape) (ascii.backslash ∷ ascii.zero ∷ c ∷ []) rest
  -- a DecimalDigit but not 0
  digit : {c : ℕ} {rest : List ℕ} → is_within ascii.one ascii.nine c ≡ true → SpellsInTemplate (written c writing.NotEscape) (ascii.backslash ∷ c ∷ []) rest

-- the opening quote of a quoted text, and the closing one
abbrev pub quote_of : Literal → ℕ
quote_of (literals.String quotes.Double) = ascii.quotation_mark
quote_of (literals.String quotes.Single) = ascii.apostrophe
quote_of literals.Template = ascii.grave_accent

-- The element of a quoted text that these characters spell.
abbrev pub SpellsElement : Literal → Element → List ℕ → List ℕ → Type 0
SpellsElement (literals.String quotes.Double) = SpellsInString ascii.quotation_mark
SpellsElement (literals.String quotes.Single) = SpellsInString ascii.apostrophe
SpellsElement literals.Template = SpellsInTemplate
