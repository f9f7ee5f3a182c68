-- Why a quoted text is not decoded, and where: at a place that is reached, at which neither an element nor the closing quote stands, or an element that
-- is not allowed; or outside the quotes.
use Rattle.std.specs.Prelude.{◌≡◌, ℕ, ◌+◌, ◌^◌, ◌<◌, ◌≤◌, Bool, true, false, ◌==◌, ◌||◌, List, [], ◌∷◌, ◌++◌, length, Some, codes}
use Rattle.rx_base.specs.Ascii as ascii
use Rattle.rx_base.specs.declared.span.Span.{Span}
use Rattle.rx_units.specs.declared.quoted_text.element.Element.{Element}
use Rattle.rx_units.specs.declared.quoted_text.element.Writing.TheVariants as writing
use Rattle.rx_units.specs.declared.quoted_text.literal.Literal.{Literal}
use Rattle.rx_units.specs.declared.quoted_text.literal.Literal.TheVariants as literals
use Rattle.rx_units.specs.declared.options.Options.{Options}
use Rattle.rx_units.specs.declared.string_literal_parser.LegacyKind.{LegacyKind}
use Rattle.rx_units.specs.declared.string_literal_parser.StringFault.{StringFault}
use Rattle.rx_units.specs.declared.string_literal_parser.StringFault.TheVariants as string_fault
use Rattle.rx_units.specs.declared.string_literal_parser.StringLiteralKind.{StringLiteralKind}
use Rattle.rx_units.specs.declared.template_literal_parser.TemplateFault.{TemplateFault}
use Rattle.rx_units.specs.declared.template_literal_parser.TemplateFault.TheVariants as template_fault
use Rattle.rx_units.specs.Quoted.Elements.{quote_of, SpellsElement, is_open_brace}
use Rattle.rx_units.specs.Quoted.Texts.{Place, byte_count, IsReached}
use Rattle.rx_units.specs.Digits.{front_is, hex_number, is_hex_digit, PassesHex}

abbrev pub from_to : ℕ → ℕ → Span
from_to start end = record { start = start; end = end }

abbrev pub empty_at : ℕ → Span
empty_at at = from_to at at

-- " or '
abbrev pub is_string_quote : ℕ → Bool
is_string_quote c = c == ascii.quotation_mark || c == ascii.apostrophe

-- a grave accent
abbrev pub is_grave_accent : ℕ → Bool
is_grave_accent c = c == ascii.grave_accent

abbrev pub is_close_brace : ℕ → Bool
is_close_brace c = c == ascii.right_brace

-- Here neither an element nor the closing quote stands.
pub record NothingStands (literal : Literal) (us : List ℕ) : Type 0 where
  pub no_element : (e : Element) (w rest : List ℕ) → us ≡ w ++ rest → SpellsElement literal e w rest → ⊥
  pub no_quote : (rest : List ℕ) → us ≡ quote_of literal ∷ rest → ⊥

-- The faults of a string.
pub data IsStringFault (o : Options) (text : List ℕ) : StringFault → Type 0 where
  -- no quote opens it
  unopened : front_is is_string_quote text ≡ false → IsStringFault o text (string_fault.InvalidInput (empty_at o.span_offset))
  -- nothing stands at a place, and no digits pass 32 bits there
  nothing : {k : StringLiteralKind} {p : Place} → IsReached (literals.String k) o text p → NothingStands (literals.String k) p.rest
      → ((w : List ℕ) (count : ℕ) → p.rest ≡ ascii.backslash ∷ w → PassesHex w count → ⊥) → IsStringFault o text (string_fault.InvalidInput (empty_at p.offset))
  -- something follows the closing quote
  followed : {k : StringLiteralKind} {p : Place} {c : ℕ} {cs : List ℕ} → IsReached (literals.String k) o text p → p.rest ≡ quote_of (literals.String k) ∷ c ∷ cs
      → IsStringFault o text (string_fault.InvalidInput (empty_at (p.offset + 1)))
  -- a legacy escape in strict mode code
  legacy : {k : StringLiteralKind} {p : Place} {what : LegacyKind} (e : Element) (w rest : List ℕ) → IsReached (literals.String k) o text p → p.rest ≡ w ++ rest → SpellsElement (literals.String k) e w rest
      → o.strict_mode ≡ true → e.writing ≡ writing.Legacy what → IsStringFault o text (string_fault.LegacyInStrictMode what (from_to p.offset (p.offset + byte_count w)))
  -- a number of more than 32 bits: from the backslash to before the digit that makes it so
  too_large : {k : StringLiteralKind} {p : Place} {w : List ℕ} {count : ℕ} → IsReached (literals.String k) o text p → p.rest ≡ ascii.backslash ∷ w → PassesHex w count
      → IsStringFault o text (string_fault.TooLargeUnicodeEscapeSequence (from_to p.offset (p.offset + 3 + count)))

-- The digits after `\u{`, all of them, make no CodePoint: there are none, they are past 10FFFF within 32 bits, or no `}` follows.
pub record IsNoCodePoint (us digits : List ℕ) : Type 0 where
  pub rest : List ℕ
  pub number : ℕ
  pub whole : us ≡ ascii.backslash ∷ ascii.u ∷ ascii.left_brace ∷ (digits ++ rest)
  pub number_is : hex_number digits ≡ Some number
  pub fits : number < 2 ^ 32
  pub all : front_is is_hex_digit rest ≡ false
  pub wrong : (digits ≡ [] → ⊥) → number ≤ 0x10FFFF → front_is is_close_brace rest ≡ false

-- The faults of a template.
pub data IsTemplateFault (o : Options) (text : List ℕ) : TemplateFault → Type 0 where
  -- no grave accent opens it
  unopened : front_is is_grave_accent text ≡ false → IsTemplateFault o text (template_fault.InvalidInput (empty_at o.span_offset))
  -- it ends without the closing one
  ends : {p : Place} → IsReached literals.Template o text p → p.rest ≡ [] → IsTemplateFault o text (template_fault.InvalidInput (empty_at p.offset))
  -- it ends after a backslash
  ends_escape : {p : Place} → IsReached literals.Template o text p → p.rest ≡ codes "\\" → IsTemplateFault o text (template_fault.InvalidInput (empty_at (p.offset + 1)))
  -- something follows the closing grave accent
  followed : {p : Place} {c : ℕ} {cs : List ℕ} → IsReached literals.Template o text p → p.rest ≡ ascii.grave_accent ∷ c ∷ cs → IsTemplateFault o text (template_fault.InvalidInput (empty_at (p.offset + 1)))
  -- `$` before `{`
  substitution : {p : Place} {rest : List ℕ} → IsReached literals.Template o text p → p.rest ≡ ascii.dollar_sign ∷ ascii.left_brace ∷ rest → IsTemplateFault o text (template_fault.TemplateSubstitution (empty_at p.offset))
  -- with strings as the standard has them a NotEscapeSequence of digits (13.2.8.1)
  not_escape : {p : Place} (e : Element) (w rest : List ℕ) → IsReached literals.Template o text p → p.rest ≡ w ++ rest → SpellsElement literals.Template e w rest → o.standard_strings ≡ true
      → e.writing ≡ writing.NotEscape → IsTemplateFault o text (template_fault.NotEscapeSequence (from_to p.offset (p.offset + byte_count w)))
  -- `\x` before no HexDigit
  no_hex_digit : {p : Place} {rest : List ℕ} → IsReached literals.Template o text p → p.rest ≡ ascii.backslash ∷ ascii.x ∷ rest → front_is is_hex_digit rest ≡ false
      → IsTemplateFault o text (template_fault.InvalidHexEscape (empty_at (p.offset + 2)))
  -- `\x` and one HexDigit, before no second
  one_hex_digit : {p : Place} {c : ℕ} {rest : List ℕ} → IsReached literals.Template o text p → p.rest ≡ ascii.backslash ∷ ascii.x ∷ c ∷ rest → is_hex_digit c ≡ true → front_is is_hex_digit rest ≡ false
      → IsTemplateFault o text (template_fault.InvalidHexEscape (empty_at (p.offset + 3)))
  -- `\u`, before neither four HexDigits nor `{`
  no_four_digits : {p : Place} {rest : List ℕ} → IsReached literals.Template o text p → p.rest ≡ ascii.backslash ∷ ascii.u ∷ rest → front_is is_open_brace rest ≡ false
      → ((a b c d v : ℕ) (more : List ℕ) → rest ≡ a ∷ b ∷ c ∷ d ∷ more → hex_number (a ∷ b ∷ c ∷ d ∷ []) ≡ Some v → ⊥)
      → IsTemplateFault o text (template_fault.InvalidUnicodeEscape (from_to p.offset (p.offset + 2)))
  -- `\u{`, its digits being no CodePoint
  no_code_point : {p : Place} {digits : List ℕ} → IsReached literals.Template o text p → IsNoCodePoint p.rest digits
      → IsTemplateFault o text (template_fault.InvalidUnicodeEscape (from_to p.offset (p.offset + 3 + length digits)))
  -- a number of more than 32 bits: from the backslash to before the digit that makes it so
  too_large : {p : Place} {w : List ℕ} {count : ℕ} → IsReached literals.Template o text p → p.rest ≡ ascii.backslash ∷ w → PassesHex w count
      → IsTemplateFault o text (template_fault.TooLargeUnicodeEscapeSequence (from_to p.offset (p.offset + 3 + count)))
