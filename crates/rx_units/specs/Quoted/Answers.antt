-- What the readers of quoted texts are given, and what they may answer.
use Rattle.std.specs.Prelude.{◌≡◌, ℕ, ◌+◌, ◌<◌, ◌≤◌, ◌^◌, true, All, List, take}
use Rattle.rx_base.specs.declared.span.Span.{Span}
use Rattle.rx_units.specs.declared.quoted_text.element.Element.{Element}
use Rattle.rx_units.specs.declared.quoted_text.element.Writing.{Writing}
use Rattle.rx_units.specs.declared.quoted_text.element.Writing.TheVariants.{Legacy, NotEscape, Plain}
use Rattle.rx_units.specs.declared.quoted_text.literal.Literal.{Literal}
use Rattle.rx_units.specs.declared.quoted_text.literal.Literal.TheVariants as literals
use Rattle.rx_units.specs.declared.options.Options.{Options}
use Rattle.rx_units.specs.declared.quoted_text.reading.Stop.{Stop}
use Rattle.rx_units.specs.declared.string_literal_parser.StringFault.{StringFault}
use Rattle.rx_units.specs.declared.string_literal_parser.StringFault.TheVariants as string_fault
use Rattle.rx_units.specs.declared.string_literal_parser.StringLiteral.{StringLiteral}
use Rattle.rx_units.specs.declared.template_literal_parser.TemplateFault.{TemplateFault}
use Rattle.rx_units.specs.declared.template_literal_parser.TemplateFault.TheVariants as template_fault
use Rattle.rx_units.specs.declared.template_literal_parser.TemplateLiteral.{TemplateLiteral}
use Rattle.rx_units.specs.Quoted.Elements.{written}
use Rattle.rx_units.specs.Quoted.Faults.{empty_at, from_to}
use Rattle.rx_units.specs.Quoted.Found.{seen_front}
use Rattle.rx_units.specs.Quoted.Fronts.{Front, element, closer, nothing, substitution, invalid_hex, invalid_unicode, too_large, front}
use Rattle.rx_units.specs.Quoted.Texts.{Given, byte_count, place_after_opening, is_refused, IsDecoded, Leads}

-- Each character of the text is a code point, and its spans fit in 32 bits.
pub record IsGiven (text : List ℕ) (o : Options) : Type 0 where
  pub fits : o.span_offset + byte_count text < 2 ^ 32
  pub code_points : All (λ c. c ≤ 0x10FFFF) text

-- Elements that are allowed lead here, and no further one stands here.
pub record IsStop (literal : Literal) (o : Options) (inner : List ℕ) (stop : Stop) : Type 0 where
  pub leads : Leads literal o (place_after_opening o inner) (record { units = stop.units; offset = stop.offset; rest = stop.rest.now })
  pub found : seen_front stop.found ≡ front literal stop.rest.now
  pub ends : (e : Element) (n : ℕ) → front literal stop.rest.now ≡ element e n → is_refused o e.writing ≡ true
  pub bytes : stop.offset + byte_count stop.rest.now ≡ o.span_offset + 1 + byte_count inner

-- In each kind of quotes the element of n characters that stands next gives a character of ASCII, and takes n bytes.
pub record IsPlainFront (c n : ℕ) (us : List ℕ) : Type 0 where
  pub ascii : c < 128
  pub found : (literal : Literal) → front literal us ≡ element (written c Plain) n
  pub bytes : byte_count (take n us) ≡ n

-- all of the text, with its quotes
abbrev pub text_span : Given → Span
text_span given = from_to given.options.span_offset (given.options.span_offset + byte_count given.text)

-- A string is what its text is decoded to, and covers the text.
pub record IsStringOf (given : Given) (it : StringLiteral) : Type 0 where
  pub decoded : IsDecoded (literals.String it.kind) given.options given.text it.body
  pub span_is : it.span ≡ text_span given

-- A template is what its text is decoded to, and covers the text.
pub record IsTemplateOf (given : Given) (it : TemplateLiteral) : Type 0 where
  pub decoded : IsDecoded literals.Template given.options given.text it.body
  pub span_is : it.span ≡ text_span given

-- the fault of an element that is not allowed, by how it is written
abbrev pub string_element_fault : Writing → ℕ → ℕ → StringFault
string_element_fault (Legacy what) start end = string_fault.LegacyInStrictMode what (from_to start end)
string_element_fault _ start end = string_fault.InvalidInput (empty_at start)

abbrev pub template_element_fault : Writing → ℕ → ℕ → TemplateFault
template_element_fault NotEscape start end = template_fault.NotEscapeSequence (from_to start end)
template_element_fault _ start end = template_fault.InvalidInput (empty_at start)

-- the fault of a string at a place, by what stands there
abbrev pub string_fault_at : Front → ℕ → List ℕ → StringFault
string_fault_at (element e n) at us = string_element_fault e.writing at (at + byte_count (take n us))
string_fault_at closer at us = string_fault.InvalidInput (empty_at (at + 1))
string_fault_at (too_large n) at us = string_fault.TooLargeUnicodeEscapeSequence (from_to at (at + n))
string_fault_at _ at us = string_fault.InvalidInput (empty_at at)

-- the fault of a template at a place, by what stands there
abbrev pub template_fault_at : Front → ℕ → List ℕ → TemplateFault
template_fault_at (element e n) at us = template_element_fault e.writing at (at + byte_count (take n us))
template_fault_at closer at us = template_fault.InvalidInput (empty_at (at + 1))
template_fault_at (nothing n) at us = template_fault.InvalidInput (empty_at (at + n))
template_fault_at substitution at us = template_fault.TemplateSubstitution (empty_at at)
template_fault_at (invalid_hex n) at us = template_fault.InvalidHexEscape (empty_at (at + n))
template_fault_at (invalid_unicode n) at us = template_fault.InvalidUnicodeEscape (from_to at (at + n))
template_fault_at (too_large n) at us = template_fault.TooLargeUnicodeEscapeSequence (from_to at (at + n))
