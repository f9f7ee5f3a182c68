-- A quoted text: a quote, elements one after another, the same quote, and the end (StringLiteral, ECMA-262, 12.9.4; NoSubstitutionTemplate, 12.9.6).
use Rattle.std.specs.Prelude.{◌≡◌, ℕ, ◌+◌, Bool, false, List, [], ◌∷◌, ◌++◌}
use Rattle.std.specs.Char.{len_utf8}
use Rattle.rx_units.specs.declared.code_point.CodePoint.{CodePoint}
use Rattle.rx_units.specs.declared.options.Options.{Options}
use Rattle.rx_units.specs.declared.quoted_text.element.Element.{Element}
use Rattle.rx_units.specs.declared.quoted_text.element.Writing.{Writing}
use Rattle.rx_units.specs.declared.quoted_text.element.Writing.TheVariants.{Plain, Hexadecimal, Unicode, Legacy, NotEscape, LineTerminator, LineContinuation}
use Rattle.rx_units.specs.declared.quoted_text.literal.Literal.{Literal}
use Rattle.rx_units.specs.Quoted.Elements.{quote_of, SpellsElement}
use Rattle.rx_units.specs.Quoted.Values.{element_units, text_units}
use Rattle.rx_units.specs.Sequences.{ElementRow}

-- how many bytes characters take
abbrev pub byte_count : List ℕ → ℕ
byte_count [] = 0
byte_count (c ∷ cs) = len_utf8 c + byte_count cs

-- A place in a quoted text.
pub record Place : Type 0 where
  -- what the elements before it give
  pub units : List CodePoint
  -- the byte at which it stands, with the offset of the text
  pub offset : ℕ
  -- the characters after it
  pub rest : List ℕ

-- The place after an element, with the units that it gives.
abbrev pub next_place : Options → Place → Element → List ℕ → List ℕ → Place
next_place o p e w rest = record {
  units = p.units ++ element_units o p.offset (p.offset + byte_count w) e;
  offset = p.offset + byte_count w;
  rest = rest;
}

-- What is not allowed: in strict mode code a legacy escape (12.9.4.1), and with strings as the standard has them a NotEscapeSequence (13.2.8.1).
abbrev pub is_refused : Options → Writing → Bool
is_refused o (Legacy what) = o.strict_mode
is_refused o NotEscape = o.standard_strings
is_refused o Plain = false
is_refused o Hexadecimal = false
is_refused o Unicode = false
is_refused o LineTerminator = false
is_refused o LineContinuation = false

abbrev pub IsAllowed : Options → Element → Type 0
IsAllowed o e = is_refused o e.writing ≡ false

-- Elements that are allowed lead from a place to a place.
pub data Leads (literal : Literal) (o : Options) (from : Place) : Place → Type 0 where
  no_element : Leads literal o from from
  one_more : {p : Place} (e : Element) (w rest : List ℕ) → Leads literal o from p → p.rest ≡ w ++ rest → SpellsElement literal e w rest → IsAllowed o e
      → Leads literal o from (next_place o p e w rest)

-- the place after the opening quote, before some characters
abbrev pub place_after_opening : Options → List ℕ → Place
place_after_opening o inner = record { units = []; offset = o.span_offset + 1; rest = inner }

-- The opening quote and elements lead to a place.
pub record IsReached (literal : Literal) (o : Options) (text : List ℕ) (p : Place) : Type 0 where
  pub inner : List ℕ
  pub opens : text ≡ quote_of literal ∷ inner
  pub leads : Leads literal o (place_after_opening o inner) p

-- A text is decoded to these units: at a place that is reached the closing quote stands, and then the text ends.
pub record IsDecoded (literal : Literal) (o : Options) (text : List ℕ) (units : List CodePoint) : Type 0 where
  pub last : Place
  pub reached : IsReached literal o text last
  pub closes : last.rest ≡ quote_of literal ∷ []
  pub units_are : units ≡ text_units o last.units

-- The elements lead from these characters to the rest, each spelled before all that follows it.
abbrev pub QuotedRow : Literal → List Element → List ℕ → List ℕ → Type 0
QuotedRow literal es us rest = ElementRow (λ (q : Unit {0}). SpellsElement literal) (λ (q : Unit {0}) e more. tt) es tt us tt rest

-- The place to which elements lead from a place, by a row of them.
abbrev pub after_elements : (literal : Literal) (o : Options) (p : Place) (es : List Element) (rest : List ℕ) → QuotedRow literal es p.rest rest → Place
after_elements literal o p [] rest row = p
after_elements literal o p (e ∷ es) rest row = after_elements literal o (next_place o p e row.0 row.1) es rest row.4

-- What a decoder is given.
pub record Given : Type 0 where
  pub text : List ℕ
  pub options : Options
