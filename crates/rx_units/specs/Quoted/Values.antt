-- What the elements of a quoted text give: the units of its value. As the standard has it: SV and TV (ECMA-262, 12.9.4.2 and 12.9.6.1), and where pairs are
-- joined StringToCodePoints (11.1.5). As the Rust crate has it: each element gives its value.
use Rattle.std.specs.Prelude.{ℕ, Bool, ◌==◌, ◌&&◌, List, [], ◌∷◌, Option, Some, None, if◌then◌else◌}
use Rattle.rx_base.specs.Ascii as ascii
use Rattle.rx_base.specs.Characters.{is_lead, is_trail}
use Rattle.rx_base.specs.SurrogatePair.{surrogate_pair}
use Rattle.rx_units.specs.declared.code_point.CodePoint.{CodePoint}
use Rattle.rx_units.specs.declared.code_point.EscapeKind.{EscapeKind}
use Rattle.rx_units.specs.declared.code_point.EscapeKind.TheVariants as kind
use Rattle.rx_units.specs.declared.options.Options.{Options}
use Rattle.rx_units.specs.declared.quoted_text.element.Element.{Element}
use Rattle.rx_units.specs.declared.quoted_text.element.Writing.{Writing}
use Rattle.rx_units.specs.declared.quoted_text.element.Writing.TheVariants.{Plain, Hexadecimal, Unicode, Legacy, NotEscape, LineTerminator, LineContinuation}
use Rattle.rx_units.specs.Units.{character_units, unit}

-- how a unit was written
abbrev pub kind_of : Writing → EscapeKind
kind_of Plain = kind.None
kind_of Hexadecimal = kind.Hexadecimal
kind_of Unicode = kind.Unicode
kind_of (Legacy what) = kind.None
kind_of NotEscape = kind.None
kind_of LineTerminator = kind.None
kind_of LineContinuation = kind.None

-- The value that an element gives, if any. As the standard has it a LineContinuation gives nothing, and <CR> in a template gives <LF>.
-- Why: docs/DECISIONS.md, 67.
abbrev pub given_value : Bool → Writing → ℕ → Option ℕ
given_value standard LineContinuation value = if standard then None else Some value
given_value standard LineTerminator value = Some (if standard && value == ascii.carriage_return then ascii.line_feed else value)
given_value standard Plain value = Some value
given_value standard Hexadecimal value = Some value
given_value standard Unicode value = Some value
given_value standard (Legacy what) value = Some value
given_value standard NotEscape value = Some value

-- no units, or those of a character
abbrev pub value_units : Bool → ℕ → ℕ → EscapeKind → Option ℕ → List CodePoint
value_units joined start end escape_kind None = []
value_units joined start end escape_kind (Some value) = character_units joined start end value escape_kind

-- The units that an element gives. They have its span.
abbrev pub element_units : Options → ℕ → ℕ → Element → List CodePoint
element_units o start end e = value_units o.combine_surrogate_pair start end (kind_of e.writing) (given_value o.standard_strings e.writing e.value)

-- a lead and a trail as one unit (11.1.3, UTF16SurrogatePairToCodePoint), from the beginning of the one to the end of the other
abbrev pub pair : CodePoint → CodePoint → CodePoint
pair lead trail = unit lead.span.start trail.span.end (surrogate_pair lead.value trail.value) lead.escape_kind

-- The code points of code units: a lead and a trail that follow one another are one, and each other unit is one by itself (CodePointAt, 11.1.4).
abbrev pub code_points : List CodePoint → List CodePoint
code_points [] = []
code_points (u ∷ []) = u ∷ []
code_points (u ∷ v ∷ us) = if is_lead u.value && is_trail v.value then pair u v ∷ code_points us else u ∷ code_points (v ∷ us)

-- The units of a text by what its elements give. With strings as the standard has them, and where pairs are joined, a lead and a trail that follow one another
-- are one unit; else all stay as the elements gave them.
abbrev pub text_units : Options → List CodePoint → List CodePoint
text_units o us = if o.standard_strings && o.combine_surrogate_pair then code_points us else us
