-- What is found after a backslash, as data of the model.
use Rattle.std.specs.Prelude.{◌≡◌, ℕ, ◌+◌, ◌≤◌, ◌==◌, true, Option, Some, None, Result, Ok, Err, List, [], ◌∷◌, if◌then◌else◌}
use Rattle.rx_base.specs.Ascii as ascii
use Rattle.rx_base.specs.declared.diagnostic.Diagnostic.{Diagnostic}
use Rattle.rx_base.specs.declared.diagnostic.Diagnostic.TheVariants.{InvalidUnicodeEscapeSequence, TooLargeNumberDigits}
use Rattle.rx_base.specs.declared.diagnostic.kinds.DigitsKind.TheVariants as digits
use Rattle.rx_units.specs.Cursor.{Cursor, move_on}
use Rattle.rx_units.specs.Digits.{front_is}
use Rattle.rx_ast.specs.declared.leaf.Character.{Character}
use Rattle.rx_ast.specs.declared.leaf.CharacterClassEscapeKind.{CharacterClassEscapeKind}
use Rattle.rx_model.specs.Inputs.Environment.{Environment, is_unicode}
use Rattle.rx_model.specs.Reading.Fronts.{EscapeRead, escaped, nothing, too_many, no_unicode, any_escape_at, class_escape_at, escape_at}
use Rattle.rx_model.specs.Refusals.Reached.{span_between}
use Rattle.rx_class.specs.EscapeReading.Answers.{span_to}
use Rattle.rx_class.specs.Keeping.{KeepsUnits}
use Rattle.rx_class.specs.declared.escapes.found.EscapeFound.{EscapeFound}
use Rattle.rx_class.specs.declared.escapes.found.EscapeFound.TheVariants as found

-- an answer on a character escape (CharacterEscape, 22.2.1)
abbrev pub seen_escape : EscapeFound → EscapeRead
seen_escape (found.Character kind value length) = escaped kind value length
seen_escape found.Nothing = nothing
seen_escape (found.TooMany digits) = too_many digits
seen_escape found.Invalid = no_unicode

-- An answer stays within n units, and is a code point.
abbrev pub IsWithin : ℕ → EscapeFound → Type 0
IsWithin units (found.Character kind value length) = (length ≤ units) × (value ≤ 0x10FFFF)
IsWithin units found.Nothing = Unit {0}
IsWithin units (found.TooMany digits) = digits + 2 ≤ units
IsWithin units found.Invalid = 1 ≤ units

-- the character escape after a backslash, in classes and outside them: `c` only before a letter
abbrev pub shared_escape_at : Environment → List ℕ → EscapeRead
shared_escape_at e w = if front_is (λ c. c == ascii.c) w then escape_at (is_unicode e.mode) w else any_escape_at true e w

-- What is answered where this was found after a backslash, and where the reader is left.
pub data AnswersFound (added start : ℕ) (old new : Cursor) : EscapeRead → Result (Option Character) Diagnostic → Type 0 where
  some : {it : Character} {count : ℕ} → it.value ≤ 0x10FFFF → it.span ≡ span_to added start new → new ≡ move_on count old
      → AnswersFound added start old new (escaped it.kind it.value count) (Ok (Some it))
  none : new ≡ old → AnswersFound added start old new nothing (Ok None)
  many_digits : {count : ℕ} → KeepsUnits old new
      → AnswersFound added start old new (too_many count) (Err (TooLargeNumberDigits (span_between old.units old.first added (old.place + 2) (old.place + 2 + count)) digits.Hex))
  no_escape_of_u : KeepsUnits old new → AnswersFound added start old new no_unicode (Err (InvalidUnicodeEscapeSequence (span_between old.units old.first added old.place (old.place + 1))))

-- the class escape (CharacterClassEscape, 22.2.1) that the first of these characters is
abbrev pub class_escape_front : List ℕ → Option CharacterClassEscapeKind
class_escape_front [] = None
class_escape_front (c ∷ cs) = class_escape_at c
