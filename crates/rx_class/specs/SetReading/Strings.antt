-- What has been read of class strings (ClassStringDisjunction, 22.2.1), and what the functions that read their parts answer.
use Rattle.std.specs.Prelude.{◌≡◌, ℕ, ◌+◌, ◌<◌, false, not, ◌==◌, ◌||◌, List, [], ◌∷◌, ◌++◌, All, length}
use Rattle.std.specs.List.{list_any}
use Rattle.rx_base.specs.declared.diagnostic.Diagnostic.{Diagnostic}
use Rattle.rx_base.specs.declared.diagnostic.Diagnostic.TheVariants.{UnterminatedPattern}
use Rattle.rx_base.specs.declared.diagnostic.kinds.Unterminated.TheVariants as what
use Rattle.rx_base.specs.declared.fault.Fault.{Fault}
use Rattle.rx_base.specs.declared.fault.Fault.TheVariants as fault
use Rattle.rx_ast.specs.declared.class.ClassString.{ClassString}
use Rattle.rx_units.specs.declared.code_point.CodePoint.{CodePoint}
use Rattle.rx_units.specs.Cursor.{Cursor, move_on, rest}
use Rattle.rx_units.specs.Units.{offset_at}
use Rattle.rx_model.specs.Classes.ClassRows.{ClassRow, in_strings}
use Rattle.rx_model.specs.Classes.ClassTokens.{ClassEvents, enter, letters_events, string_bar, string_events, token}
use Rattle.rx_model.specs.Inputs.Environment.{Environment}
use Rattle.rx_model.specs.Refusals.ClassCauses.{EndsStrings}
use Rattle.rx_model.specs.Refusals.EscapeCauses.{IsEscapeCause}
use Rattle.rx_model.specs.Trees.Early.{AreCodePoints, IsEarlyString}
use Rattle.rx_class.specs.declared.sets.strings.StringsBuilder.{StringsBuilder}
use Rattle.rx_class.specs.EscapeReading.Answers.{span_to}
use Rattle.rx_class.specs.Keeping.{KeepsUnits}

-- nothing has been read so far, and a string begins at this offset
abbrev pub strings_from : ℕ → StringsBuilder
strings_from start = record { strings = []; may = false; start = start; letters = [] }

-- the string that is being read, if it ends at this offset
abbrev pub last_string : StringsBuilder → ℕ → ClassString
last_string b end = record { span = record { start = b.start; end = end }; strings = not (length b.letters == 1); body = b.letters }

-- what has been read, after that string has ended at this offset
abbrev pub with_string : StringsBuilder → ℕ → StringsBuilder
with_string b end = record { strings = b.strings ++ last_string b end ∷ []; may = b.may || not (length b.letters == 1); start = b.start; letters = [] }

-- the strings that have ended, each before its `|`
abbrev pub ended_events : List ClassString → ClassEvents
ended_events [] = []
ended_events (s ∷ ss) = string_events s ++ (token string_bar ∷ ended_events ss)

-- all that has been read after `\q{`
abbrev pub read_events : StringsBuilder → ClassEvents
read_events b = ended_events b.strings ++ (enter b.start ∷ letters_events b.letters)

-- What has been read has no early error (22.2.1.1), and its flags are MayContainStrings (22.2.1.8).
pub record AreSoundStrings (b : StringsBuilder) : Type 0 where
  pub early : All IsEarlyString b.strings
  pub letters : AreCodePoints b.letters
  pub may : b.may ≡ list_any (λ s. s.strings) b.strings

-- The reader moved over a part of class strings, which was added to what has been read.
pub record AddsPart (e : Environment) (added : ℕ) (old new : Cursor) (before after : StringsBuilder) : Type 0 where
  pub w : List CodePoint
  pub some : 0 < length w
  pub whole : rest old ≡ w ++ rest new
  pub moves : new ≡ move_on (length w) old
  pub events : ClassEvents
  pub row : ClassRow e (λ i. offset_at old.first old.units i + added) events in_strings old.place (w ++ rest new) in_strings (old.place + length w) (rest new)
  pub adds : read_events after ≡ read_events before ++ events
  pub sound : AreSoundStrings before → AreSoundStrings after

-- At the reader's place no part of class strings is read; they begin at the offset `start`.
pub data RefusesPart (e : Environment) (added start : ℕ) (old new : Cursor) : Fault → Type 0 where
  -- a character escape is refused
  escape : {diagnostic : Diagnostic} → IsEscapeCause e.mode old.units old.first added old.place (rest old) diagnostic → KeepsUnits old new → RefusesPart e added start old new (fault.Diagnostic diagnostic)
  -- none is, and neither a character nor a `|` nor a `}` stands there
  ends : EndsStrings e (rest old) → ((diagnostic : Diagnostic) → IsEscapeCause e.mode old.units old.first added old.place (rest old) diagnostic → ⊥) → KeepsUnits old new
      → RefusesPart e added start old new (fault.Diagnostic (UnterminatedPattern (span_to added start old) what.ClassStringDisjunction))
  no_memory : KeepsUnits old new → RefusesPart e added start old new fault.OutOfMemory
