-- What the functions that read escapes answer after a backslash, and where they leave the reader. A span has an offset added to both its ends.
use Rattle.std.specs.Prelude.{◌≡◌, ℕ, ◌+◌, ◌-◌, ◌≤◌, true, false, ◌==◌, Option, Some, None, Result, Ok, Err, List, ◌∷◌, ◌++◌, length, drop}
use Rattle.rx_base.specs.Ascii as ascii
use Rattle.rx_base.specs.declared.diagnostic.Diagnostic.{Diagnostic}
use Rattle.rx_base.specs.declared.span.Span.{Span}
use Rattle.rx_units.specs.declared.code_point.CodePoint.{CodePoint}
use Rattle.rx_units.specs.Cursor.{Cursor, front, move_on, offset_of, rest}
use Rattle.rx_units.specs.Units.{offset_at, values}
use Rattle.rx_units.specs.Digits.{front_is}
use Rattle.rx_ast.specs.declared.leaf.Character.{Character}
use Rattle.rx_ast.specs.declared.leaf.CharacterClassEscape.{CharacterClassEscape}
use Rattle.rx_ast.specs.declared.leaf.CharacterClassEscapeKind.{CharacterClassEscapeKind}
use Rattle.rx_ast.specs.declared.leaf.CharacterKind.{CharacterKind}
use Rattle.rx_ast.specs.Texts.{class_escape_text}
use Rattle.rx_model.specs.Inputs.Environment.{Environment, is_unicode}
use Rattle.rx_model.specs.Refusals.EscapeCauses.{IsEscapeCause}
use Rattle.rx_model.specs.Characters.Escapes.{SpellsEscape}
use Rattle.rx_model.specs.Characters.LegacyEscapes.{SpellsLegacy}
use Rattle.rx_model.specs.Refusals.Firsts.{IsFirstOfEscape}
use Rattle.rx_scan.specs.Environments.{state_environment}
use Rattle.rx_scan.specs.declared.state.State.{State}
use Rattle.rx_class.specs.Keeping.{KeepsUnits}

-- the environment of escapes and classes that a state determines, by its mode, the number of groups, and whether some have names. Whether buffer boundaries are read does not
-- count there (docs/DECISIONS.md, 65).
abbrev pub environment_of : State → Environment
environment_of state = state_environment state true

-- The reader stands after a backslash, and the span begins before that backslash.
pub record IsAfterBackslash (r : Cursor) (span_start : ℕ) : Type 0 where
  pub following : 1 ≤ r.place
  pub backslash : front (drop (r.place - 1) r.units) ≡ Some ascii.backslash
  pub start : span_start ≡ offset_at r.first r.units (r.place - 1)

-- the units from the backslash before the reader's place on
abbrev pub from_backslash : Cursor → List CodePoint
from_backslash r = drop (r.place - 1) r.units

-- The kind and the value of a character that these characters spell before more, after a backslash that may stand in a class and outside classes.
pub data SpellsCharacter (e : Environment) (kind : CharacterKind) (value : ℕ) (w more : List ℕ) : Type 0 where
  -- CharacterEscape, 22.2.1
  in_each_mode : SpellsEscape e kind value w more → SpellsCharacter e kind value w more
  -- with neither `u` nor `v` LegacyOctalEscapeSequence and SourceCharacterIdentityEscape too (B.1.2), as in a class, where no reference and no `\B` is read;
  -- with `c` only what CharacterEscape has
  in_legacy_mode : is_unicode e.mode ≡ false → front_is (λ c. c == ascii.c) (w ++ more) ≡ false → SpellsLegacy true e kind value w more → SpellsCharacter e kind value w more

-- no character escape stands at the front
abbrev pub BeginsNoEscape : Environment → List ℕ → Type 0
BeginsNoEscape e us = (kind : CharacterKind) (value : ℕ) (w more : List ℕ) → us ≡ w ++ more → SpellsCharacter e kind value w more → ⊥

-- the span from before the backslash to where the reader stands
abbrev pub span_to : ℕ → ℕ → Cursor → Span
span_to added start r = record { start = start + added; end = offset_of r + added }

-- What stands at the reader's place is answered as a character escape (CharacterEscape, 22.2.1).
pub data GivesCharacter (e : Environment) (added start : ℕ) (old new : Cursor) : Result (Option Character) Diagnostic → Type 0 where
  -- an escape is spelled, and the reader moves over it
  some : {it : Character} (w more : List CodePoint) → rest old ≡ w ++ more → SpellsCharacter e it.kind it.value (values w) (values more) → it.value ≤ 0x10FFFF
      → it.span ≡ span_to added start new → new ≡ move_on (length w) old → GivesCharacter e added start old new (Ok (Some it))
  -- no escape stands there, nor the `u` of one, and the reader stays
  none : new ≡ old → BeginsNoEscape e (values (rest old)) → front_is (λ c. c == ascii.u) (values (rest old)) ≡ false → GivesCharacter e added start old new (Ok None)
  -- no escape is spelled, and the first refusal of the escape that the backslash begins is answered
  refused : {diagnostic : Diagnostic} → IsEscapeCause e.mode old.units old.first added (old.place - 1) (from_backslash old) diagnostic
      → IsFirstOfEscape e.mode old.units old.first added (old.place - 1) (from_backslash old) diagnostic → BeginsNoEscape e (values (rest old)) → KeepsUnits old new
      → GivesCharacter e added start old new (Err diagnostic)

-- What stands at the reader's place is answered as a class escape (CharacterClassEscape, 22.2.1) that names no property.
pub data GivesClassEscape (added start : ℕ) (old new : Cursor) : Option CharacterClassEscape → Type 0 where
  -- one is spelled together with the backslash before it, and the reader moves over it
  some : {it : CharacterClassEscape} (w more : List CodePoint) → ascii.backslash ∷ values w ≡ class_escape_text it.kind → rest old ≡ w ++ more
      → it.span ≡ span_to added start new → new ≡ move_on 1 old → GivesClassEscape added start old new (Some it)
  -- none stands there, and the reader stays
  none : new ≡ old → ((kind : CharacterClassEscapeKind) (w more : List ℕ) → ascii.backslash ∷ w ≡ class_escape_text kind → values (rest old) ≡ w ++ more → ⊥)
      → GivesClassEscape added start old new None
