-- What the function that reads property escapes answers after a backslash, and where it leaves the reader. A span has an offset added to both its ends.
use Rattle.std.specs.Prelude.{◌≡◌, ℕ, ◌-◌, Bool, false, ◌&&◌, ◌⊎◌, Option, Some, None, Result, Ok, Err, List, ◌∷◌, ◌++◌, length}
use Rattle.rx_base.specs.declared.diagnostic.Diagnostic.{Diagnostic}
use Rattle.rx_base.specs.declared.fault.Fault.{Fault}
use Rattle.rx_base.specs.declared.fault.Fault.TheVariants as fault
use Rattle.rx_units.specs.declared.code_point.CodePoint.{CodePoint}
use Rattle.rx_units.specs.Cursor.{Cursor, move_on, rest}
use Rattle.rx_units.specs.Units.{values}
use Rattle.rx_units.specs.Digits.{front_is}
use Rattle.rx_ast.specs.declared.leaf.UnicodePropertyEscape.{UnicodePropertyEscape}
use Rattle.rx_model.specs.Inputs.Environment.{Environment, is_unicode}
use Rattle.rx_model.specs.Refusals.EscapeCauses.{IsPropertyCause}
use Rattle.rx_model.specs.Refusals.Firsts.{IsFirstOfEscape}
use Rattle.rx_model.specs.Properties.PropertyEscapes.{IsProperty}
use Rattle.rx_model.specs.Properties.PropertyForms.{begins_property}
use Rattle.rx_class.specs.EscapeReading.Answers.{from_backslash, span_to}
use Rattle.rx_class.specs.Keeping.{KeepsUnits}

-- No property escape that is free of early errors stands at the front: a negative one names no property of strings (22.2.1.1).
abbrev pub BeginsNoProperty : Environment → List CodePoint → Type 0
BeginsNoProperty e us =
    (negative strings : Bool) (name : List ℕ) (value : Option (List ℕ)) (w more : List CodePoint) → us ≡ w ++ more → IsProperty e negative strings name value w → (negative && strings) ≡ false → ⊥

-- What stands at the reader's place is answered as a property escape (CharacterClassEscape, 22.2.1).
pub data GivesProperty (e : Environment) (added start : ℕ) (old new : Cursor) : Result (Option UnicodePropertyEscape) Fault → Type 0 where
  -- a property escape is spelled, with its backslash, and is free of early errors, and the reader moves over it
  some : {it : UnicodePropertyEscape} (backslash : CodePoint) (w more : List CodePoint) → from_backslash old ≡ backslash ∷ (w ++ more)
      → IsProperty e it.negative it.strings it.name it.value (backslash ∷ w) → (it.negative && it.strings) ≡ false → it.span ≡ span_to added start new → new ≡ move_on (length w) old
      → GivesProperty e added start old new (Ok (Some it))
  -- with neither `u` nor `v`, or where neither `p` nor `P` stands, there is none, and the reader stays
  none : new ≡ old → (is_unicode e.mode ≡ false) ⊎ (front_is begins_property (values (rest old)) ≡ false) → GivesProperty e added start old new (Ok None)
  -- none that is free of early errors is spelled, and the first refusal of the escape that the backslash begins is answered
  refused : {diagnostic : Diagnostic} → IsPropertyCause e.mode old.units old.first added (old.place - 1) (from_backslash old) diagnostic
      → IsFirstOfEscape e.mode old.units old.first added (old.place - 1) (from_backslash old) diagnostic → BeginsNoProperty e (from_backslash old) → KeepsUnits old new
      → GivesProperty e added start old new (Err (fault.Diagnostic diagnostic))
  -- memory ran out
  no_memory : KeepsUnits old new → GivesProperty e added start old new (Err fault.OutOfMemory)
