-- The refusals of ClassCauses and Causes, but for the place of one: that of a negative class which may contain strings holds where the class begins, since the
-- early error is one of the whole class (CharacterClass and NestedClass, 22.2.1.1).
use Rattle.std.specs.Prelude.{◌≡◌, ℕ, ◌+◌, Bool, true, false, List}
use Rattle.rx_base.specs.declared.diagnostic.Diagnostic.{Diagnostic}
use Rattle.rx_base.specs.declared.diagnostic.Diagnostic.TheVariants.{InvalidCharacterClass, CharacterClassContentsInvalidOperands}
use Rattle.rx_units.specs.declared.code_point.CodePoint.{CodePoint}
use Rattle.rx_model.specs.declared.mode.Mode.{Mode}
use Rattle.rx_model.specs.declared.rules.Rules.{Rules}
use Rattle.rx_model.specs.Refusals.Causes.{IsCauseAtPlace}
use Rattle.rx_model.specs.Refusals.ClassCauses.{IsClassCause, IsNegativeWithStrings, of_negative}
use Rattle.rx_model.specs.Refusals.Reached.{IsPlace, class_environment, span_between}

-- whether this is said of a negative class that may contain strings
abbrev pub is_of_negative : Diagnostic → Bool
is_of_negative (InvalidCharacterClass span) = true
is_of_negative (CharacterClassContentsInvalidOperands span) = true
is_of_negative d = false

-- The diagnostic is such a refusal of the class that begins at place `from`, where `at_class` is left.
pub data IsClassCauseFromStart (mode : Mode) (us : List CodePoint) (first added from : ℕ) (at_class : List CodePoint) : ℕ → Diagnostic → Type 0 where
  -- A negative class, this one or one nested in it, may contain strings, and begins here.
  negative_strings : (nested : Bool) (begin place : ℕ) (rest : List CodePoint) → IsNegativeWithStrings (class_environment mode us) from at_class nested begin place rest
      → IsClassCauseFromStart mode us first added from at_class begin (of_negative nested (span_between us first added begin (place + 1)))
  -- Each other refusal holds at its place.
  other : (place : ℕ) (diagnostic : Diagnostic) → IsClassCause mode us first added from at_class place diagnostic → is_of_negative diagnostic ≡ false
      → IsClassCauseFromStart mode us first added from at_class place diagnostic

-- The same in a text: of a class that begins at a place that is reached, or any other.
pub data IsCauseFromStart (mode : Mode) (rules : Rules) (us : List CodePoint) (first added : ℕ) : ℕ → Diagnostic → Type 0 where
  in_class : (from place : ℕ) (at_class : List CodePoint) (diagnostic : Diagnostic) → IsPlace mode rules us from at_class → IsClassCauseFromStart mode us first added from at_class place diagnostic
      → IsCauseFromStart mode rules us first added place diagnostic
  elsewhere : (place : ℕ) (diagnostic : Diagnostic) → IsCauseAtPlace mode rules us first added place diagnostic → is_of_negative diagnostic ≡ false
      → IsCauseFromStart mode rules us first added place diagnostic
