-- Which refusal is the first of a text: where it holds no reading goes on, and none holds at a later place.
use Rattle.std.specs.Prelude.{◌≡◌, ◌≢◌, ℕ, ◌<◌, ◌≤◌, Bool, true, false, List}
use Rattle.rx_base.specs.declared.diagnostic.Diagnostic.{Diagnostic}
use Rattle.rx_base.specs.declared.diagnostic.Diagnostic.TheVariants.{UnterminatedPattern, EmptyClassSetExpression, ClassSetExpressionInvalidCharacter, TooLargeNumberDigits, InvalidUnicodePropertyOfStrings, InvalidUnicodeEscapeSequence}
use Rattle.rx_base.specs.declared.diagnostic.kinds.Unterminated.TheVariants as what
use Rattle.rx_units.specs.declared.code_point.CodePoint.{CodePoint}
use Rattle.rx_model.specs.declared.mode.Mode.{Mode}
use Rattle.rx_model.specs.Refusals.Causes.{IsCause, IsCauseAtPlace}
use Rattle.rx_model.specs.Refusals.ClassCauses.{IsClassCause}
use Rattle.rx_model.specs.Refusals.ClassPlaces.{IsItemPlace}
use Rattle.rx_model.specs.Trees.Early.{most_groups}
use Rattle.rx_model.specs.Inputs.Environment.{Environment}
use Rattle.rx_model.specs.declared.rules.Rules.{Rules}
use Rattle.rx_model.specs.Refusals.EscapeCauses.{IsEscapeCause, IsPropertyCause}
use Rattle.rx_model.specs.Refusals.Reached.{HasNoClash, IsPlace, text_groups}

-- No place beyond this one is reached.
abbrev pub NoneBeyond : Mode → Rules → List CodePoint → ℕ → Type 0
NoneBeyond mode rules us place = (further : ℕ) (rest : List CodePoint) → IsPlace mode rules us further rest → place < further → ⊥

-- In a class that begins at place `from` no item can begin beyond this place.
abbrev pub NoneBeyondInClass : Environment → ℕ → List CodePoint → ℕ → Type 0
NoneBeyondInClass e from at_class place = (further : ℕ) (rest : List CodePoint) → IsItemPlace e from at_class further rest → place < further → ⊥

-- Kinds of refusals, by what they yield to where two hold at one place.
pub data Yielding : Type 0 where
  -- what stands in a class is neither an item nor its end
  no_item : Yielding
  no_escape : Yielding
  many_digits : Yielding
  no_property : Yielding
  of_strings : Yielding
  any_other : Yielding

abbrev pub yielding_of : Diagnostic → Yielding
yielding_of (EmptyClassSetExpression span) = no_item
yielding_of (ClassSetExpressionInvalidCharacter span operator) = no_item
yielding_of (UnterminatedPattern span what.CharacterClass) = no_item
yielding_of (UnterminatedPattern span what.NestedClass) = no_item
yielding_of (UnterminatedPattern span what.ClassStringDisjunction) = no_item
yielding_of (UnterminatedPattern span what.PropertyEscape) = no_property
yielding_of (InvalidUnicodeEscapeSequence span) = no_escape
yielding_of (TooLargeNumberDigits span kind) = many_digits
yielding_of (InvalidUnicodePropertyOfStrings span name) = of_strings
yielding_of d = any_other

-- whether the first yields to the second
abbrev pub yields : Yielding → Yielding → Bool
yields no_item no_item = false
yields no_item kind = true
yields no_escape many_digits = true
yields no_property of_strings = true
yields a b = false

-- Of two refusals the first gives way to the second: it says no more than that nothing stands at its place which may, the second says more, and holds at no
-- earlier place.
pub record GivesWay (place : ℕ) (diagnostic : Diagnostic) (further : ℕ) (other : Diagnostic) : Type 0 where
  pub says_less : yielding_of diagnostic ≡ no_item
  pub says_more : yielding_of other ≢ no_item
  pub no_earlier : place ≤ further

-- Of the refusals that hold at places, as this relation says, the diagnostic is the first: none holds at a later place than it does, and it yields to none
-- at its own.
-- Why: docs/DECISIONS.md, 35.
pub record IsFirstOf (Holds : ℕ → Diagnostic → Type 0) (diagnostic : Diagnostic) : Type 0 where
  pub place : ℕ
  pub holds : Holds place diagnostic
  pub none_later : (further : ℕ) (other : Diagnostic) → Holds further other → place < further → ⊥
  pub none_over : (other : Diagnostic) → Holds place other → yields (yielding_of diagnostic) (yielding_of other) ≡ false

-- The refusal is the first of this text. Those of the groups of the whole text come before all else.
pub data IsFirst (mode : Mode) (rules : Rules) (us : List CodePoint) (start added : ℕ) : Diagnostic → Type 0 where
  of_groups : {diagnostic : Diagnostic} → IsCause mode rules us start added diagnostic → (HasNoClash mode rules.duplicate_names us → text_groups mode us ≤ most_groups → ⊥) → IsFirst mode rules us start added diagnostic
  of_places : {diagnostic : Diagnostic} → HasNoClash mode rules.duplicate_names us → text_groups mode us ≤ most_groups → IsFirstOf (IsCauseAtPlace mode rules us start added) diagnostic → IsFirst mode rules us start added diagnostic

-- The refusal is the first of the class that begins at place `from`, where `at_class` is left.
abbrev pub IsFirstInClass : Mode → List CodePoint → ℕ → ℕ → ℕ → List CodePoint → Diagnostic → Type 0
IsFirstInClass mode us start added from at_class = IsFirstOf (IsClassCause mode us start added from at_class)

-- The escape of a character or of a property that is to stand at a place, where the rest is left, is refused.
pub data IsCauseOfEscape (mode : Mode) (us : List CodePoint) (start added place : ℕ) (rest : List CodePoint) : ℕ → Diagnostic → Type 0 where
  of_character : {diagnostic : Diagnostic} → IsEscapeCause mode us start added place rest diagnostic → IsCauseOfEscape mode us start added place rest place diagnostic
  of_property : {diagnostic : Diagnostic} → IsPropertyCause mode us start added place rest diagnostic → IsCauseOfEscape mode us start added place rest place diagnostic

-- The refusal is the first of the escape that is to stand at a place, where the rest is left.
abbrev pub IsFirstOfEscape : Mode → List CodePoint → ℕ → ℕ → ℕ → List CodePoint → Diagnostic → Type 0
IsFirstOfEscape mode us start added place rest = IsFirstOf (IsCauseOfEscape mode us start added place rest)
