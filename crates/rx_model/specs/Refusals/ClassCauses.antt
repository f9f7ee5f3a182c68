-- When a class is refused, and where: it begins at place `from` of a text, where `at_class` is left.
use Rattle.std.specs.Prelude.{◌≡◌, ◌≢◌, ℕ, ◌+◌, ◌<◌, Bool, true, false, ◌&&◌, Some, List, [], ◌∷◌, ◌++◌, length}
use Rattle.rx_base.specs.Ascii as ascii
use Rattle.rx_base.specs.declared.diagnostic.Diagnostic.{Diagnostic}
use Rattle.rx_base.specs.declared.diagnostic.Diagnostic.TheVariants.{UnterminatedPattern, InvalidCharacterClass, CharacterClassRangeOutOfOrder, CharacterClassRangeDashNotSubtraction, CharacterClassRangeInvalidAtom, InvalidClassAtom, EmptyClassSetExpression, ClassIntersectionUnexpectedAmpersand, ClassSetExpressionInvalidCharacter, CharacterClassContentsInvalidOperands}
use Rattle.rx_base.specs.declared.diagnostic.kinds.RangeKind.TheVariants as range
use Rattle.rx_base.specs.declared.diagnostic.kinds.SetOperator.{SetOperator}
use Rattle.rx_base.specs.declared.diagnostic.kinds.SetOperator.TheVariants.{Intersection}
use Rattle.rx_base.specs.declared.diagnostic.kinds.Unterminated.{Unterminated}
use Rattle.rx_base.specs.declared.diagnostic.kinds.Unterminated.TheVariants as what
use Rattle.rx_base.specs.declared.span.Span.{Span}
use Rattle.rx_ast.specs.declared.leaf.CharacterKind.{CharacterKind}
use Rattle.rx_units.specs.declared.code_point.CodePoint.{CodePoint}
use Rattle.rx_units.specs.Units.{values}
use Rattle.rx_model.specs.declared.mode.Mode.{Mode}
use Rattle.rx_model.specs.declared.mode.Mode.TheVariants.{Unicode}
use Rattle.rx_model.specs.Refusals.ClassPlaces.{IsAtomPlace, IsInBracket, IsItemPlace, IsPropertyPlace, IsStringPlace}
use Rattle.rx_model.specs.Classes.ClassRows.{Place, SpellsAtom, SpellsClassCharacter, SpellsInClass, after_operator, in_strings, may_follow_operator}
use Rattle.rx_model.specs.Classes.ClassRuns.{Held, empty, is_union, is_whole, may_follow, operator_of}
use Rattle.rx_model.specs.Classes.ClassTokens.{Atom, ClassToken}
pub use Rattle.rx_model.specs.Classes.ClassTokens.{is_character}
use Rattle.rx_model.specs.FirstPass.Marks.{starts}
use Rattle.rx_model.specs.Inputs.Environment.{Environment, is_sets}
use Rattle.rx_model.specs.Refusals.EscapeCauses.{IsEscapeCause, IsPropertyCause}
use Rattle.rx_model.specs.Refusals.Reached.{span_between, class_environment}
use Rattle.rx_model.specs.Refusals.Stops.{begins_class_escape}

-- A character, a `-` and a character stand next.
pub record StandsRange (e : Environment) (low : ℕ) (w : List CodePoint) (hyphen : CodePoint) (high : ℕ) (v more : List CodePoint) : Type 0 where
  pub low_kind : CharacterKind
  pub low_is : SpellsClassCharacter e low_kind low w (hyphen ∷ (v ++ more))
  pub hyphen_is : hyphen.value ≡ ascii.hyphen
  pub high_kind : CharacterKind
  pub high_is : SpellsClassCharacter e high_kind high v more

-- No token stands next that a bracket which holds this may go on with.
abbrev pub NothingFollows : Environment → Place → Held → List CodePoint → Type 0
NothingFollows e at held rest = (t : ClassToken) (w more : List CodePoint) → rest ≡ w ++ more → SpellsInClass e at t w more → may_follow held t ≡ false

-- Neither a character nor a `|` nor a `}` stands next in class strings.
abbrev pub EndsStrings : Environment → List CodePoint → Type 0
EndsStrings e rest = (t : ClassToken) (w more : List CodePoint) → rest ≡ w ++ more → SpellsInClass e in_strings t w more → ⊥

-- what is said of a class that does not end, itself or one nested in it
abbrev pub unterminated : Bool → Unterminated
unterminated false = what.CharacterClass
unterminated true = what.NestedClass

-- what is said of a negative class that may contain strings
abbrev pub of_negative : Bool → Span → Diagnostic
of_negative false span = InvalidCharacterClass span
of_negative true span = CharacterClassContentsInvalidOperands span

-- The innermost bracket that is open here, from place `begin` on, is negative and may contain strings (22.2.1.1), and its `]` stands next.
pub record IsNegativeWithStrings (e : Environment) (from : ℕ) (at_class : List CodePoint) (nested : Bool) (begin place : ℕ) (rest : List CodePoint) : Type 0 where
  pub in_bracket : IsInBracket e from at_class nested begin place rest
  pub closes : starts ascii.right_bracket (values rest) ≡ true
  pub whole : is_whole in_bracket.item_place.inner.held ≡ true
  pub may : (in_bracket.item_place.inner.negative && in_bracket.item_place.inner.may) ≡ true

-- The diagnostic is a refusal of what stands at this place of the class: for a range that of its first atom. Spans are in a text whose first offset is `first`, `added` being added to each.
-- Why: docs/DECISIONS.md, 30.
pub data IsClassCause (mode : Mode) (us : List CodePoint) (first added from : ℕ) (at_class : List CodePoint) : ℕ → Diagnostic → Type 0 where
  -- Nothing stands in a bracket and the text ends, or after the items of a union stands neither an item nor `]`; without `v` the text ends there.
  unterminated_class : (nested : Bool) (begin place : ℕ) (rest : List CodePoint) (in_bracket : IsInBracket (class_environment mode us) from at_class nested begin place rest)
      → is_union in_bracket.item_place.inner.held ≡ true → NothingFollows (class_environment mode us) in_bracket.item_place.at in_bracket.item_place.inner.held rest
      → (is_sets mode ≡ true → in_bracket.item_place.inner.held ≡ empty → rest ≡ []) → (is_sets mode ≡ false → rest ≡ [])
      → IsClassCause mode us first added from at_class place (UnterminatedPattern (span_between us first added begin place) (unterminated nested))
  -- With `v` a bracket begins with no operand, and the text goes on.
  no_operand : (place : ℕ) (rest : List CodePoint) (item_place : IsItemPlace (class_environment mode us) from at_class place rest) → is_sets mode ≡ true → item_place.inner.held ≡ empty
      → NothingFollows (class_environment mode us) item_place.at item_place.inner.held rest → rest ≢ []
      → IsClassCause mode us first added from at_class place (EmptyClassSetExpression (span_between us first added place place))
  -- A `&` stands right after `&&` (ClassIntersection).
  third_ampersand : (place : ℕ) (unit : CodePoint) (rest : List CodePoint) (item_place : IsItemPlace (class_environment mode us) from at_class place (unit ∷ rest)) → item_place.at ≡ after_operator Intersection
      → unit.value ≡ ascii.ampersand → IsClassCause mode us first added from at_class place (ClassIntersectionUnexpectedAmpersand (span_between us first added place (place + 1)))
  -- In an intersection or a subtraction stands after an operand neither `]` nor the operator, or after the operator no operand.
  no_operator : (operator : SetOperator) (place : ℕ) (rest : List CodePoint) (item_place : IsItemPlace (class_environment mode us) from at_class place rest)
      → operator_of item_place.inner.held ≡ Some operator → NothingFollows (class_environment mode us) item_place.at item_place.inner.held rest
      → (item_place.at ≡ after_operator operator → may_follow_operator operator (values rest) ≡ true)
      → IsClassCause mode us first added from at_class place (ClassSetExpressionInvalidCharacter (span_between us first added place place) operator)
  -- Class strings do not end.
  unterminated_strings : (opener place : ℕ) (rest : List CodePoint) → IsStringPlace (class_environment mode us) from at_class opener place rest → EndsStrings (class_environment mode us) rest
      → IsClassCause mode us first added from at_class place (UnterminatedPattern (span_between us first added opener place) what.ClassStringDisjunction)
  -- A negative class may contain strings, and its `]` stands here.
  negative_strings : (nested : Bool) (begin place : ℕ) (rest : List CodePoint) → IsNegativeWithStrings (class_environment mode us) from at_class nested begin place rest
      → IsClassCause mode us first added from at_class place (of_negative nested (span_between us first added begin (place + 1)))
  -- The end of a range is below its start (22.2.1.1), and is no `-`.
  range_out_of_order : (place low high : ℕ) (w v more : List CodePoint) (hyphen : CodePoint) → is_sets mode ≡ false → IsItemPlace (class_environment mode us) from at_class place (w ++ (hyphen ∷ (v ++ more)))
      → StandsRange (class_environment mode us) low w hyphen high v more → high < low → high ≢ ascii.hyphen
      → IsClassCause mode us first added from at_class place (CharacterClassRangeOutOfOrder (span_between us first added (place + length w) (place + length w + 1 + length v)) range.ClassAtom)
  -- The end of a range is a `-`, and below its start.
  dash_out_of_order : (place low : ℕ) (w v more : List CodePoint) (hyphen : CodePoint) → is_sets mode ≡ false → IsItemPlace (class_environment mode us) from at_class place (w ++ (hyphen ∷ (v ++ more)))
      → StandsRange (class_environment mode us) low w hyphen ascii.hyphen v more → ascii.hyphen < low
      → IsClassCause mode us first added from at_class place (CharacterClassRangeDashNotSubtraction (span_between us first added (place + length w) (place + length w + 1 + length v)))
  -- With `v` the end of a range is below its start, in a union.
  set_range_out_of_order : (place low high : ℕ) (w v more : List CodePoint) (hyphen : CodePoint) → is_sets mode ≡ true
      → (item_place : IsItemPlace (class_environment mode us) from at_class place (w ++ (hyphen ∷ (v ++ more)))) → is_union item_place.inner.held ≡ true
      → StandsRange (class_environment mode us) low w hyphen high v more → high < low
      → IsClassCause mode us first added from at_class place (CharacterClassRangeOutOfOrder (span_between us first added place (place + length w + 1 + length v)) range.ClassSet)
  -- With `u` an end of a range is no character (22.2.1.1).
  invalid_range : (place : ℕ) (a b : Atom) (w v more : List CodePoint) (hyphen : CodePoint) → IsItemPlace (class_environment mode us) from at_class place (w ++ (hyphen ∷ (v ++ more))) → mode ≡ Unicode
      → SpellsAtom (class_environment mode us) a w (hyphen ∷ (v ++ more)) → hyphen.value ≡ ascii.hyphen → SpellsAtom (class_environment mode us) b v more → (is_character a && is_character b) ≡ false
      → IsClassCause mode us first added from at_class place (CharacterClassRangeInvalidAtom (span_between us first added place (place + length w + 1 + length v)))
  -- Without `v` a backslash begins no escape that a class may hold, or ends the text.
  invalid_atom : (place : ℕ) (backslash : CodePoint) (rest : List CodePoint) → is_sets mode ≡ false → IsAtomPlace (class_environment mode us) from at_class place (backslash ∷ rest) → backslash.value ≡ ascii.backslash
      → begins_class_escape (class_environment mode us) (values rest) ≡ false
      → IsClassCause mode us first added from at_class place (InvalidClassAtom (span_between us first added place (place + 1)))
  -- A character escape in the class is refused, or a property escape.
  escape_in_class : (place : ℕ) (rest : List CodePoint) {diagnostic : Diagnostic} → IsAtomPlace (class_environment mode us) from at_class place rest
      → IsEscapeCause mode us first added place rest diagnostic → IsClassCause mode us first added from at_class place diagnostic
  property_in_class : (place : ℕ) (rest : List CodePoint) {diagnostic : Diagnostic} → IsPropertyPlace (class_environment mode us) from at_class place rest
      → IsPropertyCause mode us first added place rest diagnostic → IsClassCause mode us first added from at_class place diagnostic
