-- When a character escape or a property escape is refused, and where: it is to stand at a place of a text, where the rest is left.
use Rattle.std.specs.Prelude.{◌≡◌, ◌≢◌, ℕ, ◌+◌, ◌⊎◌, true, false, Contains, List, [], ◌∷◌, ◌++◌, length, codes}
use Rattle.rx_base.specs.Ascii as ascii
use Rattle.rx_base.specs.declared.diagnostic.Diagnostic.{Diagnostic}
use Rattle.rx_base.specs.declared.diagnostic.Diagnostic.TheVariants.{UnterminatedPattern, TooLargeNumberDigits, InvalidUnicodeEscapeSequence, InvalidUnicodeProperty, InvalidUnicodePropertyOfStrings, InvalidUnicodePropertyNameNegativeStrings}
use Rattle.rx_base.specs.declared.diagnostic.kinds.DigitsKind.TheVariants as digits
use Rattle.rx_base.specs.declared.diagnostic.kinds.PropertyPart.TheVariants as part
use Rattle.rx_base.specs.declared.diagnostic.kinds.Unterminated.TheVariants as what
use Rattle.rx_tables.specs.Properties.{IsValidUnicodeProperty, binary_properties, general_category_values, properties_of_strings}
use Rattle.rx_units.specs.declared.code_point.CodePoint.{CodePoint}
use Rattle.rx_units.specs.Units.{values}
use Rattle.rx_units.specs.Digits.{PassesHex}
use Rattle.rx_model.specs.declared.mode.Mode.{Mode}
use Rattle.rx_model.specs.declared.mode.Mode.TheVariants.{Sets, Unicode}
use Rattle.rx_model.specs.Inputs.Environment.{is_unicode}
use Rattle.rx_model.specs.FirstPass.Marks.{starts}
use Rattle.rx_model.specs.Properties.PropertyForms.{HasPair, HasRun, IsKnownRun, begins_property}
use Rattle.rx_model.specs.Refusals.Reached.{span_between}
use Rattle.rx_model.specs.Characters.UnicodeEscapes.{Decodes}

-- A character escape is refused here, in a text whose first offset is `first`, `added` being added to each.
-- Why: docs/DECISIONS.md, 30.
pub data IsEscapeCause (mode : Mode) (us : List CodePoint) (first added place : ℕ) (rest : List CodePoint) : Diagnostic → Type 0 where
  -- With `u` or `v` the digits of a unicode escape pass 32 bits.
  too_many_hex_digits : (count : ℕ) (following : List ℕ) → is_unicode mode ≡ true → values rest ≡ ascii.backslash ∷ following → PassesHex following count
      → IsEscapeCause mode us first added place rest (TooLargeNumberDigits (span_between us first added (place + 3) (place + 3 + count)) digits.Hex)
  -- With `u` or `v` a backslash and `u` begin no unicode escape (22.2.1, IdentityEscape holds no `u`).
  invalid_escape : (following : List ℕ) → is_unicode mode ≡ true → values rest ≡ codes "\\u" ++ following → ((v n : ℕ) → Decodes true (ascii.u ∷ following) v n → ⊥) → ((count : ℕ) → PassesHex (ascii.u ∷ following) count → ⊥)
      → IsEscapeCause mode us first added place rest (InvalidUnicodeEscapeSequence (span_between us first added (place + 1) (place + 2)))

-- With `u` or `v` a property escape is to stand at the front, and this stands after its `{`.
pub record BeginsProperty (mode : Mode) (w following : List ℕ) : Type 0 where
  pub letter : ℕ
  pub unicode : is_unicode mode ≡ true
  pub letter_is : begins_property letter ≡ true
  pub whole : w ≡ ascii.backslash ∷ letter ∷ ascii.left_brace ∷ following

-- The same of a property escape.
pub data IsPropertyCause (mode : Mode) (us : List CodePoint) (first added place : ℕ) (rest : List CodePoint) : Diagnostic → Type 0 where
  -- With `u` or `v` no `{` stands after `\p` or `\P`.
  no_property : (letter : ℕ) (following : List ℕ) → is_unicode mode ≡ true → values rest ≡ ascii.backslash ∷ letter ∷ following → begins_property letter ≡ true → starts ascii.left_brace following ≡ false
      → IsPropertyCause mode us first added place rest (UnterminatedPattern (span_between us first added place (place + 2)) what.PropertyEscape)
  -- The run after `{` is empty, or ends the text.
  unterminated_run : (w run following : List ℕ) → BeginsProperty mode (values rest) w → HasRun w run following → (run ≡ []) ⊎ (following ≡ [])
      → IsPropertyCause mode us first added place rest (UnterminatedPattern (span_between us first added place (place + 3 + length run)) what.PropertyEscape)
  -- A run that is known is not followed by `}`.
  unclosed_run : (w run following : List ℕ) → BeginsProperty mode (values rest) w → HasRun w run following → IsKnownRun mode run → following ≢ [] → starts ascii.right_brace following ≡ false
      → IsPropertyCause mode us first added place rest (UnterminatedPattern (span_between us first added place (place + 3 + length run)) what.PropertyEscape)
  -- A pair that is known is not followed by `}`.
  unclosed_pair : (w name value following : List ℕ) → BeginsProperty mode (values rest) w → HasPair w name value following → IsValidUnicodeProperty name value → starts ascii.right_brace following ≡ false
      → IsPropertyCause mode us first added place rest (UnterminatedPattern (span_between us first added place (place + 4 + length name + length value)) what.PropertyEscape)
  -- A pair is in no table.
  unknown_pair : (w name value following : List ℕ) → BeginsProperty mode (values rest) w → HasPair w name value following → (IsValidUnicodeProperty name value → ⊥)
      → IsPropertyCause mode us first added place rest (InvalidUnicodeProperty (span_between us first added (place + 4 + length name) (place + 4 + length name + length value)) part.Name)
  -- A run is in no table.
  unknown_run : (w run following : List ℕ) → BeginsProperty mode (values rest) w → HasRun w run following → run ≢ [] → following ≢ [] → (IsKnownRun mode run → ⊥) → (Contains properties_of_strings run → ⊥)
      → IsPropertyCause mode us first added place rest (InvalidUnicodeProperty (span_between us first added (place + 3) (place + 3 + length run)) part.NameOrValue)
  -- With `u` a run is a property of strings (22.2.1.1).
  of_strings : (w run following : List ℕ) → mode ≡ Unicode → BeginsProperty mode (values rest) w → HasRun w run following → following ≢ [] → (IsKnownRun mode run → ⊥) → Contains properties_of_strings run
      → IsPropertyCause mode us first added place rest (InvalidUnicodePropertyOfStrings (span_between us first added (place + 3) (place + 3 + length run)) run)
  -- With `v` a negative property escape is of strings (22.2.1.1).
  negative_of_strings : (w run following : List ℕ) → mode ≡ Sets → values rest ≡ codes "\\P{" ++ w → HasRun w run (ascii.right_brace ∷ following) → (Contains general_category_values run → ⊥)
      → (Contains binary_properties run → ⊥) → Contains properties_of_strings run
      → IsPropertyCause mode us first added place rest (InvalidUnicodePropertyNameNegativeStrings (span_between us first added place (place + 4 + length run)) run)
