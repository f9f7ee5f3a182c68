-- What is found after a backslash where a property escape may stand.
use Rattle.std.specs.Prelude.{◌≡◌, ℕ, ◌+◌, Bool, true, false, ◌&&◌, Option, Some, None, List, ◌∷◌, ◌++◌, Contains, length, codes}
use Rattle.rx_base.specs.Ascii as ascii
use Rattle.rx_base.specs.declared.diagnostic.Diagnostic.{Diagnostic}
use Rattle.rx_base.specs.declared.diagnostic.Diagnostic.TheVariants.{UnterminatedPattern, InvalidUnicodeProperty, InvalidUnicodePropertyOfStrings, InvalidUnicodePropertyNameNegativeStrings}
use Rattle.rx_base.specs.declared.diagnostic.kinds.PropertyPart.TheVariants as part
use Rattle.rx_base.specs.declared.diagnostic.kinds.Unterminated.TheVariants as what
use Rattle.rx_tables.specs.Properties.{binary_properties, general_category_values, properties_of_strings}
use Rattle.rx_units.specs.declared.code_point.CodePoint.{CodePoint}
use Rattle.rx_units.specs.Units.{values}
use Rattle.rx_units.specs.Digits.{front_is}
use Rattle.rx_model.specs.declared.mode.Mode.{Mode}
use Rattle.rx_ast.specs.Texts.{property_opener}
use Rattle.rx_model.specs.Refusals.EscapeCauses.{IsPropertyCause}
use Rattle.rx_model.specs.Properties.PropertyEscapes.{SpellsProperty}
use Rattle.rx_model.specs.Properties.PropertyForms.{HasPair, begins_property}
use Rattle.rx_model.specs.Refusals.Reached.{span_between}
use Rattle.rx_class.specs.declared.properties.found.Lone.{Lone}
use Rattle.rx_class.specs.declared.properties.found.Lone.TheVariants as lone
use Rattle.rx_class.specs.declared.properties.found.PropertyFound.{PropertyFound}
use Rattle.rx_class.specs.declared.properties.found.PropertyFound.TheVariants as found
use Rattle.rx_class.specs.declared.properties.found.PropertyHalt.{PropertyHalt}
use Rattle.rx_class.specs.declared.properties.found.PropertyHalt.TheVariants as halt
use Rattle.rx_class.specs.declared.properties.form.Pair.{Pair}

-- a name and a value at the front, or none
abbrev pub IsPairFound : {U : Type 0} → List ℕ → Option (Pair U) → Type 0
IsPairFound w None = (name value following : List ℕ) → HasPair w name value following → ⊥
IsPairFound w (Some p) = HasPair w (values p.name) (values p.value) (values p.following)

-- what a word without a value names
abbrev pub IsLone : List ℕ → Lone → Type 0
IsLone word lone.Category = Contains general_category_values word
IsLone word lone.Binary = (Contains general_category_values word → ⊥) × Contains binary_properties word
IsLone word lone.OfStrings = (Contains general_category_values word → ⊥) × (Contains binary_properties word → ⊥) × Contains properties_of_strings word
IsLone word lone.Nothing = (Contains general_category_values word → ⊥) × (Contains binary_properties word → ⊥) × (Contains properties_of_strings word → ⊥)

-- whether such a word names a property, with `v` or without: a property of strings only with `v`
abbrev pub is_known : Lone → Bool → Bool
is_known lone.Category sets = true
is_known lone.Binary sets = true
is_known lone.OfStrings sets = sets
is_known lone.Nothing sets = false

-- why a property escape with such a word, of n characters, is refused where the word names no property
abbrev pub unknown_halt : Lone → List ℕ → ℕ → PropertyHalt
unknown_halt lone.Category word n = halt.NameOrValue n
unknown_halt lone.Binary word n = halt.NameOrValue n
unknown_halt lone.OfStrings word n = halt.OfStrings word n
unknown_halt lone.Nothing word n = halt.NameOrValue n

-- `P` or `p`
abbrev pub property_letter : Bool → ℕ
property_letter true = ascii.P
property_letter false = ascii.p

-- the refusal of a property escape whose backslash stands at a place
abbrev pub property_refusal : List CodePoint → ℕ → ℕ → ℕ → PropertyHalt → Diagnostic
property_refusal us first added place (halt.Unterminated end) = UnterminatedPattern (span_between us first added place (place + 1 + end)) what.PropertyEscape
property_refusal us first added place (halt.Name start length) = InvalidUnicodeProperty (span_between us first added (place + 1 + start) (place + 1 + start + length)) part.Name
property_refusal us first added place (halt.NameOrValue length) = InvalidUnicodeProperty (span_between us first added (place + 3) (place + 3 + length)) part.NameOrValue
property_refusal us first added place (halt.OfStrings name length) = InvalidUnicodePropertyOfStrings (span_between us first added (place + 3) (place + 3 + length)) name
property_refusal us first added place (halt.NegativeOfStrings name end) = InvalidUnicodePropertyNameNegativeStrings (span_between us first added place (place + 1 + end)) name

-- A property escape with these characters after its backslash is refused for this reason, wherever it stands.
abbrev pub IsPropertyHalt : Mode → List ℕ → PropertyHalt → Type 0
IsPropertyHalt mode following h = (us rest : List CodePoint) (first added place : ℕ) → values rest ≡ ascii.backslash ∷ following
    → IsPropertyCause mode us first added place rest (property_refusal us first added place h)

-- n of the characters after a backslash, together with it, spell a property escape; a negative one names no property of strings.
pub record IsPropertyAfter (mode : Mode) (following : List ℕ) (negative strings : Bool) (name : List ℕ) (value : Option (List ℕ)) (count : ℕ) : Type 0 where
  pub text : List ℕ
  pub spelled : SpellsProperty mode strings name value text
  pub front : List ℕ
  pub rest : List ℕ
  pub front_is : ascii.backslash ∷ front ≡ property_opener negative ++ (text ++ (codes "}"))
  pub whole : following ≡ front ++ rest
  pub count_is : length front ≡ count
  pub obeys : (negative && strings) ≡ false

-- what stands after a backslash, in a mode
abbrev pub IsFoundIn : Mode → List ℕ → PropertyFound → Type 0
IsFoundIn mode following (found.Property negative strings name value length) = IsPropertyAfter mode following negative strings name value length
IsFoundIn mode following found.Nothing = front_is begins_property following ≡ false
IsFoundIn mode following (found.Halt h) = IsPropertyHalt mode following h
