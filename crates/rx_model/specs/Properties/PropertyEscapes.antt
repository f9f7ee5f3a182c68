-- What property escapes spell (UnicodePropertyValueExpression, 22.2.1).
use Rattle.std.specs.Prelude.{◌≡◌, ℕ, Bool, true, false, List, ◌∷◌, ◌++◌, Option, Some, None, Contains, codes}
use Rattle.rx_base.specs.Ascii as ascii
use Rattle.rx_tables.specs.Properties.{IsValidUnicodeProperty, binary_properties, general_category_values, properties_of_strings}
use Rattle.rx_units.specs.declared.code_point.CodePoint.{CodePoint}
use Rattle.rx_units.specs.Units.{values}
use Rattle.rx_model.specs.declared.mode.Mode.{Mode}
use Rattle.rx_model.specs.declared.mode.Mode.TheVariants.{Sets}
use Rattle.rx_ast.specs.Texts.{property_opener}
use Rattle.rx_model.specs.Inputs.Environment.{Environment, is_unicode}

-- Between the braces: whether it is a property of strings, its name and its value, and the text.
pub data SpellsProperty (mode : Mode) : Bool → List ℕ → Option (List ℕ) → List ℕ → Type 0 where
  -- UnicodePropertyName = UnicodePropertyValue
  pair : {name value : List ℕ} → IsValidUnicodeProperty name value → SpellsProperty mode false name (Some value) (name ++ (ascii.equals ∷ value))
  -- LoneUnicodePropertyNameOrValue: a value of General_Category
  category : {value : List ℕ} → Contains general_category_values value → SpellsProperty mode false (codes "General_Category") (Some value) value
  -- or else a binary property
  binary : {name : List ℕ} → (Contains general_category_values name → ⊥) → Contains binary_properties name → SpellsProperty mode false name None name
  -- or else, with `v`, a binary property of strings
  of_strings : {name : List ℕ} → mode ≡ Sets → (Contains general_category_values name → ⊥) → (Contains binary_properties name → ⊥) → Contains properties_of_strings name
      → SpellsProperty mode true name None name

-- `\p{` or, where it is negative, `\P{`, an expression and `}`, with `u` or `v` (CharacterClassEscape, 22.2.1).
pub record IsProperty (e : Environment) (negative strings : Bool) (name : List ℕ) (value : Option (List ℕ)) (w : List CodePoint) : Type 0 where
  pub unicode : is_unicode e.mode ≡ true
  pub text : List ℕ
  pub spelled : SpellsProperty e.mode strings name value text
  pub whole : values w ≡ property_opener negative ++ (text ++ codes "}")
