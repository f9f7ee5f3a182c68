-- The two forms of what stands after `\p{` and `\P{`, also where it is no property (UnicodePropertyValueExpression, 22.2.1).
use Rattle.std.specs.Prelude.{◌≡◌, ◌≢◌, ℕ, Bool, true, false, ◌==◌, ◌||◌, ◌⊎◌, List, [], ◌∷◌, ◌++◌, Contains}
use Rattle.std.specs.List.{list_all}
use Rattle.rx_base.specs.Ascii as ascii
use Rattle.rx_tables.specs.Characters.{is_unicode_property_name_character, is_unicode_property_value_character}
use Rattle.rx_tables.specs.Properties.{binary_properties, general_category_values, properties_of_strings}
use Rattle.rx_units.specs.Digits.{front_is}
use Rattle.rx_model.specs.declared.mode.Mode.{Mode}
use Rattle.rx_model.specs.declared.mode.Mode.TheVariants.{Sets}

-- what a property escape begins with after its backslash: `p` or `P`
abbrev pub begins_property : ℕ → Bool
begins_property c = c == ascii.p || c == ascii.P

-- The longest run of a value's characters at the front.
pub record IsValueRun (w run rest : List ℕ) : Type 0 where
  pub whole : w ≡ run ++ rest
  pub of_values : list_all is_unicode_property_value_character run ≡ true
  pub longest : front_is is_unicode_property_value_character rest ≡ false

-- A name and `=`, and the longest run of a value's characters; neither is empty, and the text goes on after them.
pub record HasPair (w name value rest : List ℕ) : Type 0 where
  pub following : List ℕ
  pub whole : w ≡ name ++ (ascii.equals ∷ following)
  pub of_names : list_all is_unicode_property_name_character name ≡ true
  pub run : IsValueRun following value rest
  pub some_name : name ≢ []
  pub some_value : value ≢ []
  pub goes_on : rest ≢ []

-- Where there is no such pair, the longest run of a value's characters, which may be empty.
pub record HasRun (w run rest : List ℕ) : Type 0 where
  pub no_pair : (name value following : List ℕ) → HasPair w name value following → ⊥
  pub is_run : IsValueRun w run rest

-- a run that is known by itself: a value of General_Category, a binary property, or with `v` one of strings
abbrev pub IsKnownRun : Mode → List ℕ → Type 0
IsKnownRun mode run = Contains general_category_values run ⊎ (Contains binary_properties run ⊎ ((mode ≡ Sets) × Contains properties_of_strings run))
