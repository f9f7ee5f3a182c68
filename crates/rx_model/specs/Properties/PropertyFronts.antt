-- How a property escape after a backslash is read. What it means stands in PropertyEscapes.
use Rattle.std.specs.Prelude.{ℕ, ◌+◌, Bool, true, false, ◌==◌, ◌&&◌, ◌||◌, Option, Some, None, List, [], ◌∷◌, length, codes, if◌then◌else◌}
use Rattle.rx_base.specs.Ascii as ascii
use Rattle.rx_base.specs.Texts.{is_among}
use Rattle.rx_tables.specs.Properties.{binary_properties, general_category_names, general_category_values, properties_of_strings, script_names, script_values}
use Rattle.rx_model.specs.declared.mode.Mode.{Mode}
use Rattle.rx_model.specs.declared.mode.Mode.TheVariants.{Legacy, Unicode, Sets}

-- the characters before the first of these, or all
abbrev pub before : ℕ → List ℕ → List ℕ
before d [] = []
before d (c ∷ w) = if c == d then [] else c ∷ before d w

-- the characters from the first of these on, or none
abbrev pub onward : ℕ → List ℕ → List ℕ
onward d [] = []
onward d (c ∷ w) = if c == d then c ∷ w else onward d w

-- what stands between the braces: whether it is a property of strings, its name and its value; no property
pub data Meaning : Type 0 where
  means : Bool → List ℕ → Option (List ℕ) → Meaning
  unknown : Meaning

-- a property escape: whether it is negative and of strings, its name and its value, and how many characters are after the backslash; none
pub data PropertyRead : Type 0 where
  property_read : Bool → Bool → List ℕ → Option (List ℕ) → ℕ → PropertyRead
  no_property : PropertyRead

abbrev pub is_pair : List ℕ → List ℕ → Bool
is_pair name value =
    (is_among general_category_names name && is_among general_category_values value) || (is_among script_names name && is_among script_values value)

abbrev pub pair_meaning : List ℕ → List ℕ → Meaning
pair_meaning name value = if is_pair name value then means false name (Some value) else unknown

-- whether a property may be one of strings
abbrev pub reads_strings : Mode → Bool
reads_strings Legacy = false
reads_strings Unicode = false
reads_strings Sets = true

abbrev pub lone_meaning : Mode → List ℕ → Meaning
lone_meaning mode text =
    if is_among general_category_values text then means false (codes "General_Category") (Some text)
    else (if is_among binary_properties text then means false text None
    else (if reads_strings mode && is_among properties_of_strings text then means true text None else unknown))

-- a text that is alone, or the name before a `=` and what stands from there on
abbrev pub parts_meaning : Mode → List ℕ → List ℕ → List ℕ → Meaning
parts_meaning mode text name [] = lone_meaning mode text
parts_meaning mode text name (c ∷ value) = pair_meaning name value

abbrev pub text_meaning : Mode → List ℕ → Meaning
text_meaning mode text = parts_meaning mode text (before ascii.equals text) (onward ascii.equals text)

abbrev pub property_of : Bool → ℕ → Meaning → PropertyRead
property_of negative n (means strings name value) = property_read negative strings name value n
property_of negative n unknown = no_property

-- a text in braces, and what stands from the `}` on
abbrev pub closed_property : Mode → Bool → List ℕ → List ℕ → PropertyRead
closed_property mode negative text [] = no_property
closed_property mode negative text (c ∷ rest) = property_of negative (length text + 3) (text_meaning mode text)

-- after `p` or `P`
abbrev pub braced_property : Mode → Bool → List ℕ → PropertyRead
braced_property mode negative [] = no_property
braced_property mode negative (c ∷ w) = if c == ascii.left_brace then closed_property mode negative (before ascii.right_brace w) (onward ascii.right_brace w) else no_property

-- the property escape after a backslash, with `u` or `v`
unfoldable pub property_front : Mode → List ℕ → PropertyRead
property_front mode [] = no_property
property_front mode (c ∷ w) =
    if c == ascii.p then braced_property mode false w else (if c == ascii.P then braced_property mode true w else no_property)
