-- The name of a property tells whether it is one of strings.
use Rattle.std.proofs.Common.{◌≡◌, ◌∙◌, refl, sym, ℕ, Bool, true, false, not, Option, List, Contains, codes, inl, inr, ap, true≢false}
use Rattle.rx_base.specs.Texts.{is_among}
use Rattle.rx_tables.specs.Properties.{IsValidUnicodeProperty, binary_properties, general_category_names, properties_of_strings, script_names}
use Rattle.rx_model.specs.declared.mode.Mode.{Mode}
use Rattle.rx_model.specs.Properties.PropertyEscapes.{SpellsProperty, pair, category, binary, of_strings}
use Rattle.rx_model.specs.Trees.Early.{IsFlaggedProperty}
use Rattle.rx_model.proofs.Properties.PropertyWords.{in_table}
use Rattle.rx_model.proofs.Trees.Names.{among}

-- the names of the other tables
abbrev is_other : List ℕ → Bool
is_other name = not (is_among properties_of_strings name)

other_flag : (name : List ℕ) → is_other name ≡ true → IsFlaggedProperty false name
other_flag name other = (λ h. absurd (let no : ⊥ = cc h in no), λ h. absurd (true≢false (sym other ∙ ap not (among properties_of_strings name h))))

binary_flag : (name : List ℕ) → Contains binary_properties name → IsFlaggedProperty false name
unfolding binary_properties properties_of_strings
binary_flag name h = other_flag name (in_table is_other binary_properties name refl h)

pair_flag : (name value : List ℕ) → IsValidUnicodeProperty name value → IsFlaggedProperty false name
unfolding general_category_names script_names properties_of_strings
pair_flag name value (inl h) = other_flag name (in_table is_other general_category_names name refl h.0)
pair_flag name value (inr h) = other_flag name (in_table is_other script_names name refl h.0)

pub category_flag : IsFlaggedProperty false (codes "General_Category")
unfolding properties_of_strings
category_flag = other_flag (codes "General_Category") refl

-- Where a property is spelled its flag is the one that its name tells.
pub strings_by_name : (mode : Mode) (strings : Bool) (name : List ℕ) (value : Option (List ℕ)) (text : List ℕ) → SpellsProperty mode strings name value text → IsFlaggedProperty strings name
strings_by_name mode _ _ _ _ (pair {name} {value} valid) = pair_flag name value valid
strings_by_name mode _ _ _ _ (category known) = category_flag
strings_by_name mode _ _ _ _ (binary {name} no_category known) = binary_flag name known
strings_by_name mode _ _ _ _ (of_strings {name} sets no_category no_binary known) = (λ _. known, λ _. refl)
