-- The words of the tables of properties.
use Rattle.std.proofs.Common.{◌≡◌, ℕ, true, not, true≢false, List, codes, refl, sym, ap, ◌∙◌, subst, arith, ◌<◌, nat_lt, length, get_or, inl, inr}
use Rattle.std.specs.Prelude.{Contains}
use Rattle.rx_base.specs.Texts.{is_among}
use Rattle.rx_tables.specs.Properties.{IsValidUnicodeProperty, binary_properties, general_category_names, general_category_values, properties_of_strings, script_names}
use Rattle.rx_model.proofs.Properties.PropertyWords.{in_table}
use Rattle.rx_model.proofs.Trees.Names.{among}
use Rattle.rx_class.specs.declared.properties.found.Lone.TheVariants as lone
use Rattle.rx_class.proofs.Common.{IsLone, list_all, nat_tests, All-weaker, is_unicode_property_value_character}
use Rattle.std.specs.Str.{chars}
use Rattle.rx_units.specs.Stored.{values_of}
use Rattle.std.proofs.lemmas.Str.{chars-IsAscii}
use Rattle.std.proofs.lemmas.Str.Ascii.{IsAscii-from_all}
use Rattle.std.proofs.lemmas.List.Folds.{list_all-map}
use Rattle.std.proofs.lemmas.List.Elements.{All-get_or}
use Rattle.std.proofs.lemmas.List.Sums.{AllPass-from_list_all}
use Rattle.std.proofs.lemmas.Bool.{ltb-true}

-- its characters as a text
pub category_text : chars (codes "General_Category") ≡ codes "General_Category"
category_text =
    let word = codes "General_Category" in
    chars-IsAscii word (IsAscii-from_all word (All-weaker (λ b. nat_lt b 128 ≡ true) (λ b. b < 128) (λ b. ltb-true b 128) word (AllPass-from_list_all (λ b. nat_lt b 128) word refl)))

-- a value's character is small
small : (c : ℕ) → is_unicode_property_value_character c ≡ true → c < 128
small c h = grind (arith, nat_tests)

pub small_value : {Item : Type 0} (value : Item → ℕ) (xs : List Item) (i : ℕ) (d : Item) → list_all is_unicode_property_value_character (values_of value xs) ≡ true → i < length xs → value (get_or xs i d) < 128
small_value value xs i d all within =
    let each = AllPass-from_list_all (λ x. is_unicode_property_value_character (value x)) xs (sym (list_all-map is_unicode_property_value_character value xs) ∙ all) in
    small (value (get_or xs i d)) (All-get_or (λ x. is_unicode_property_value_character (value x) ≡ true) xs i d within each)

short_among : (names : List (List ℕ)) → list_all (λ w. nat_lt (length w) 18) names ≡ true → (name : List ℕ) → Contains names name → length name < 18
short_among names all name among =
    let each = All-get_or (λ w. nat_lt (length w) 18 ≡ true) names among.0 name among.1 (AllPass-from_list_all (λ w. nat_lt (length w) 18) names all) in
    ltb-true (length name) 18 (subst (λ w. nat_lt (length w) 18 ≡ true) among.2 each)

-- a property's name is short
pub name_is_short : (name value : List ℕ) → IsValidUnicodeProperty name value → length name < 18
unfolding general_category_names script_names
name_is_short name value (inl known) = short_among general_category_names refl name known.0
name_is_short name value (inr known) = short_among script_names refl name known.0

not_within : (words : List (List ℕ)) (word : List ℕ) → not (is_among words word) ≡ true → Contains words word → ⊥
not_within words word out within = true≢false (sym out ∙ ap not (among words word within))

-- a property of strings names no characters
pub lone_strings : (word : List ℕ) → Contains properties_of_strings word → IsLone word lone.OfStrings
unfolding binary_properties general_category_values properties_of_strings
lone_strings word strings = (
  not_within general_category_values word (in_table (λ w. not (is_among general_category_values w)) properties_of_strings word refl strings),
  not_within binary_properties word (in_table (λ w. not (is_among binary_properties w)) properties_of_strings word refl strings),
  strings,
)
