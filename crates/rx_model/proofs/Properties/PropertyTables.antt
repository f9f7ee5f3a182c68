-- The words of the tables of properties are some characters of their sets.
use Rattle.std.proofs.Common.{◌≡◌, ℕ, Bool, true, false, List, [], ◌∷◌, Contains, inl, inr, refl}
use Rattle.std.specs.List.{list_all}
use Rattle.std.proofs.lemmas.List.Elements.{All-contains}
use Rattle.std.proofs.lemmas.List.Sums.{AllPass-from_list_all}
use Rattle.rx_tables.specs.Characters.{is_unicode_property_name_character, is_unicode_property_value_character}
use Rattle.rx_tables.specs.Properties.{IsValidUnicodeProperty, binary_properties, general_category_names, general_category_values, properties_of_strings, script_names, script_values}

is_some_of : (ℕ → Bool) → List ℕ → Bool
is_some_of set [] = false
is_some_of set (c ∷ cs) = list_all set (c ∷ cs)

-- a word is some characters of a set
pub record IsWordOf (set : ℕ → Bool) (w : List ℕ) : Type 0 where
  pub all : list_all set w ≡ true
  pub some : w ≡ [] → ⊥

word_of : (set : ℕ → Bool) (w : List ℕ) → is_some_of set w ≡ true → IsWordOf set w
unfolding is_some_of
word_of set [] h = absurd (let no : ⊥ = cc h in no)
word_of set (c ∷ cs) h = record { all = h; some = λ e. cc e }

word_in : (set : ℕ → Bool) (words : List (List ℕ)) → list_all (is_some_of set) words ≡ true → (w : List ℕ) → Contains words w → IsWordOf set w
word_in set words h w there = word_of set w (All-contains (λ w. is_some_of set w ≡ true) words w (AllPass-from_list_all (is_some_of set) words h) there)

pub binary_word : (w : List ℕ) → Contains binary_properties w → IsWordOf is_unicode_property_value_character w
unfolding binary_properties is_some_of
binary_word = word_in is_unicode_property_value_character binary_properties refl

pub category_word : (w : List ℕ) → Contains general_category_values w → IsWordOf is_unicode_property_value_character w
unfolding general_category_values is_some_of
category_word = word_in is_unicode_property_value_character general_category_values refl

pub strings_word : (w : List ℕ) → Contains properties_of_strings w → IsWordOf is_unicode_property_value_character w
unfolding properties_of_strings is_some_of
strings_word = word_in is_unicode_property_value_character properties_of_strings refl

script_word : (w : List ℕ) → Contains script_values w → IsWordOf is_unicode_property_value_character w
unfolding script_values is_some_of
script_word = word_in is_unicode_property_value_character script_values refl

category_name : (w : List ℕ) → Contains general_category_names w → IsWordOf is_unicode_property_name_character w
unfolding general_category_names is_some_of
category_name = word_in is_unicode_property_name_character general_category_names refl

script_name : (w : List ℕ) → Contains script_names w → IsWordOf is_unicode_property_name_character w
unfolding script_names is_some_of
script_name = word_in is_unicode_property_name_character script_names refl

pub valid_words : (name value : List ℕ) → IsValidUnicodeProperty name value → IsWordOf is_unicode_property_name_character name × IsWordOf is_unicode_property_value_character value
valid_words name value (inl h) = (category_name name h.0, category_word value h.1)
valid_words name value (inr h) = (script_name name h.0, script_word value h.1)
