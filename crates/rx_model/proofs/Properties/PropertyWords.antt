-- The words of property escapes are letters, digits and `_`.
use Rattle.std.proofs.Common.{◌≡◌, refl, ℕ, ◌==◌, ◌||◌, Bool, true, Option, List, [], ◌∷◌, ◌++◌, Contains, ap, inl, inr}
use Rattle.std.specs.List.{All, list_all}
use Rattle.std.proofs.lemmas.Bool.{and_from}
use Rattle.std.proofs.lemmas.List.Elements.{All-nil, All-cons, All-contains}
use Rattle.rx_tables.specs.Characters.{is_unicode_property_value_character}
use Rattle.rx_tables.specs.Properties.{IsValidUnicodeProperty, binary_properties, general_category_names, general_category_values, properties_of_strings, script_names, script_values}
use Rattle.rx_units.proofs.Choices.{both}
use Rattle.rx_model.specs.declared.mode.Mode.{Mode}
use Rattle.rx_model.specs.Properties.PropertyEscapes.{SpellsProperty, pair, category, binary, of_strings}

-- letters, digits and `_` alone
abbrev pub IsWord : List ℕ → Type 0
IsWord w = list_all is_unicode_property_value_character w ≡ true

-- all words of a table pass a test
all_pass : (test : List ℕ → Bool) (words : List (List ℕ)) → list_all test words ≡ true → All (λ w. test w ≡ true) words
all_pass test [] h = All-nil (λ w. test w ≡ true)
all_pass test (w ∷ words) h = let p = both (test w) (list_all test words) h in All-cons (λ w. test w ≡ true) w words p.0 (all_pass test words p.1)

-- a word of a table passes a test that all words of the table pass
pub in_table : (test : List ℕ → Bool) (words : List (List ℕ)) (w : List ℕ) → list_all test words ≡ true → Contains words w → test w ≡ true
in_table test words w h c = All-contains (λ w. test w ≡ true) words w (all_pass test words h) c

table_word : (words : List (List ℕ)) (w : List ℕ) → list_all (λ w. list_all is_unicode_property_value_character w) words ≡ true → Contains words w → IsWord w
table_word words w h c = in_table (λ w. list_all is_unicode_property_value_character w) words w h c

-- the words of each table
category_name_word : (w : List ℕ) → Contains general_category_names w → IsWord w
unfolding general_category_names
category_name_word w c = table_word general_category_names w refl c

pub category_word : (w : List ℕ) → Contains general_category_values w → IsWord w
unfolding general_category_values
category_word w c = table_word general_category_values w refl c

script_name_word : (w : List ℕ) → Contains script_names w → IsWord w
unfolding script_names
script_name_word w c = table_word script_names w refl c

script_word : (w : List ℕ) → Contains script_values w → IsWord w
unfolding script_values
script_word w c = table_word script_values w refl c

pub binary_word : (w : List ℕ) → Contains binary_properties w → IsWord w
unfolding binary_properties
binary_word w c = table_word binary_properties w refl c

pub of_strings_word : (w : List ℕ) → Contains properties_of_strings w → IsWord w
unfolding properties_of_strings
of_strings_word w c = table_word properties_of_strings w refl c

-- a name and its value are words
pub pair_words : (name value : List ℕ) → IsValidUnicodeProperty name value → IsWord name × IsWord value
pair_words name value h =
    elim h [ inl g ↦ (category_name_word name g.0, category_word value g.1) | inr s ↦ (script_name_word name s.0, script_word value s.1) ]

-- a letter, a digit, `_` or `=`
abbrev pub is_property_unit : ℕ → Bool
is_property_unit c = is_unicode_property_value_character c || c == 61

-- words, and two with `=` between them
word_units : (w : List ℕ) → IsWord w → list_all is_property_unit w ≡ true
word_units [] h = refl
word_units (u ∷ w) h =
    let p = both (is_unicode_property_value_character u) (list_all is_unicode_property_value_character w) h in
    and_from (is_property_unit u) (list_all is_property_unit w) (ap (λ b. b || u == 61) p.0) (word_units w p.1)

pair_units : (w v : List ℕ) → list_all is_property_unit w ≡ true → IsWord v → list_all is_property_unit (w ++ (61 ∷ v)) ≡ true
pair_units [] v h k = word_units v k
pair_units (u ∷ w) v h k =
    let p = both (is_property_unit u) (list_all is_property_unit w) h in
    and_from (is_property_unit u) (list_all is_property_unit (w ++ (61 ∷ v))) p.0 (pair_units w v p.1 k)

-- what stands between the braces
pub property_units : (mode : Mode) (strings : Bool) (name : List ℕ) (value : Option (List ℕ)) (text : List ℕ) → SpellsProperty mode strings name value text →
    list_all is_property_unit text ≡ true
property_units mode _ _ _ _ (pair {name} {value} h) = let p = pair_words name value h in pair_units name value (word_units name p.0) p.1
property_units mode _ _ _ text (category h) = word_units text (category_word text h)
property_units mode _ _ _ text (binary n h) = word_units text (binary_word text h)
property_units mode _ _ _ text (of_strings m n k h) = word_units text (of_strings_word text h)
