-- Where a property escape is refused none is spelled that obeys.
use Rattle.std.proofs.Common.{◌≡◌, ◌≢◌, ◌⊎◌, ◌||◌, ◌&&◌, ℕ, inl, inr, Bool, true, false, List, [], ◌∷◌, ◌++◌, Option, drop, Contains, refl, sym, ap, ◌∙◌, subst}
use Rattle.std.specs.List.{list_all}
use Rattle.std.proofs.lemmas.Bool.{true≢false}
use Rattle.std.proofs.lemmas.List.{append_assoc, map-append}
use Rattle.rx_base.specs.declared.diagnostic.Diagnostic.{Diagnostic}
use Rattle.rx_tables.specs.Characters.{is_decimal_digit, is_unicode_property_name_character, is_unicode_property_value_character}
use Rattle.rx_tables.specs.Properties.{IsValidUnicodeProperty, binary_properties, general_category_values}
use Rattle.rx_units.specs.declared.code_point.CodePoint.{CodePoint}
use Rattle.rx_units.specs.Units.{values}
use Rattle.rx_units.proofs.Choices.{both}
use Rattle.rx_model.specs.declared.mode.Mode.{Mode}
use Rattle.rx_ast.specs.Texts.{property_opener}
use Rattle.rx_model.specs.Inputs.Environment.{Environment, is_unicode}
use Rattle.rx_model.specs.Refusals.EscapeCauses.{IsPropertyCause, no_property, unterminated_run, unclosed_run, unclosed_pair, unknown_pair, unknown_run, of_strings, negative_of_strings}
use Rattle.rx_model.specs.FirstPass.Marks.{starts}
use Rattle.rx_model.specs.Properties.PropertyEscapes.{SpellsProperty, pair, category, binary, of_strings as strings_alone}
use Rattle.rx_model.specs.Properties.PropertyEscapes.{IsProperty}
use Rattle.rx_model.specs.Properties.PropertyForms.{HasPair, HasRun, IsKnownRun, begins_property}
use Rattle.rx_model.proofs.Properties.PropertyRuns.{one_pair, one_run, same_run}
use Rattle.rx_model.proofs.Properties.PropertyTables.{IsWordOf, binary_word, category_word, strings_word, valid_words}

-- a name's characters may stand in a value
pub names_are_values : (w : List ℕ) → list_all is_unicode_property_name_character w ≡ true → list_all is_unicode_property_value_character w ≡ true
names_are_values [] h = refl
names_are_values (c ∷ w) h =
    let p = both (is_unicode_property_name_character c) (list_all is_unicode_property_name_character w) h in
    ap (λ b. (b || is_decimal_digit c) && list_all is_unicode_property_value_character w) p.0 ∙ names_are_values w p.1

-- No property escape stands at the front that obeys: a negative one is of no strings.
abbrev pub BeginsNoProperty : Environment → List CodePoint → Type 0
BeginsNoProperty e us =
    (negative strings : Bool) (name : List ℕ) (value : Option (List ℕ)) (w more : List CodePoint) → us ≡ w ++ more → IsProperty e negative strings name value w → (negative && strings) ≡ false → ⊥

-- What a property and the `}` after it are: a valid pair, or a known run, which with no strings is a value of General_Category or a binary property.
data Stands (mode : Mode) (strings : Bool) (w more : List ℕ) : Type 0 where
  by_pair : (name value : List ℕ) → HasPair w name value (125 ∷ more) → IsValidUnicodeProperty name value → Stands mode strings w more
  by_run : (run : List ℕ) → HasRun w run (125 ∷ more) → IsKnownRun mode run → run ≢ [] → (strings ≡ false → Contains general_category_values run ⊎ Contains binary_properties run) → Stands mode strings w more

pub lone_run : (run more : List ℕ) → IsWordOf is_unicode_property_value_character run → HasRun (run ++ (125 ∷ more)) run (125 ∷ more)
lone_run run more word = record {
  no_pair = λ name value following p.
      let same = same_run is_unicode_property_value_character run (125 ∷ more) name (61 ∷ p.following) p.whole word.all (names_are_values name p.of_names) refl refl in
      let bad : ⊥ = cc (same.1) in
      bad;
  is_run = record { whole = refl; of_values = word.all; longest = refl };
}

lone_stands : (mode : Mode) (strings : Bool) (run more : List ℕ) → IsWordOf is_unicode_property_value_character run → IsKnownRun mode run →
    (strings ≡ false → Contains general_category_values run ⊎ Contains binary_properties run) → Stands mode strings (run ++ (125 ∷ more)) more
lone_stands mode strings run more word known alone = by_run run (lone_run run more word) known word.some alone

stands : (mode : Mode) (strings : Bool) (name : List ℕ) (value : Option (List ℕ)) (text more : List ℕ) → SpellsProperty mode strings name value text → Stands mode strings (text ++ (125 ∷ more)) more
stands mode strings name value text more (pair {name = n} {value = v} valid) =
    let words = valid_words n v valid in
    by_pair n v record {
      following = v ++ (125 ∷ more);
      whole = append_assoc n (61 ∷ v) (125 ∷ more);
      of_names = words.0.all;
      run = record { whole = refl; of_values = words.1.all; longest = refl };
      some_name = words.0.some;
      some_value = words.1.some;
      goes_on = λ e. cc e;
    } valid
stands mode strings name value text more (category {value = v} known) = lone_stands mode strings v more (category_word v known) (inl known) (λ no_strings. inl known)
stands mode strings name value text more (binary {name = n} no_category known) = lone_stands mode strings n more (binary_word n known) (inr (inl known)) (λ no_strings. inr known)
stands mode strings name value text more (strings_alone {name = n} sets no_category no_binary known) = lone_stands mode strings n more (strings_word n known) (inr (inr (sets, known))) (λ no_strings. let no : ⊥ = cc no_strings in absurd no)

module _ (mode : Mode) (strings : Bool) (w more : List ℕ) where
  run_against : (run following : List ℕ) → HasRun w run following → (IsKnownRun mode run → run ≢ [] → following ≡ 125 ∷ more → ⊥) → Stands mode strings w more → ⊥
  run_against run following has against (by_pair name value p valid) = has.no_pair name value (125 ∷ more) p
  run_against run following has against (by_run other also known some alone) =
      let same = one_run also.is_run has.is_run in
      against (subst (IsKnownRun mode) same.0 known) (subst (λ r. r ≢ []) same.0 some) (sym same.1)

  -- A run that is known alone as a property of strings, where no property of strings is spelled.
  no_lone_run : (run following : List ℕ) → HasRun w run (125 ∷ following) → (Contains general_category_values run → ⊥) → (Contains binary_properties run → ⊥) → strings ≡ false → Stands mode strings w more → ⊥
  no_lone_run run following has no_category no_binary none (by_pair name value p valid) = has.no_pair name value (125 ∷ more) p
  no_lone_run run following has no_category no_binary none (by_run other also known some alone) =
      let same = one_run also.is_run has.is_run in
      elim (subst (λ r. Contains general_category_values r ⊎ Contains binary_properties r) same.0 (alone none)) [ inl h ↦ no_category h | inr h ↦ no_binary h ]

  pair_against : (name value following : List ℕ) → HasPair w name value following → (IsValidUnicodeProperty name value → following ≡ 125 ∷ more → ⊥) → Stands mode strings w more → ⊥
  pair_against name value following has against (by_pair other_name other_value p valid) =
      let same = one_pair p has in
      against (subst (λ v. IsValidUnicodeProperty name v) same.values_too (subst (λ n. IsValidUnicodeProperty n other_value) same.names valid)) (sym same.rest)
  pair_against name value following has against (by_run run also known some alone) = also.no_pair name value following has

closes : (w more : List ℕ) → starts 125 w ≡ false → w ≡ 125 ∷ more → ⊥
closes w more unclosed e = let no : false ≡ true = sym unclosed ∙ ap (starts 125) e in cc no

-- what stands after the brace of an opener
after_brace : (negative : Bool) (us w more : List ℕ) (letter : ℕ) → us ≡ 92 ∷ letter ∷ 123 ∷ w → us ≡ property_opener negative ++ more → w ≡ more
after_brace true us w more letter e f = let k : 92 ∷ letter ∷ 123 ∷ w ≡ 92 ∷ 80 ∷ 123 ∷ more = sym e ∙ f in cc k
after_brace false us w more letter e f = let k : 92 ∷ letter ∷ 123 ∷ w ≡ 92 ∷ 112 ∷ 123 ∷ more = sym e ∙ f in cc k

-- A negative property escape that obeys is of no strings.
not_of_strings : (negative strings : Bool) (us w more : List ℕ) → us ≡ 92 ∷ 80 ∷ 123 ∷ w → us ≡ property_opener negative ++ more → (negative && strings) ≡ false → strings ≡ false
not_of_strings true strings us w more e f obeys = obeys
not_of_strings false strings us w more e f obeys = absurd (true≢false (ap (λ us. starts 80 (drop 1 us)) (sym e ∙ f)))

brace_there : (negative : Bool) (us following more : List ℕ) (letter : ℕ) → us ≡ 92 ∷ letter ∷ following → us ≡ property_opener negative ++ more → starts 123 following ≡ true
brace_there true us following more letter e f =
    let k : 92 ∷ letter ∷ following ≡ 92 ∷ 80 ∷ 123 ∷ more = sym e ∙ f in
    let b : following ≡ 123 ∷ more = cc k in
    ap (starts 123) b
brace_there false us following more letter e f =
    let k : 92 ∷ letter ∷ following ≡ 92 ∷ 112 ∷ 123 ∷ more = sym e ∙ f in
    let b : following ≡ 123 ∷ more = cc k in
    ap (starts 123) b

refuses : (mode : Mode) (us : List CodePoint) (first added place : ℕ) (rest : List CodePoint) (d : Diagnostic) → IsPropertyCause mode us first added place rest d
    → (negative strings : Bool) (text more : List ℕ) → values rest ≡ property_opener negative ++ (text ++ (125 ∷ more)) → (negative && strings) ≡ false → Stands mode strings (text ++ (125 ∷ more)) more → ⊥
refuses mode us first added place rest d (no_property letter following unicode whole letter_is other) negative strings text more is obeys s =
    let no : false ≡ true = sym other ∙ brace_there negative (values rest) following (text ++ (125 ∷ more)) letter whole is in cc no
refuses mode us first added place rest d (unterminated_run w run following b has short) negative strings text more is obeys s =
    let here = after_brace negative (values rest) w (text ++ (125 ∷ more)) b.letter b.whole is in
    run_against mode strings w more run following has (λ known some e. elim short [ inl none ↦ some none | inr none ↦ let no : [] ≡ 125 ∷ more = sym none ∙ e in cc no ]) (subst (λ w. Stands mode strings w more) (sym here) s)
refuses mode us first added place rest d (unclosed_run w run following b has known goes unclosed) negative strings text more is obeys s =
    let here = after_brace negative (values rest) w (text ++ (125 ∷ more)) b.letter b.whole is in
    run_against mode strings w more run following has (λ known some e. closes following more unclosed e) (subst (λ w. Stands mode strings w more) (sym here) s)
refuses mode us first added place rest d (unclosed_pair w name value following b has valid unclosed) negative strings text more is obeys s =
    let here = after_brace negative (values rest) w (text ++ (125 ∷ more)) b.letter b.whole is in
    pair_against mode strings w more name value following has (λ valid e. closes following more unclosed e) (subst (λ w. Stands mode strings w more) (sym here) s)
refuses mode us first added place rest d (unknown_pair w name value following b has unknown) negative strings text more is obeys s =
    let here = after_brace negative (values rest) w (text ++ (125 ∷ more)) b.letter b.whole is in
    pair_against mode strings w more name value following has (λ valid e. unknown valid) (subst (λ w. Stands mode strings w more) (sym here) s)
refuses mode us first added place rest d (unknown_run w run following b has some goes unknown no_strings) negative strings text more is obeys s =
    let here = after_brace negative (values rest) w (text ++ (125 ∷ more)) b.letter b.whole is in
    run_against mode strings w more run following has (λ known some e. unknown known) (subst (λ w. Stands mode strings w more) (sym here) s)
refuses mode us first added place rest d (of_strings w run following unicode b has goes unknown known_strings) negative strings text more is obeys s =
    let here = after_brace negative (values rest) w (text ++ (125 ∷ more)) b.letter b.whole is in
    run_against mode strings w more run following has (λ known some e. unknown known) (subst (λ w. Stands mode strings w more) (sym here) s)
refuses mode us first added place rest d (negative_of_strings w run following sets whole has no_category no_binary known_strings) negative strings text more is obeys s =
    let here = after_brace negative (values rest) w (text ++ (125 ∷ more)) 80 whole is in
    let alone = not_of_strings negative strings (values rest) w (text ++ (125 ∷ more)) whole is obeys in
    no_lone_run mode strings w more run following has no_category no_binary alone (subst (λ w. Stands mode strings w more) (sym here) s)

pub cause_begins_no_property : (e : Environment) (us : List CodePoint) (first added place : ℕ) (rest : List CodePoint) (d : Diagnostic) → IsPropertyCause e.mode us first added place rest d → BeginsNoProperty e rest
cause_begins_no_property e us first added place rest d cause negative strings name value w more whole is obeys =
    let text = is.text in
    let back : values rest ≡ property_opener negative ++ (text ++ (125 ∷ values more)) =
    ap values whole
    ∙ map-append (λ (u : CodePoint). u.value) w more
    ∙ ap (λ v. v ++ values more) is.whole
    ∙ append_assoc (property_opener negative) (text ++ (125 ∷ [])) (values more)
    ∙ ap (λ v. property_opener negative ++ v) (append_assoc text (125 ∷ []) (values more)) in
    refuses e.mode us first added place rest d cause negative strings text (values more) back obeys (stands e.mode strings name value text (values more) is.spelled)

-- A property escape is refused with `u` or `v` alone.
pub cause_unicode : (mode : Mode) (us : List CodePoint) (first added place : ℕ) (rest : List CodePoint) (d : Diagnostic) → IsPropertyCause mode us first added place rest d → is_unicode mode ≡ true
cause_unicode mode us first added place rest _ (no_property letter following unicode whole letter_is other) = unicode
cause_unicode mode us first added place rest _ (unterminated_run w run following b has ends) = b.unicode
cause_unicode mode us first added place rest _ (unclosed_run w run following b has known goes other) = b.unicode
cause_unicode mode us first added place rest _ (unclosed_pair w name value following b has known other) = b.unicode
cause_unicode mode us first added place rest _ (unknown_pair w name value following b has unknown) = b.unicode
cause_unicode mode us first added place rest _ (unknown_run w run following b has some goes unknown no_strings) = b.unicode
cause_unicode mode us first added place rest _ (of_strings w run following u b has goes unknown strings) = b.unicode
cause_unicode mode us first added place rest _ (negative_of_strings w run following sets whole has no_category no_binary strings) = ap is_unicode sets

-- what a property escape begins with that is refused
pub property_first : (mode : Mode) (us : List CodePoint) (first added f : ℕ) (rest : List CodePoint) (d : Diagnostic) → IsPropertyCause mode us first added f rest d →
    (letter : ℕ) × (w : List ℕ) × (values rest ≡ 92 ∷ letter ∷ w) × (begins_property letter ≡ true)
property_first mode us first added f rest _ (no_property letter following m h is other) = (letter, following, h, is)
property_first mode us first added f rest _ (unterminated_run w run following b has short) = (b.letter, 123 ∷ w, b.whole, b.letter_is)
property_first mode us first added f rest _ (unclosed_run w run following b has known goes other) = (b.letter, 123 ∷ w, b.whole, b.letter_is)
property_first mode us first added f rest _ (unclosed_pair w name value following b has valid other) = (b.letter, 123 ∷ w, b.whole, b.letter_is)
property_first mode us first added f rest _ (unknown_pair w name value following b has unknown) = (b.letter, 123 ∷ w, b.whole, b.letter_is)
property_first mode us first added f rest _ (unknown_run w run following b has some goes unknown no_strings) = (b.letter, 123 ∷ w, b.whole, b.letter_is)
property_first mode us first added f rest _ (of_strings w run following m b has goes unknown strings) = (b.letter, 123 ∷ w, b.whole, b.letter_is)
property_first mode us first added f rest _ (negative_of_strings w run following sets whole has no_category no_binary strings) = (80, 123 ∷ w, whole, refl)
