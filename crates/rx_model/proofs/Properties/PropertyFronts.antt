-- Property escapes: what is spelled is read, and what is read is spelled.
use Rattle.std.proofs.Common.{◌≡◌, refl, sym, ap, ap₂, ◌∙◌, subst, ℕ, ◌+◌, ◌==◌, Bool, true, false, not, ◌&&◌, Option, Some, List, [], ◌∷◌, ◌++◌, length, arith, inl, inr, Contains, append_assoc, length-append}
use Rattle.std.specs.List.{list_all}
use Rattle.std.proofs.lemmas.Bool.{eqb-true, cond-true, cond-false, and_from, or_cases, not-true, or_left, or_right}
use Rattle.std.proofs.lemmas.Bool.Decides.{nat_tests}
use Rattle.std.proofs.lemmas.List.Elements.{All-contains}
use Rattle.std.proofs.lemmas.List.Folds.{list_all-append}
use Rattle.std.proofs.lemmas.List.Sums.{AllPass-from_list_all}
use Rattle.rx_base.specs.Texts.{is_among}
use Rattle.rx_tables.specs.Properties.{IsValidUnicodeProperty, binary_properties, general_category_names, general_category_values, properties_of_strings, script_names, script_values}
use Rattle.rx_units.specs.declared.code_point.CodePoint.{CodePoint}
use Rattle.rx_units.specs.Units.{values}
use Rattle.rx_units.proofs.Choices.{chosen, both}
use Rattle.rx_model.specs.declared.mode.Mode.{Mode}
use Rattle.rx_model.specs.declared.mode.Mode.TheVariants.{Legacy, Unicode, Sets}
use Rattle.rx_ast.specs.Texts.{property_opener}
use Rattle.rx_model.specs.Inputs.Environment.{Environment, is_unicode}
use Rattle.rx_model.specs.Properties.PropertyEscapes.{SpellsProperty, pair, category, binary, of_strings, IsProperty}
use Rattle.rx_model.specs.Properties.PropertyFronts.{before, onward, Meaning, means, unknown, property_read, is_pair, reads_strings, lone_meaning, parts_meaning, text_meaning, property_of, closed_property, braced_property, property_front}
use Rattle.rx_model.specs.Properties.PropertyForms.{begins_property}
use Rattle.rx_model.proofs.Reading.Splits.{TextFront}
use Rattle.rx_model.proofs.Trees.Names.{among, found_among, not_among}

absent : (names : List (List ℕ)) (name : List ℕ) → is_among names name ≡ false → Contains names name → ⊥
absent names name h k = let no : true ≡ false = sym (among names name k) ∙ h in let f : ⊥ = cc no in f

-- none of the characters is this one
abbrev lacks : ℕ → List ℕ → Bool
lacks d w = list_all (λ c. not (c == d)) w

name_lacks : (d : ℕ) (names : List (List ℕ)) (name : List ℕ) → list_all (lacks d) names ≡ true → Contains names name → lacks d name ≡ true
name_lacks d names name h k = All-contains (λ n. lacks d n ≡ true) names name (AllPass-from_list_all (lacks d) names h) k

-- No name has a `=` or a `}`.
abbrev IsPlain : List ℕ → Type 0
IsPlain name = (lacks 61 name ≡ true) × (lacks 125 name ≡ true)

binary_plain : (name : List ℕ) → Contains binary_properties name → IsPlain name
unfolding binary_properties
binary_plain name h = (name_lacks 61 binary_properties name refl h, name_lacks 125 binary_properties name refl h)

category_plain : (name : List ℕ) → Contains general_category_values name → IsPlain name
unfolding general_category_values
category_plain name h = (name_lacks 61 general_category_values name refl h, name_lacks 125 general_category_values name refl h)

strings_plain : (name : List ℕ) → Contains properties_of_strings name → IsPlain name
unfolding properties_of_strings
strings_plain name h = (name_lacks 61 properties_of_strings name refl h, name_lacks 125 properties_of_strings name refl h)

script_plain : (name : List ℕ) → Contains script_values name → IsPlain name
unfolding script_values
script_plain name h = (name_lacks 61 script_values name refl h, name_lacks 125 script_values name refl h)

category_name_plain : (name : List ℕ) → Contains general_category_names name → IsPlain name
unfolding general_category_names
category_name_plain name h = (name_lacks 61 general_category_names name refl h, name_lacks 125 general_category_names name refl h)

script_name_plain : (name : List ℕ) → Contains script_names name → IsPlain name
unfolding script_names
script_name_plain name h = (name_lacks 61 script_names name refl h, name_lacks 125 script_names name refl h)

-- What is before a character and what is from there on.
before_there : (d : ℕ) (w v : List ℕ) → lacks d w ≡ true → before d (w ++ d ∷ v) ≡ w
before_there d [] v h = cond-true (d == d) _ _ (let t : (d == d) ≡ true = grind (arith, nat_tests) in t)
before_there d (c ∷ w) v h = let b = both (not (c == d)) (lacks d w) h in cond-false (c == d) _ _ (not-true _ b.0) ∙ ap (λ w. c ∷ w) (before_there d w v b.1)

onward_there : (d : ℕ) (w v : List ℕ) → lacks d w ≡ true → onward d (w ++ d ∷ v) ≡ d ∷ v
onward_there d [] v h = cond-true (d == d) _ _ (let t : (d == d) ≡ true = grind (arith, nat_tests) in t)
onward_there d (c ∷ w) v h = let b = both (not (c == d)) (lacks d w) h in cond-false (c == d) _ _ (not-true _ b.0) ∙ onward_there d w v b.1

onward_none : (d : ℕ) (w : List ℕ) → lacks d w ≡ true → onward d w ≡ []
onward_none d [] h = refl
onward_none d (c ∷ w) h = let b = both (not (c == d)) (lacks d w) h in cond-false (c == d) _ _ (not-true _ b.0) ∙ onward_none d w b.1

onward_found : (d : ℕ) (w : List ℕ) (c : ℕ) (v : List ℕ) → onward d w ≡ c ∷ v → w ≡ before d w ++ d ∷ v
onward_found d [] c v h = absurd (let no : ⊥ = cc h in no)
onward_found d (x ∷ w) c v h = elim (chosen (x == d) h) [
  | inl p ↦
      let same : w ≡ v = cc p.1 in
      ap₂ (λ x w. x ∷ w) (eqb-true x d p.0) same ∙ ap (λ b. b ++ d ∷ v) (sym (cond-true (x == d) [] (x ∷ before d w) p.0))
  | inr p ↦ ap (λ w. x ∷ w) (onward_found d w c v p.1) ∙ ap (λ b. b ++ d ∷ v) (sym (cond-false (x == d) [] (x ∷ before d w) p.0))
]

-- what a property escape begins with after its backslash
abbrev opening : Bool → ℕ
opening true = 80
opening false = 112

-- The text of a property, read.
module _ (mode : Mode) where
  text_plain : {strings : Bool} {name : List ℕ} {value : Option (List ℕ)} {text : List ℕ} → SpellsProperty mode strings name value text → lacks 125 text ≡ true
  text_plain (pair {name} {value} h) = list_all-append (λ c. not (c == 125)) name (61 ∷ value) ∙ and_from _ _ (pair_name h) (pair_value h)
    where
      pair_name : IsValidUnicodeProperty name value → lacks 125 name ≡ true
      pair_name (inl p) = (category_name_plain name p.0).1
      pair_name (inr p) = (script_name_plain name p.0).1

      pair_value : IsValidUnicodeProperty name value → lacks 125 value ≡ true
      pair_value (inl p) = (category_plain value p.1).1
      pair_value (inr p) = (script_plain value p.1).1
  text_plain (category {value} h) = (category_plain value h).1
  text_plain (binary {name} h k) = (binary_plain name k).1
  text_plain (of_strings {name} m h k l) = (strings_plain name l).1

  pair_read : (name value : List ℕ) → IsValidUnicodeProperty name value → text_meaning mode (name ++ 61 ∷ value) ≡ means false name (Some value)
  pair_read name value h =
      ap₂ (parts_meaning mode (name ++ 61 ∷ value)) (before_there 61 name value (lacks_equals h)) (onward_there 61 name value (lacks_equals h))
      ∙ cond-true (is_pair name value) _ _ (pair_there h)
    where
      lacks_equals : IsValidUnicodeProperty name value → lacks 61 name ≡ true
      lacks_equals (inl p) = (category_name_plain name p.0).0
      lacks_equals (inr p) = (script_name_plain name p.0).0

      pair_there : IsValidUnicodeProperty name value → is_pair name value ≡ true
      pair_there (inl p) = or_left _ _ (and_from _ _ (among general_category_names name p.0) (among general_category_values value p.1))
      pair_there (inr p) = or_right _ _ (and_from _ _ (among script_names name p.0) (among script_values value p.1))

  lone_read : (text : List ℕ) (m : Meaning) → lacks 61 text ≡ true → lone_meaning mode text ≡ m → text_meaning mode text ≡ m
  lone_read text m h k = ap (parts_meaning mode text (before 61 text)) (onward_none 61 text h) ∙ k

  -- spelled → read
  meaning_read : {strings : Bool} {name : List ℕ} {value : Option (List ℕ)} {text : List ℕ} → SpellsProperty mode strings name value text → text_meaning mode text ≡ means strings name value
  meaning_read (pair {name} {value} h) = pair_read name value h
  meaning_read (category {value} h) = lone_read value _ (category_plain value h).0 (cond-true (is_among general_category_values value) _ _ (among general_category_values value h))
  meaning_read (binary {name} h k) =
      lone_read name _ (binary_plain name k).0
      (cond-false (is_among general_category_values name) _ _ (not_among general_category_values name h) ∙ cond-true (is_among binary_properties name) _ _ (among binary_properties name k))
  meaning_read (of_strings {name} m h k l) =
      lone_read name _ (strings_plain name l).0
      (cond-false (is_among general_category_values name) _ _ (not_among general_category_values name h)
      ∙ cond-false (is_among binary_properties name) _ _ (not_among binary_properties name k)
      ∙ cond-true (reads_strings mode && is_among properties_of_strings name) _ _ (and_from _ _ (ap reads_strings m) (among properties_of_strings name l)))

  only_sets : (m : Mode) → reads_strings m ≡ true → m ≡ Sets
  only_sets Legacy h = absurd (let no : ⊥ = cc h in no)
  only_sets Unicode h = absurd (let no : ⊥ = cc h in no)
  only_sets Sets h = refl

  abbrev Spelled : List ℕ → Meaning → Type 0
  Spelled text (means strings name value) = SpellsProperty mode strings name value text
  Spelled text unknown = Unit {0}

  pair_found : (name value : List ℕ) → is_pair name value ≡ true → IsValidUnicodeProperty name value
  pair_found name value h = elim (or_cases _ (is_among script_names name && is_among script_values value) h) [
    | inl p ↦ let b = both (is_among general_category_names name) _ p in inl (found_among general_category_names name b.0, found_among general_category_values value b.1)
    | inr p ↦ let b = both (is_among script_names name) _ p in inr (found_among script_names name b.0, found_among script_values value b.1)
  ]

  lone_found : (text : List ℕ) (m : Meaning) → lone_meaning mode text ≡ m → Spelled text m
  lone_found text m h = elim (chosen (is_among general_category_values text) h) [
    | inl p ↦ subst (Spelled text) p.1 (category (found_among general_category_values text p.0))
    | inr p ↦
        let none = absent general_category_values text p.0 in
        elim (chosen (is_among binary_properties text) p.1) [
          | inl q ↦ subst (Spelled text) q.1 (binary none (found_among binary_properties text q.0))
          | inr q ↦ elim (chosen (reads_strings mode && is_among properties_of_strings text) q.1) [
            | inl r ↦
                let b = both (reads_strings mode) _ r.0 in
                subst (Spelled text) r.1 (of_strings (only_sets mode b.0) none (absent binary_properties text q.0) (found_among properties_of_strings text b.1))
            | inr r ↦ subst (Spelled text) r.1 tt
          ]
        ]
  ]

  parts_found : (text : List ℕ) (m : Meaning) (v : List ℕ) → onward 61 text ≡ v → parts_meaning mode text (before 61 text) v ≡ m → Spelled text m
  parts_found text m [] f h = lone_found text m h
  parts_found text m (c ∷ value) f h = elim (chosen (is_pair (before 61 text) value) h) [
    | inl p ↦ subst (λ t. Spelled t m) (sym (onward_found 61 text c value f)) (subst (Spelled (before 61 text ++ 61 ∷ value)) p.1 (pair (pair_found (before 61 text) value p.0)))
    | inr p ↦ subst (Spelled text) p.1 tt
  ]

  -- read → spelled
  meaning_spelled : (text : List ℕ) (strings : Bool) (name : List ℕ) (value : Option (List ℕ)) → text_meaning mode text ≡ means strings name value → SpellsProperty mode strings name value text
  meaning_spelled text strings name value h = parts_found text (means strings name value) (onward 61 text) refl h

  braced_read : (negative strings : Bool) (name : List ℕ) (value : Option (List ℕ)) (text rest : List ℕ) → SpellsProperty mode strings name value text →
      braced_property mode negative (123 ∷ (text ++ 125 ∷ rest)) ≡ property_read negative strings name value (length text + 3)
  braced_read negative strings name value text rest s =
      ap₂ (closed_property mode negative) (before_there 125 text rest (text_plain s)) (onward_there 125 text rest (text_plain s))
      ∙ ap (property_of negative (length text + 3)) (meaning_read s)

  letter_read : (negative strings : Bool) (name : List ℕ) (value : Option (List ℕ)) (text rest : List ℕ) → SpellsProperty mode strings name value text →
      property_front mode (opening negative ∷ 123 ∷ (text ++ 125 ∷ rest)) ≡ property_read negative strings name value (length text + 3)
  unfolding property_front
  letter_read true strings name value text rest s = braced_read true strings name value text rest s
  letter_read false strings name value text rest s = braced_read false strings name value text rest s

  -- A property escape that is read after a backslash.
  pub record PropertyFront (negative strings : Bool) (name : List ℕ) (value : Option (List ℕ)) (n : ℕ) (w : List ℕ) : Type 0 where
    pub text : List ℕ
    pub rest : List ℕ
    pub spelled : SpellsProperty mode strings name value text
    pub whole : w ≡ opening negative ∷ 123 ∷ (text ++ 125 ∷ rest)
    pub count : length text + 3 ≡ n

  property_there : (negative b strings : Bool) (name : List ℕ) (value : Option (List ℕ)) (text rest : List ℕ) (n : ℕ) (m : Meaning) → text_meaning mode text ≡ m →
      property_of b (length text + 3) m ≡ property_read negative strings name value n → PropertyFront negative strings name value n (opening b ∷ 123 ∷ (text ++ 125 ∷ rest))
  property_there negative b strings name value text rest n unknown f h = absurd (let no : ⊥ = cc h in no)
  property_there negative b strings name value text rest n (means s m v) f h =
      let same : means s m v ≡ means strings name value = cc h in
      let same_negative : b ≡ negative = cc h in
      record {
        text = text;
        rest = rest;
        spelled = meaning_spelled text strings name value (f ∙ same);
        whole = ap (λ b. opening b ∷ 123 ∷ (text ++ 125 ∷ rest)) same_negative;
        count = let same_count : length text + 3 ≡ n = cc h in same_count;
      }

  closed_found : (negative b strings : Bool) (name : List ℕ) (value : Option (List ℕ)) (w : List ℕ) (n : ℕ) (v : List ℕ) → onward 125 w ≡ v →
      closed_property mode b (before 125 w) v ≡ property_read negative strings name value n → PropertyFront negative strings name value n (opening b ∷ 123 ∷ w)
  closed_found negative b strings name value w n [] f h = absurd (let no : ⊥ = cc h in no)
  closed_found negative b strings name value w n (c ∷ rest) f h =
      subst (λ w. PropertyFront negative strings name value n (opening b ∷ 123 ∷ w)) (sym (onward_found 125 w c rest f))
      (property_there negative b strings name value (before 125 w) rest n (text_meaning mode (before 125 w)) refl h)

  braced_found : (negative b strings : Bool) (name : List ℕ) (value : Option (List ℕ)) (n : ℕ) (w : List ℕ) → braced_property mode b w ≡ property_read negative strings name value n →
      PropertyFront negative strings name value n (opening b ∷ w)
  braced_found negative b strings name value n [] h = absurd (let no : ⊥ = cc h in no)
  braced_found negative b strings name value n (c ∷ w) h = elim (chosen (c == 123) h) [
    | inl p ↦ rw (eqb-true c 123 p.0) (closed_found negative b strings name value w n (onward 125 w) refl p.1)
    | inr p ↦ absurd (let no : ⊥ = cc p.1 in no)
  ]

  pub property_spelled : (negative strings : Bool) (name : List ℕ) (value : Option (List ℕ)) (n : ℕ) (w : List ℕ) → property_front mode w ≡ property_read negative strings name value n →
      PropertyFront negative strings name value n w
  unfolding property_front
  property_spelled negative strings name value n [] h = absurd (let no : ⊥ = cc h in no)
  property_spelled negative strings name value n (c ∷ w) h = elim (chosen (c == 112) h) [
    | inl p ↦ rw (eqb-true c 112 p.0) (braced_found negative false strings name value n w p.1)
    | inr p ↦ elim (chosen (c == 80) p.1) [
      | inl q ↦ rw (eqb-true c 80 q.0) (braced_found negative true strings name value n w q.1)
      | inr q ↦ absurd (let no : ⊥ = cc q.1 in no)
    ]
  ]

opener_is : (negative : Bool) (text : List ℕ) → 92 ∷ opening negative ∷ 123 ∷ (text ++ (125 ∷ [])) ≡ property_opener negative ++ (text ++ (125 ∷ []))
opener_is true text = refl
opener_is false text = refl

module _ (e : Environment) where
  -- a property escape, spelled → read
  pub record PropertyRow (negative strings : Bool) (name : List ℕ) (value : Option (List ℕ)) (w rest : List CodePoint) : Type 0 where
    pub letter : ℕ
    pub more : List ℕ
    pub whole : values w ≡ 92 ∷ letter ∷ more
    pub is_letter : begins_property letter ≡ true
    pub read : property_front e.mode (letter ∷ (more ++ values rest)) ≡ property_read negative strings name value (length more + 1)

  row_of : (negative strings : Bool) (name : List ℕ) (value : Option (List ℕ)) (text : List ℕ) (w rest : List CodePoint) → SpellsProperty e.mode strings name value text →
      values w ≡ 92 ∷ opening negative ∷ 123 ∷ (text ++ (125 ∷ [])) → begins_property (opening negative) ≡ true → PropertyRow negative strings name value w rest
  row_of negative strings name value text w rest s h l = record {
    letter = opening negative;
    more = 123 ∷ (text ++ (125 ∷ []));
    whole = h;
    is_letter = l;
    read =
        ap (λ v. property_front e.mode (opening negative ∷ 123 ∷ v)) (append_assoc text (125 ∷ []) (values rest))
        ∙ letter_read e.mode negative strings name value text (values rest) s
        ∙ ap (property_read negative strings name value) (omega (arith, length-append text (125 ∷ [])));
  }

  pub property_row : (negative strings : Bool) (name : List ℕ) (value : Option (List ℕ)) (w rest : List CodePoint) → IsProperty e negative strings name value w → PropertyRow negative strings name value w rest
  property_row true strings name value w rest s = row_of true strings name value s.text w rest s.spelled s.whole refl
  property_row false strings name value w rest s = row_of false strings name value s.text w rest s.spelled s.whole refl

  -- read → spelled
  pub property_text : (negative strings : Bool) (name : List ℕ) (value : Option (List ℕ)) (n : ℕ) (w : List ℕ) → is_unicode e.mode ≡ true → property_front e.mode w ≡ property_read negative strings name value n →
      TextFront (λ v rest. IsProperty e negative strings name value v) (n + 1) (92 ∷ w)
  property_text negative strings name value n w u h =
      let f = property_spelled e.mode negative strings name value n w h in
      record {
        text = 92 ∷ opening negative ∷ 123 ∷ (f.text ++ (125 ∷ []));
        back = f.rest;
        whole = ap (λ w. 92 ∷ w) (f.whole ∙ ap (λ v. opening negative ∷ 123 ∷ v) (sym (append_assoc f.text (125 ∷ []) f.rest)));
        count = omega (arith, f.count, length-append f.text (125 ∷ []));
        spells = λ v rest a b. record { unicode = u; text = f.text; spelled = f.spelled; whole = a ∙ opener_is negative f.text };
      }
