-- The canonical text of a property escape, without its opener and its closer, spells the property again.
use Rattle.std.proofs.Common.{◌≡◌, refl, sym, subst, ℕ, ◌==◌, Bool, true, false, not, Option, Some, List, ◌∷◌, ◌++◌, length, Contains, codes, inl, inr}
use Rattle.std.proofs.lemmas.Bool.{cond_both}
use Rattle.std.proofs.lemmas.Slice.Eq.{bytes_eq-Decides}
use Rattle.rx_base.specs.Texts.{are_same}
use Rattle.rx_tables.specs.Properties.{IsValidUnicodeProperty, general_category_values, script_names}
use Rattle.rx_model.specs.declared.mode.Mode.{Mode}
use Rattle.rx_ast.specs.Texts.{property_body}
use Rattle.rx_model.specs.Properties.PropertyEscapes.{SpellsProperty, pair, category, binary, of_strings}
use Rattle.rx_model.proofs.Properties.PropertyWords.{in_table}

-- words that are the same are equal
same_words : (w v : List ℕ) → are_same w v ≡ true → w ≡ v
same_words w v h = (bytes_eq-Decides w v).0 h

-- General_Category is no name of a script
no_script : (name value : List ℕ) → name ≡ codes "General_Category" → IsValidUnicodeProperty name value → Contains general_category_values value
unfolding script_names
no_script name value e h =
    let long : List ℕ → Bool = λ w. not (length w == 16) in
    elim h [
      | inl g ↦ g.1
      | inr s ↦ absurd (let no : ⊥ = cc (subst (λ name. long name ≡ true) e (in_table long script_names name refl s.0)) in no)
    ]

module _ (mode : Mode) where
  -- a name and a value
  pair_again : (name value : List ℕ) → IsValidUnicodeProperty name value → SpellsProperty mode false name (Some value) (property_body name (Some value))
  pair_again name value h =
      cond_both (are_same name (codes "General_Category")) value (name ++ (61 ∷ value)) (SpellsProperty mode false name (Some value))
      (λ same. let e = same_words name (codes "General_Category") same in
      subst (λ name. SpellsProperty mode false name (Some value) value) (sym e) (category (no_script name value e h)))
      (λ _. pair h)

  -- a property
  pub property_again : (strings : Bool) (name : List ℕ) (value : Option (List ℕ)) (text : List ℕ) → SpellsProperty mode strings name value text →
      SpellsProperty mode strings name value (property_body name value)
  property_again _ _ _ _ (pair {name} {value} h) = pair_again name value h
  property_again _ _ _ text (category h) = category h
  property_again _ _ _ text (binary n h) = binary n h
  property_again _ _ _ text (of_strings m n k h) = of_strings m n k h
