-- Two runs, or two pairs, at the front of one text are one.
use Rattle.std.proofs.Common.{◌≡◌, ℕ, Bool, true, false, List, [], ◌∷◌, ◌++◌, refl, sym, ap, ◌∙◌, subst}
use Rattle.std.specs.List.{list_all}
use Rattle.rx_tables.specs.Characters.{is_unicode_property_name_character, is_unicode_property_value_character}
use Rattle.rx_units.specs.Digits.{front_is}
use Rattle.rx_units.proofs.Choices.{both}
use Rattle.rx_model.specs.Properties.PropertyForms.{HasPair, IsValueRun}

module _ (set : ℕ → Bool) where
  -- two runs of one text that end where the set does are one
  pub same_run : (a r b s : List ℕ) → a ++ r ≡ b ++ s → list_all set a ≡ true → list_all set b ≡ true → front_is set r ≡ false → front_is set s ≡ false → (a ≡ b) × (r ≡ s)
  same_run [] r [] s h all also ends stops = (refl, h)
  same_run [] r (x ∷ b) s h all also ends stops =
      let no : false ≡ true = sym ends ∙ ap (front_is set) h ∙ (both (set x) (list_all set b) also).0 in
      absurd (let no : ⊥ = cc no in no)
  same_run (x ∷ a) r [] s h all also ends stops =
      let no : false ≡ true = sym stops ∙ ap (front_is set) (sym h) ∙ (both (set x) (list_all set a) all).0 in
      absurd (let no : ⊥ = cc no in no)
  same_run (x ∷ a) r (y ∷ b) s h all also ends stops =
      let more = same_run a r b s (let k : a ++ r ≡ b ++ s = cc h in k) (both (set x) (list_all set a) all).1 (both (set y) (list_all set b) also).1 ends stops in
      let first : x ≡ y = cc h in
      (ap (λ x. x ∷ a) first ∙ ap (λ a. y ∷ a) more.0, more.1)

-- two runs of a value's characters are one
pub one_run : {w a r b s : List ℕ} → IsValueRun w a r → IsValueRun w b s → (a ≡ b) × (r ≡ s)
one_run {w} {a} {r} {b} {s} one other = same_run is_unicode_property_value_character a r b s (sym one.whole ∙ other.whole) one.of_values other.of_values one.longest other.longest

-- a name before `=` is the longest run of a name's characters
pub one_name : (w a r b s : List ℕ) → w ≡ a ++ r → list_all is_unicode_property_name_character a ≡ true → front_is is_unicode_property_name_character r ≡ false
    → w ≡ b ++ (61 ∷ s) → list_all is_unicode_property_name_character b ≡ true → (a ≡ b) × (r ≡ 61 ∷ s)
one_name w a r b s whole all ends also_whole also = same_run is_unicode_property_name_character a r b (61 ∷ s) (sym whole ∙ also_whole) all also ends refl

-- Two pairs of one text are one.
pub record IsSamePair (name value following other_name other_value other_after : List ℕ) : Type 0 where
  pub names : name ≡ other_name
  pub values_too : value ≡ other_value
  pub rest : following ≡ other_after

pub one_pair : {w name value following other_name other_value other_after : List ℕ} → HasPair w name value following → HasPair w other_name other_value other_after
    → IsSamePair name value following other_name other_value other_after
one_pair {w} {name} {value} {following} {other_name} {other_value} {other_after} p q =
    let n = one_name w name (61 ∷ p.following) other_name q.following p.whole p.of_names refl q.whole q.of_names in
    let same : p.following ≡ q.following = cc (n.1) in
    let run = subst (λ w. IsValueRun w value following) same p.run in
    let v = one_run run q.run in
    record { names = n.0; values_too = v.0; rest = v.1 }
