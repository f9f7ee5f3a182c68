-- The runs of characters that stand after `\p{` and `\P{`, and the pair of a name and a value that is found there.
use Rattle.std.proofs.Common.{◌≡◌, ℕ, ◌+◌, ◌≤◌, ◌&&◌, Bool, true, false, cond, suc, List, [], ◌∷◌, ◌++◌, length, take, drop, refl, sym, ap, ◌∙◌, subst, arith, ◌≢◌, ◌⊎◌, ◌==◌, inl, inr, length-append, length-drop}
use Rattle.rx_class.proofs.Common.{list_all, prefix_len, true≢false, nat_tests, length-map, is_unicode_property_value_character, is_unicode_property_name_character, CodePoint, values}
use Rattle.rx_class.proofs.Common.{front_is, both, HasPair, names_are_values, starts}
use Rattle.std.proofs.lemmas.List.Sums.{prefix_len-le-length}
use Rattle.std.proofs.lemmas.List.{length-take-le}
use Rattle.rx_model.specs.Properties.PropertyForms.{IsValueRun}
use Rattle.rx_model.proofs.Properties.PropertyRuns.{one_name, one_run}

-- The longest run of characters of a set, of n units, and what follows it.
pub record IsRunSplit (set : ℕ → Bool) (us : List CodePoint) (n : ℕ) : Type 0 where
  pub whole : values us ≡ values (take n us) ++ values (drop n us)
  pub inside : list_all set (values (take n us)) ≡ true
  pub longest : front_is set (values (drop n us)) ≡ false

module _ (set : ℕ → Bool) where
  longer : (u : CodePoint) (us : List CodePoint) (n : ℕ) → set u.value ≡ true → IsRunSplit set us n → IsRunSplit set (u ∷ us) (suc n)
  longer u us n h s = record {
    whole = ap (λ vs. u.value ∷ vs) s.whole;
    inside = ap (λ b. b && list_all set (values (take n us))) h ∙ s.inside;
    longest = s.longest;
  }

  split_step : (u : CodePoint) (us : List CodePoint) (n : ℕ) (b : Bool) → set u.value ≡ b → IsRunSplit set us n → IsRunSplit set (u ∷ us) (cond b (1 + n) 0)
  split_step u us n true h s = subst (λ k. IsRunSplit set (u ∷ us) k) (let e : suc n ≡ 1 + n = omega arith in e) (longer u us n h s)
  split_step u us n false h s = record { whole = refl; inside = refl; longest = h }

  pub run_split : (us : List CodePoint) → IsRunSplit set us (prefix_len (λ (u : CodePoint). set u.value) us)
  run_split [] = record { whole = refl; inside = refl; longest = refl }
  run_split (u ∷ us) = split_step u us (prefix_len (λ (u : CodePoint). set u.value) us) (set u.value) refl (run_split us)

-- The run of a value's characters, of n units.
pub value_run : (us a b : List CodePoint) (n : ℕ) → n ≡ prefix_len (λ (u : CodePoint). is_unicode_property_value_character u.value) us → a ≡ take n us → b ≡ drop n us
    → IsValueRun (values us) (values a) (values b)
value_run us a b n count front back =
    let split = subst (λ n. IsRunSplit is_unicode_property_value_character us n) (sym count) (run_split is_unicode_property_value_character us) in
    rw (front, back) record { whole = split.whole; of_values = split.inside; longest = split.longest }

-- a run of units stays within them
pub run_within : (set : ℕ → Bool) (us : List CodePoint) (n : ℕ) → n ≡ prefix_len (λ (u : CodePoint). set u.value) us → n ≤ length us
run_within set us n count = subst (λ n. n ≤ length us) (sym count) (prefix_len-le-length (λ (u : CodePoint). set u.value) us)

-- A run and a pair are within the characters.
pub run_inside : {w run following : List ℕ} → IsValueRun w run following → length run ≤ length w
run_inside {w} {run} {following} is = omega (arith, ap length is.whole, length-append run following)

pub pair_inside : {w name value following : List ℕ} → HasPair w name value following → length name + length value ≤ length w
pair_inside {w} {name} {value} {following} p = omega (arith, ap length p.whole, length-append name (61 ∷ p.following), run_inside p.run)

-- no name and value stand at the front
abbrev pub HasNoPair : List CodePoint → Type 0
HasNoPair us = (name value following : List ℕ) → HasPair (values us) name value following → ⊥

pub no_units : (us : List CodePoint) → (length us == 0) ≡ true → values us ≡ []
no_units [] h = refl
no_units (u ∷ us) h = absurd (grind (arith, nat_tests))

pub some_units : (us : List CodePoint) → (length us == 0) ≡ false → values us ≢ []
some_units [] h e = let no : ⊥ = cc h in no
some_units (u ∷ us) h e = cc e

-- Characters of a value are no longer than the longest run of such at the front.
run_longest : (a b run rest : List ℕ) → list_all is_unicode_property_value_character a ≡ true → a ++ b ≡ run ++ rest → front_is is_unicode_property_value_character rest ≡ false → length a ≤ length run
run_longest [] b run rest all same ends = omega arith
run_longest (c ∷ a) b [] rest all same ends = absurd (true≢false (sym (both _ _ all).0 ∙ ap (front_is is_unicode_property_value_character) same ∙ ends))
run_longest (c ∷ a) b (d ∷ run) rest all same ends = omega (arith, run_longest a b run rest (both _ _ all).1 (let e : a ++ b ≡ run ++ rest = cc same in e) ends)

module _ (us name following : List CodePoint) (n : ℕ) (count : n ≡ prefix_len (λ (u : CodePoint). is_unicode_property_name_character u.value) us) (front : name ≡ take n us) (back : following ≡ drop n us) where
  split : IsRunSplit is_unicode_property_name_character us n
  split = subst (λ n. IsRunSplit is_unicode_property_name_character us n) (sym count) (run_split is_unicode_property_name_character us)

  whole : values us ≡ values name ++ values following
  whole = rw (front, back) split.whole

  all : list_all is_unicode_property_name_character (values name) ≡ true
  all = rw (front) split.inside

  ends : front_is is_unicode_property_name_character (values following) ≡ false
  ends = rw (back) split.longest

  -- the name of a pair is this run, and `=` follows it
  its_name : (a v r : List ℕ) (p : HasPair (values us) a v r) → (values name ≡ a) × (values following ≡ 61 ∷ p.following)
  its_name a v r p = one_name (values us) (values name) (values following) a p.following whole all ends p.whole p.of_names

  pub none_without_equals : starts 61 (values following) ≡ false → HasNoPair us
  none_without_equals other a v r p = let no : true ≡ false = ap (starts 61) (sym (its_name a v r p).1) ∙ other in cc no

  -- a name that is looked at is no longer than the run of a value's characters
  pub name_inside : {run rest : List ℕ} → IsValueRun (values us) run rest → length name ≤ length run
  name_inside {run} {rest} is = omega (arith, run_longest (values name) (values following) run rest (names_are_values (values name) all) (sym whole ∙ is.whole) is.longest, length-map name (λ (u : CodePoint). u.value))

  pub name_count : length name ≡ n
  name_count = rw (front) (length-take-le n us (run_within is_unicode_property_name_character us n count))

  -- What stands after the name and its `=`.
  module _ (more value rest : List CodePoint) (equals : values following ≡ 61 ∷ values more) (is : IsValueRun (values more) (values value) (values rest)) where
    its_run : (a v r : List ℕ) → HasPair (values us) a v r → (values value ≡ v) × (values rest ≡ r)
    its_run a v r p = one_run is (subst (λ w. IsValueRun w v r) (let e : p.following ≡ values more = cc (sym (its_name a v r p).1 ∙ equals) in e) p.run)

    pub looked : n + length value ≤ length us
    looked = omega (
      arith,
      run_inside is,
      ap length equals,
      ap length back,
      length-drop n us,
      length-map following (λ (u : CodePoint). u.value),
      length-map more (λ (u : CodePoint). u.value),
      length-map value (λ (u : CodePoint). u.value),
    )

    pub none_without : (values name ≡ []) ⊎ ((values value ≡ []) ⊎ (values rest ≡ [])) → HasNoPair us
    none_without (inl none) a v r p = p.some_name (sym (its_name a v r p).0 ∙ none)
    none_without (inr (inl none)) a v r p = p.some_value (sym (its_run a v r p).0 ∙ none)
    none_without (inr (inr none)) a v r p = p.goes_on (sym (its_run a v r p).1 ∙ none)

    pub pair_here : (length name == 0) ≡ false → (length value == 0) ≡ false → (length rest == 0) ≡ false → HasPair (values us) (values name) (values value) (values rest)
    pair_here some_name some_value goes_on = record {
      following = values more;
      whole = whole ∙ ap (λ b. values name ++ b) equals;
      of_names = all;
      run = is;
      some_name = some_units name some_name;
      some_value = some_units value some_value;
      goes_on = some_units rest goes_on;
    }

    -- no `}` stands after such a name
    pub unclosed : {run after : List ℕ} → IsValueRun (values us) run after → starts 125 after ≡ true → ⊥
    unclosed run closed =
        let name_run : IsValueRun (values us) (values name) (61 ∷ values more) = record { whole = whole ∙ ap (λ b. values name ++ b) equals; of_values = names_are_values (values name) all; longest = refl } in
        let no : false ≡ true = ap (starts 125) (one_run name_run run).1 ∙ closed in
        cc no
