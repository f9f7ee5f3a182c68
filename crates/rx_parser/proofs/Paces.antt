-- How many units at the front stand for themselves, and how many are digits.
use Rattle.std.proofs.Common.{◌≡◌, ◌∙◌, refl, ap, sym, subst, ℕ, zero, suc, ◌+◌, ◌-◌, ◌<◌, ◌≤◌, Bool, true, false, cond, not, inl, inr, Some, List, [], ◌∷◌, length, drop, get_or, arith}
use Rattle.rx_parser.proofs.Common.{cases_Bool, cond-false, cond-true, nat_tests, is_decimal_digit, is_syntax_character, CodePoint, values, digit_run, plain}
use Rattle.rx_units.specs.Cursor.{front}
use Rattle.std.proofs.lemmas.List.Sums.{prefix_len-drop_all, prefix_len-drop_no, prefix_len-drop_yes, prefix_len-le-length}
use Rattle.std.specs.List.{prefix_len}

-- A run of units is one of their values.
run_values : (p : ℕ → Bool) (us : List CodePoint) → prefix_len (λ (u : CodePoint). p u.value) us ≡ prefix_len p (values us)
run_values p [] = refl
run_values p (u ∷ us) = ap (λ n. cond (p u.value) (1 + n) 0) (run_values p us)

digit_values : (us : List CodePoint) → digit_run us ≡ prefix_len is_decimal_digit (values us)
unfolding digit_run
digit_values us = run_values is_decimal_digit us

plain_values : (us : List CodePoint) → plain us ≡ prefix_len (λ c. not (is_syntax_character c)) (values us)
unfolding plain
plain_values us = run_values (λ c. not (is_syntax_character c)) us

pub plain_same : (us vs : List CodePoint) → values us ≡ values vs → plain us ≡ plain vs
plain_same us vs same = plain_values us ∙ ap (prefix_len (λ c. not (is_syntax_character c))) same ∙ sym (plain_values vs)

-- a digit, and those after it
pub run_more : (us vs : List CodePoint) (c : ℕ) → values us ≡ c ∷ values vs → is_decimal_digit c ≡ true → digit_run us ≡ 1 + digit_run vs
run_more us vs c whole digit =
    digit_values us ∙ ap (prefix_len is_decimal_digit) whole ∙ cond-true (is_decimal_digit c) _ _ digit ∙ ap (λ n. 1 + n) (sym (digit_values vs))

pub run_stops : (us : List CodePoint) (c : ℕ) (w : List ℕ) → values us ≡ c ∷ w → is_decimal_digit c ≡ false → digit_run us ≡ 0
run_stops us c w whole other = digit_values us ∙ ap (prefix_len is_decimal_digit) whole ∙ cond-false (is_decimal_digit c) _ _ other

pub run_ends : (us : List CodePoint) (i : ℕ) → length us ≤ i → digit_run (drop i us) ≡ 0
unfolding digit_run
run_ends us i end = prefix_len-drop_all (λ (u : CodePoint). is_decimal_digit u.value) us i end

-- a digit stands first
pub run_begins : (us : List CodePoint) (c : ℕ) → front us ≡ Some c → is_decimal_digit c ≡ true → 1 ≤ digit_run us
run_begins [] c is digit = absurd (let no : ⊥ = cc is in no)
run_begins (u ∷ us) c is digit = let same : u.value ≡ c = cc is in omega (arith, run_more (u ∷ us) us u.value refl (ap is_decimal_digit same ∙ digit))

-- units that stand for themselves from a place on
pub plain_next : (us : List CodePoint) (i : ℕ) (d : CodePoint) → i < length us → is_syntax_character (get_or us i d).value ≡ false → plain (drop i us) ≡ 1 + plain (drop (i + 1) us)
unfolding plain
plain_next us i d inside here = prefix_len-drop_yes (λ (u : CodePoint). not (is_syntax_character u.value)) us i d inside (ap not here)

pub plain_stops : (us : List CodePoint) (i : ℕ) (d : CodePoint) → i < length us → is_syntax_character (get_or us i d).value ≡ true → plain (drop i us) ≡ 0
unfolding plain
plain_stops us i d inside here = prefix_len-drop_no (λ (u : CodePoint). not (is_syntax_character u.value)) us i d inside (ap not here)

pub plain_ends : (us : List CodePoint) (i : ℕ) → length us ≤ i → plain (drop i us) ≡ 0
unfolding plain
plain_ends us i end = prefix_len-drop_all (λ (u : CodePoint). not (is_syntax_character u.value)) us i end

pub plain_within : (us : List CodePoint) → plain us ≤ length us
unfolding plain
plain_within us = prefix_len-le-length (λ (u : CodePoint). not (is_syntax_character u.value)) us

pub run_within : (us : List CodePoint) → digit_run us ≤ length us
unfolding digit_run
run_within us = prefix_len-le-length (λ (u : CodePoint). is_decimal_digit u.value) us

-- a comma stands for itself
pub comma_plain : (us vs : List CodePoint) → values us ≡ 44 ∷ values vs → plain us ≡ 1 + plain vs
comma_plain us vs whole = plain_values us ∙ ap (prefix_len (λ c. not (is_syntax_character c))) whole ∙ ap (λ n. 1 + n) (sym (plain_values vs))

-- a run reaches at most so many units on, and what runs from there
reach : (p : CodePoint → Bool) (us : List CodePoint) (n : ℕ) → prefix_len p us ≤ n + prefix_len p (drop n us)
reach p us zero = omega arith
reach p [] (suc n) = omega arith
reach p (u ∷ us) (suc n) = elim (cases_Bool (p u)) [
  | inl h ↦ let k = reach p us n in omega (arith, k, cond-true (p u) (1 + prefix_len p us) 0 h)
  | inr h ↦ omega (arith, cond-false (p u) (1 + prefix_len p us) 0 h)
]

pub plain_reach : (us : List CodePoint) (n : ℕ) → plain us ≤ n + plain (drop n us)
unfolding plain
plain_reach us n = reach (λ (u : CodePoint). not (is_syntax_character u.value)) us n

pub run_reach : (us : List CodePoint) (n : ℕ) → digit_run us ≤ n + digit_run (drop n us)
unfolding digit_run
run_reach us n = reach (λ (u : CodePoint). is_decimal_digit u.value) us n

-- a digit stands for itself
digit_plain : (c : ℕ) → is_decimal_digit c ≡ true → not (is_syntax_character c) ≡ true
digit_plain c h = grind (arith, nat_tests)

-- what passes a test, and after it what passes a wider one
under : (p q : CodePoint → Bool) → ((u : CodePoint) → p u ≡ true → q u ≡ true) → (us : List CodePoint) → prefix_len p us + prefix_len q (drop (prefix_len p us) us) ≤ prefix_len q us
under p q h [] = omega arith
under p q h (u ∷ us) =
    let Under : ℕ → Type 0 = λ n. n + prefix_len q (drop n (u ∷ us)) ≤ prefix_len q (u ∷ us) in
    elim (cases_Bool (p u)) [
      | inl k ↦
          let next : 1 + prefix_len p us ≡ suc (prefix_len p us) = omega arith in
          let first : prefix_len q (u ∷ us) ≡ 1 + prefix_len q us = cond-true (q u) (1 + prefix_len q us) 0 (h u k) in
          let more = under p q h us in
          subst Under (sym (cond-true (p u) (1 + prefix_len p us) 0 k ∙ next)) (omega (arith, first, more))
      | inr k ↦ subst Under (sym (cond-false (p u) (1 + prefix_len p us) 0 k)) (omega arith)
    ]

-- digits stand for themselves, and so may what stands after them
pub run_plain : (us : List CodePoint) → digit_run us + plain (drop (digit_run us) us) ≤ plain us
unfolding digit_run plain
run_plain us = under (λ (u : CodePoint). is_decimal_digit u.value) (λ (u : CodePoint). not (is_syntax_character u.value)) (λ u. digit_plain u.value) us

pub run_under_plain : (us : List CodePoint) → digit_run us ≤ plain us
run_under_plain us = let k = run_plain us in omega (arith, k)
