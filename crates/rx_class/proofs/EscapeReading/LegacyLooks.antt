-- How escapes are looked at that are escapes with neither `u` nor `v` alone.
use Rattle.std.proofs.Common.{◌≡◌, refl, ap, ℕ, ◌+◌, ◌-◌, ◌*◌, ◌≤◌, cond, List, [], ◌∷◌, inl, inr, arith}
use Rattle.rx_class.proofs.Common.{cases_Bool, cond-false, cond-true, is_decimal_digit, prefix_len, CodePoint, values}
use Rattle.rx_model.specs.Characters.LegacyEscapes.{run_number}

-- further digits make a number no less
pub number_grows : (n : ℕ) (w : List ℕ) → n ≤ run_number n w
number_grows n [] = omega arith
number_grows n (c ∷ w) = elim (cases_Bool (is_decimal_digit c)) [
  | inl h ↦ omega (arith, cond-true (is_decimal_digit c) (run_number (10 * n + (c - 48)) w) n h, number_grows (10 * n + (c - 48)) w)
  | inr h ↦ omega (arith, cond-false (is_decimal_digit c) (run_number (10 * n + (c - 48)) w) n h)
]

-- the digits that units begin with, by their values
pub digit_run : (us : List CodePoint) → prefix_len (λ (u : CodePoint). is_decimal_digit u.value) us ≡ prefix_len is_decimal_digit (values us)
digit_run [] = refl
digit_run (u ∷ us) = ap (λ n. cond (is_decimal_digit u.value) (1 + n) 0) (digit_run us)
