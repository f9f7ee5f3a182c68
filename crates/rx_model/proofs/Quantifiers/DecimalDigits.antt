-- Decimal digits as they are read.
use Rattle.std.proofs.Common.{◌≡◌, ℕ, suc, ◌+◌, ◌-◌, ◌*◌, ◌≤◌, inl, inr, true, List, [], ◌∷◌, ◌++◌, length, Some, ap, ◌∙◌, arith}
use Rattle.std.proofs.lemmas.Bool.{cond-true}
use Rattle.std.proofs.lemmas.Option.{option_and_then_some}
use Rattle.rx_tables.specs.Characters.{is_decimal_digit}
use Rattle.rx_units.proofs.Choices.{chosen}
use Rattle.rx_model.specs.Reading.Fronts.{digits, digits_after}
use Rattle.rx_model.specs.Quantifiers.Quantifiers.{decimal_digit_value, decimal_after, AreDigits}

-- a digit and its value
pub digit_there : (c d : ℕ) → decimal_digit_value c ≡ Some d → (is_decimal_digit c ≡ true) × (c - 48 ≡ d)
digit_there c d h = elim (chosen (is_decimal_digit c) h) [
  | inl p ↦ (p.0, (let k : c - 48 ≡ d = cc p.1 in k))
  | inr p ↦ absurd (let k : ⊥ = cc p.1 in k)
]

-- There is a digit.
pub some_length : (n : ℕ) (ds : List ℕ) → AreDigits n ds → (k : ℕ) × (length ds ≡ suc k)
some_length n ds a = (length a.more, ap length a.some)

-- digits only add to a number
pub digits_le : (m count : ℕ) (w : List ℕ) (n end : ℕ) (rest : List ℕ) → digits_after m count w ≡ digits n end rest → m ≤ n
digits_le m count [] n end rest h = let e : m ≡ n = cc h in omega arith
digits_le m count (c ∷ w) n end rest h = elim (chosen (is_decimal_digit c) h) [
  | inl p ↦ let k = digits_le (10 * m + (c - 48)) (count + 1) w n end rest p.1 in omega (arith, k)
  | inr p ↦ let e : m ≡ n = cc p.1 in omega arith
]

-- reading goes on after digits
pub digits_past : (m count : ℕ) (ds rest : List ℕ) (n : ℕ) → decimal_after m ds ≡ Some n → digits_after m count (ds ++ rest) ≡ digits_after n (count + length ds) rest
digits_past m count [] rest n h =
    let same : m ≡ n = cc h in
    ap (λ m. digits_after m count rest) same ∙ ap (λ k. digits_after n k rest) (omega arith)
digits_past m count (c ∷ ds) rest n h =
    option_and_then_some (λ d. decimal_after (10 * m + d) ds) (decimal_digit_value c) n h (λ d e f.
    let t = digit_there c d e in
    cond-true (is_decimal_digit c) _ _ t.0
    ∙ digits_past (10 * m + (c - 48)) (count + 1) ds rest n (rw t.1 f)
    ∙ ap (λ k. digits_after n k rest) (omega arith))
