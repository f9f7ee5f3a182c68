-- Answers that are kept as bits, and a row that has them.
use Rattle.std.proofs.Common.{◌≡◌, ◌≢◌, refl, ap, sym, ◌∙◌, ℕ, ◌+◌, ◌-◌, ◌*◌, ◌%◌, ◌^◌, ◌≤◌, ◌<◌, Bool, true, false, ◌==◌, if◌then◌else◌, inl, inr, arith, w64}
use Rattle.std.specs.Prelude.{bit_or, nat_lt}
use Rattle.std.specs.Int.{bit_at}
use Rattle.std.proofs.lemmas.Bool.{cases_eq, ltb-true, ltb-false}
use Rattle.std.proofs.lemmas.Nat.Bits.{bit_at-zero, bit_at_set_same, bit_at_set_other}
use Rattle.rx_program.specs.declared.checks.ClassRow.{ClassRow}
use Rattle.rx_program.specs.Checks.{answer, row_holds}

-- the bits below a number are answers, and no other is set
pub record Answers (word i : ℕ) (holds : ℕ → Bool) : Type 0 where
  pub below : (k : ℕ) → k < i → (bit_at word k == 1) ≡ holds k
  pub above : (k : ℕ) → i ≤ k → bit_at word k ≡ 0

pub answers_none : (holds : ℕ → Bool) → Answers 0 0 holds
answers_none holds = record { below = λ k h. absurd (omega arith); above = λ k h. bit_at-zero k }

module _ (word i : ℕ) (holds : ℕ → Bool) (within : i < 64) (was : Answers word i holds) where
  abbrev set : ℕ
  set = bit_or word (1 * 2 ^ i % 2 ^ 64)

  kept : (k : ℕ) → k ≢ i → bit_at set k ≡ bit_at word k
  kept k other = bit_at_set_other w64 word i within k other

  answers_set : holds i ≡ true → Answers set (i + 1) holds
  answers_set held = record {
    below = λ k h. elim (cases_eq k i) [
      | inl e ↦ ap (λ n. bit_at set n == 1) e ∙ ap (λ b. b == 1) (bit_at_set_same w64 word i within) ∙ sym held ∙ ap holds (sym e)
      | inr other ↦ ap (λ b. b == 1) (kept k other) ∙ was.below k (omega arith)
    ];
    above = λ k h. let other : k ≢ i = omega arith in kept k other ∙ was.above k (omega arith);
  }

  answers_kept : holds i ≡ false → Answers word (i + 1) holds
  answers_kept held = record {
    below = λ k h. elim (cases_eq k i) [
      | inl e ↦ ap (λ n. bit_at word n == 1) e ∙ ap (λ b. b == 1) (was.above i (omega arith)) ∙ sym held ∙ ap holds (sym e)
      | inr other ↦ was.below k (omega arith)
    ];
    above = λ k h. was.above k (omega arith);
  }

  -- with one answer more
  pub answers_on : (b : Bool) → holds i ≡ b → Answers (if b then set else word) (i + 1) holds
  answers_on true held = answers_set held
  answers_on false held = answers_kept held

-- a row holds what its checks hold
pub row_is : (row : ClassRow) → ((k : ℕ) → k < 64 → (bit_at row.low k == 1) ≡ answer row.checks row.first (0 + k)) → ((k : ℕ) → k < 64 → (bit_at row.high k == 1) ≡ answer row.checks row.first (64 + k)) → (c : ℕ) → row_holds row c ≡ answer row.checks row.first c
row_is row low high c = by_tests (nat_lt c 64) (nat_lt c 128) refl refl
  where
    by_tests : (a b : Bool) → nat_lt c 64 ≡ a → nat_lt c 128 ≡ b
        → (if a then bit_at row.low c == 1 else (if b then bit_at row.high (c - 64) == 1 else answer row.checks row.first c)) ≡ answer row.checks row.first c
    by_tests true b first second =
        let same : 0 + c ≡ c = omega arith in
        low c (ltb-true c 64 first) ∙ ap (answer row.checks row.first) same
    by_tests false true first second =
        let from = ltb-false c 64 first in
        let to = ltb-true c 128 second in
        let same : 64 + (c - 64) ≡ c = omega arith in
        high (c - 64) (omega arith) ∙ ap (answer row.checks row.first) same
    by_tests false false first second = refl
