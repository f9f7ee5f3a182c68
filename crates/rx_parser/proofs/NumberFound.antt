-- The number of the digits that stand next, as they are read.
use Rattle.std.proofs.Common.{◌≡◌, ◌∙◌, refl, sym, nat_le, arith, ◌==◌, ◌<◌, ℕ, ◌+◌, ◌-◌, ◌*◌, ◌^◌, Bool, true, false, List, [], ◌∷◌, drop, inl, inr, min, if◌then◌else◌}
use Rattle.std.proofs.lemmas.Bool.{cases_Bool, cond-false, cond-true, le-leb, leb-false, leb-true, lt-leb}
use Rattle.rx_model.specs.Quantifiers.CountsReading.{counts_read, fitting, no_counts_read, read_after_comma}
use Rattle.rx_model.specs.Reading.Fronts.{counts, counts_after_comma, greatest_of, no_counts}
use Rattle.rx_parser.proofs.Common.{is_decimal_digit, CodePoint, values, are_counts, digits, digits_after, run_number, chosen, starts, values_drop}

-- The digits before a place are read, and their number stands still at the greatest of 32 bits.
pub record NumberRead (us : List CodePoint) (found count : ℕ) : Type 0 where
  pub number : ℕ
  pub read : digits_after number count (values (drop count us)) ≡ digits_after 0 0 (values us)
  pub found_is : found ≡ min number (2 ^ 32 - 1)

-- The number of a run of digits is the one that is read.
pub number_run : (n count : ℕ) (w : List ℕ) (m k : ℕ) (rest : List ℕ) → digits_after n count w ≡ digits m k rest → run_number n w ≡ m
number_run n count [] m k rest h = cc h
number_run n count (c ∷ w) m k rest h = elim (chosen (is_decimal_digit c) h) [
  | inl p ↦ cond-true (is_decimal_digit c) _ _ p.0 ∙ number_run (10 * n + (c - 48)) (count + 1) w m k rest p.1
  | inr p ↦ cond-false (is_decimal_digit c) _ _ p.0 ∙ (let same = p.1 in cc same)
]

-- A number is at most a limit below the greatest of 32 bits where it is so when it stands still there.
pub least_number : (n found limit : ℕ) → found ≡ min n (2 ^ 32 - 1) → limit < 2 ^ 32 - 1 → nat_le found limit ≡ nat_le n limit
least_number n found limit h l = elim (cases_Bool (nat_le n limit)) [
  | inl k ↦ let small = leb-true n limit k in le-leb found limit (omega (arith, h, l, small)) ∙ sym k
  | inr k ↦ let large = leb-false n limit k in lt-leb found limit (omega (arith, h, l, large)) ∙ sym k
]

-- Counts are read after a number and a comma where `}` stands after the digits.
module _ (n count m more : ℕ) (us : List CodePoint) where
  pub counts_closed : are_counts (counts_after_comma n count (digits m more (values (drop more us)))) ≡ starts 125 (drop more (values us))
  counts_closed = rw (values_drop more us) (closed (drop more (values us)))
    where
      by : (b : Bool) → are_counts (if b then counts n (greatest_of more m) (count + more + 3) else no_counts) ≡ b
      by true = refl
      by false = refl

      closed : (w : List ℕ) → are_counts (counts_after_comma n count (digits m more w)) ≡ starts 125 w
      closed [] = refl
      closed (c ∷ w) = by (c == 125)

  pub read_closed : read_after_comma n count (fitting m more (values (drop more us))) ≡ (if starts 125 (drop more (values us)) then counts_read n (greatest_of more m) (count + more + 3) else no_counts_read)
  read_closed = rw (values_drop more us) (closed (drop more (values us)))
    where
      closed : (w : List ℕ) → read_after_comma n count (fitting m more w) ≡ (if starts 125 w then counts_read n (greatest_of more m) (count + more + 3) else no_counts_read)
      closed [] = refl
      closed (c ∷ w) = refl
