-- Digits in braces: what a turn of the loop that reads them leaves, and how its answers count.
use Rattle.std.proofs.Common.{◌≡◌, ℕ, ◌+◌, ◌*◌, ◌^◌, ◌<◌, ◌≤◌, ◌==◌, ◌&&◌, Bool, true, false, cond, List, [], ◌∷◌, length, Some, None, drop, get_or, map, refl, ap, sym, ◌∙◌, arith, nat_lt, nat_le}
use Rattle.std.proofs.lemmas.List.{at_drop_more, drop_all}
use Rattle.std.proofs.lemmas.Bool.{ltb-true}
use Rattle.rx_base.specs.Rising.{Rises}
use Rattle.rx_tables.specs.Characters.{hex_digit_value}
use Rattle.rx_units.specs.Stored.{values_of}
use Rattle.rx_units.proofs.Choices.{both}
use Rattle.rx_model.specs.Characters.Decoding.{Decoded, invalid, overflow, run_at, run_step, value}
use Rattle.rx_scan.specs.declared.unicode_escape.UnicodeEscape.{UnicodeEscape}
use Rattle.rx_scan.specs.declared.unicode_escape.UnicodeEscape.TheVariants as escape
use Rattle.rx_scan.specs.DecodingSteps.{escape_length, least_digits, most_digits}
use Rattle.rx_scan.specs.EscapeDecoding.{seen_escape}
use Rattle.rx_scan.proofs.LookedDigits.{looked_step, run_looked}
use Rattle.rx_scan.proofs.MarkSteps.{HasStepped}

module _ {Item : Type 0} (value_of : Item → ℕ) (xs : List Item) (i : ℕ) where
  -- what is left begins with the unit of this turn
  pub unit_here : (x : Item) (u : ℕ) → i < length xs → x ≡ get_or xs i x → u ≡ value_of x → values_of value_of (drop i xs) ≡ u ∷ values_of value_of (drop (i + 1) xs)
  unit_here x u within x_is u_is = at_drop_more (map value_of) xs i x within ∙ ap (λ v. v ∷ values_of value_of (drop (i + 1) xs)) (sym (u_is ∙ ap value_of x_is))

  pub none_left : length xs ≤ i → values_of value_of (drop i xs) ≡ []
  none_left past = ap (map value_of) (drop_all i xs past)

fits_not : (fits : Bool) (m : ℕ) → None ≡ cond fits (Some m) None → fits ≡ false
fits_not true m none = absurd (let no : ⊥ = cc none in no)
fits_not false m none = refl

fits_so : (fits : Bool) (m next : ℕ) → Some next ≡ cond fits (Some m) None → (fits ≡ true) × (m ≡ next)
fits_so true m next some = (refl, let same : m ≡ next = cc some in same)
fits_so false m next some = absurd (let no : ⊥ = cc some in no)

-- a digit, after so many that make a number
module _ (left rest : List ℕ) (n i u d : ℕ) (here : left ≡ u ∷ rest) (digit : Some d ≡ hex_digit_value u) where
  digit_read : run_at n i left ≡ cond (nat_lt (16 * n + d) (2 ^ 32)) (run_at (16 * n + d) (i + 1) rest) (overflow i)
  digit_read = ap (run_at n i) here ∙ ap (λ o. run_step o n i u (λ m. run_at m (i + 1) rest)) (sym digit)

  digit_looked : run_looked n left ≡ cond (nat_lt (16 * n + d) (2 ^ 32)) (1 + run_looked (16 * n + d) rest) 1
  digit_looked = ap (run_looked n) here ∙ ap (λ o. looked_step o n (λ m. run_looked m rest)) (sym digit)

  pub passes_read : (whole : Decoded) → run_at n i left ≡ whole → None ≡ cond (nat_lt (16 * n + d) (2 ^ 32)) (Some (16 * n + d)) None → overflow i ≡ whole
  passes_read whole read none =
      sym (ap (λ b. cond b (run_at (16 * n + d) (i + 1) rest) (overflow i)) (fits_not _ (16 * n + d) none)) ∙ sym digit_read ∙ read

  pub passes_looked : (all : ℕ) → all ≡ i + run_looked n left → None ≡ cond (nat_lt (16 * n + d) (2 ^ 32)) (Some (16 * n + d)) None → all ≡ i + 1
  passes_looked all looked none =
      looked ∙ ap (λ k. i + k) (digit_looked ∙ ap (λ b. cond b (1 + run_looked (16 * n + d) rest) 1) (fits_not _ (16 * n + d) none))

  module _ (next : ℕ) (some : Some next ≡ cond (nat_lt (16 * n + d) (2 ^ 32)) (Some (16 * n + d)) None) where
    pub again_read : (whole : Decoded) → run_at n i left ≡ whole → run_at next (i + 1) rest ≡ whole
    again_read whole read =
        let fits = fits_so _ (16 * n + d) next some in
        ap (λ m. run_at m (i + 1) rest) (sym fits.1) ∙ sym (ap (λ b. cond b (run_at (16 * n + d) (i + 1) rest) (overflow i)) fits.0) ∙ sym digit_read ∙ read

    pub again_looked : (all : ℕ) → all ≡ i + run_looked n left → all ≡ i + 1 + run_looked next rest
    again_looked all looked =
        let fits = fits_so _ (16 * n + d) next some in
        let one : run_looked n left ≡ 1 + run_looked (16 * n + d) rest = digit_looked ∙ ap (λ b. cond b (1 + run_looked (16 * n + d) rest) 1) fits.0 in
        let more : run_looked (16 * n + d) rest ≡ run_looked next rest = ap (λ m. run_looked m rest) fits.1 in
        omega (arith, looked, one, more)

-- whether digits end in a brace, with a number that a code point may have
abbrev pub ends_well : ℕ → ℕ → ℕ → Bool
ends_well n i u = (u == 125) && (nat_lt 0 i && nat_le n 0x10FFFF)

-- a unit that is no digit
module _ (left rest : List ℕ) (n i u : ℕ) (here : left ≡ u ∷ rest) (none : None ≡ hex_digit_value u) where
  pub ended_read : (whole : Decoded) → run_at n i left ≡ whole → cond (ends_well n i u) (value n (i + 3)) invalid ≡ whole
  ended_read whole read = ap (λ o. run_step o n i u (λ m. run_at m (i + 1) rest)) none ∙ sym (ap (run_at n i) here) ∙ read

  pub ended_looked : (all : ℕ) → all ≡ i + run_looked n left → all ≡ i + 0
  ended_looked all looked = looked ∙ ap (λ k. i + k) (ap (run_looked n) here ∙ sym (ap (λ o. looked_step o n (λ m. run_looked m rest)) none))

-- the steps of the turns before, and of one more
module _ (old middle new i : ℕ) (turns : HasStepped old middle i) (ticked : new ≡ middle + 1) where
  pub one_more : HasStepped old new (i + 1)
  one_more = omega (arith, turns, ticked)

  pub passes_rises : Rises old new i (i + 1)
  passes_rises = (omega (arith, turns, ticked), omega (arith, turns, ticked))

  pub not_fewer : 0 + 2 * old ≤ 2 * new
  not_fewer = omega (arith, turns, ticked)

  pub within_one : (all looked : ℕ) → looked ≤ 1 → all ≡ i + looked → Rises old new all (all + 1)
  within_one all looked small all_is = (omega (arith, turns, ticked, small, all_is), omega (arith, turns, ticked, small, all_is))

  ended_rises : (b : Bool) (n units : ℕ) (e : UnicodeEscape) → i < units → seen_escape e ≡ cond b (value n (i + 3)) invalid → Rises old new (least_digits e) (most_digits true units e)
  ended_rises true n units (escape.Value v k) within seen = let same : k ≡ i + 3 = cc seen in (omega (arith, turns, ticked, same), omega (arith, turns, ticked, same))
  ended_rises true n units escape.Invalid within seen = absurd (let no : ⊥ = cc seen in no)
  ended_rises true n units (escape.Overflow k) within seen = absurd (let no : ⊥ = cc seen in no)
  ended_rises false n units (escape.Value v k) within seen = absurd (let no : ⊥ = cc seen in no)
  ended_rises false n units escape.Invalid within seen = (omega (arith, turns, ticked), omega (arith, turns, ticked, within))
  ended_rises false n units (escape.Overflow k) within seen = absurd (let no : ⊥ = cc seen in no)

  ended_half : (b : Bool) (n : ℕ) (e : UnicodeEscape) → (b ≡ true → 0 < i) → seen_escape e ≡ cond b (value n (i + 3)) invalid → escape_length e + 2 * old ≤ 2 * new
  ended_half true n (escape.Value v k) some seen = let same : k ≡ i + 3 = cc seen in omega (arith, turns, ticked, same, some refl)
  ended_half true n escape.Invalid some seen = absurd (let no : ⊥ = cc seen in no)
  ended_half true n (escape.Overflow k) some seen = absurd (let no : ⊥ = cc seen in no)
  ended_half false n (escape.Value v k) some seen = absurd (let no : ⊥ = cc seen in no)
  ended_half false n escape.Invalid some seen = not_fewer
  ended_half false n (escape.Overflow k) some seen = absurd (let no : ⊥ = cc seen in no)

  module _ (n u : ℕ) (e : UnicodeEscape) (seen : seen_escape e ≡ cond (ends_well n i u) (value n (i + 3)) invalid) where
    pub answer_rises : (units : ℕ) → i < units → Rises old new (least_digits e) (most_digits true units e)
    answer_rises units within = ended_rises (ends_well n i u) n units e within seen

    pub answer_half : escape_length e + 2 * old ≤ 2 * new
    answer_half = ended_half (ends_well n i u) n e (λ well. ltb-true 0 i (both (nat_lt 0 i) _ (both (u == 125) _ well).1).0) seen

-- where no unit is left
pub unended_read : (left : List ℕ) (n i : ℕ) (whole : Decoded) → left ≡ [] → run_at n i left ≡ whole → invalid ≡ whole
unended_read left n i whole none read = sym (ap (run_at n i) none) ∙ read

pub unended_looked : (left : List ℕ) (n old new i all : ℕ) → left ≡ [] → HasStepped old new i → all ≡ i + run_looked n left → Rises old new all (all + 1)
unended_looked left n old new i all none turns looked =
    let all_is : all ≡ i + 0 = looked ∙ ap (λ w. i + run_looked n w) none in
    (omega (arith, turns, all_is), omega (arith, turns, all_is))
