-- How many digits a loop after an opening brace looks at, against the longest run of digits.
use Rattle.std.proofs.Common.{◌≡◌, ℕ, suc, zero, ◌+◌, ◌*◌, ◌/◌, ◌^◌, ◌<◌, ◌≤◌, ◌==◌, Bool, true, false, cond, List, [], ◌∷◌, Option, Some, None, refl, ap, subst, drop, min, is_some, arith, nat_lt}
use Rattle.std.specs.Prelude.{IfSome, if◌then◌else◌}
use Rattle.std.proofs.lemmas.Bool.Decides.{nat_tests}
use Rattle.std.proofs.lemmas.Bool.{eqb-true, le-ltb, lt-ltb}
use Rattle.rx_tables.specs.Characters.{hex_digit_value}
use Rattle.rx_tables.proofs.Digits.{hex_digit_value_small}
use Rattle.rx_units.proofs.Choices.{either_way}
use Rattle.rx_scan.specs.DecodingSteps.{digits_of_run, hex_run, zeros}

-- one more where a unit is a digit, and then those after it unless it passes 32 bits
abbrev pub looked_step : Option ℕ → ℕ → (ℕ → ℕ) → ℕ
looked_step (Some d) n again = if nat_lt (16 * n + d) (2 ^ 32) then 1 + again (16 * n + d) else 1
looked_step None n again = 0

-- the digits that are looked at after those of a number
abbrev pub run_looked : ℕ → List ℕ → ℕ
run_looked n [] = 0
run_looked n (x ∷ xs) = looked_step (hex_digit_value x) n (λ m. run_looked m xs)

-- a number below this fits 32 bits with so many digits more
abbrev room : ℕ → ℕ
room zero = 2 ^ 32
room (suc j) = room j / 16

room_top : (j : ℕ) → room j ≤ 2 ^ 32
room_top zero = omega arith
room_top (suc j) = let more = room_top j in omega arith

-- with so many digits more, and then one that may pass
run_step_least : (j n x : ℕ) (xs : List ℕ) → ((i m : ℕ) → m < room i → min (suc i) (hex_run xs) ≤ run_looked m xs) → (o : Option ℕ) → hex_digit_value x ≡ o → n < room j
    → min (suc j) (cond (is_some o) (1 + hex_run xs) 0) ≤ looked_step o n (λ m. run_looked m xs)
run_step_least j n x xs again None is small = omega arith
run_step_least zero n x xs again (Some d) is small = grind (arith, nat_tests)
run_step_least (suc j) n x xs again (Some d) is small =
    let below : d < 16 = subst (λ o. IfSome o (λ d. d < 16)) is (hex_digit_value_small x) in
    let fits : 16 * n + d < room j = omega arith in
    let passes_not : 16 * n + d < 2 ^ 32 = omega (arith, room_top j) in
    rw (lt-ltb _ _ passes_not) (omega (arith, again j (16 * n + d) fits))

run_least : (w : List ℕ) (j n : ℕ) → n < room j → min (suc j) (hex_run w) ≤ run_looked n w
run_least [] j n small = omega arith
run_least (x ∷ xs) j n small = run_step_least j n x xs (run_least xs) (hex_digit_value x) refl small

-- each is a digit
run_step_within : (n : ℕ) (xs : List ℕ) → ((m : ℕ) → run_looked m xs ≤ hex_run xs) → (o : Option ℕ) → looked_step o n (λ m. run_looked m xs) ≤ cond (is_some o) (1 + hex_run xs) 0
run_step_within n xs again None = omega arith
run_step_within n xs again (Some d) = either_way (λ k. k ≤ 1 + hex_run xs) (nat_lt (16 * n + d) (2 ^ 32)) _ _ (omega (arith, again (16 * n + d))) (omega arith)

run_within : (w : List ℕ) (n : ℕ) → run_looked n w ≤ hex_run w
run_within [] n = omega arith
run_within (x ∷ xs) n = run_step_within n xs (run_within xs) (hex_digit_value x)

room_exact : (j : ℕ) → j < 8 → room j ≡ 16 * room (suc j)
room_exact zero few = refl
room_exact (suc zero) few = refl
room_exact (suc (suc zero)) few = refl
room_exact (suc (suc (suc zero))) few = refl
room_exact (suc (suc (suc (suc zero)))) few = refl
room_exact (suc (suc (suc (suc (suc zero))))) few = refl
room_exact (suc (suc (suc (suc (suc (suc zero)))))) few = refl
room_exact (suc (suc (suc (suc (suc (suc (suc zero))))))) few = refl
room_exact (suc (suc (suc (suc (suc (suc (suc (suc j)))))))) few = absurd (omega arith)

-- a number that does not leave room for so many more
run_step_most : (j n : ℕ) (xs : List ℕ) → ((i m : ℕ) → i < 8 → room (suc i) ≤ m → run_looked m xs ≤ suc i) → (o : Option ℕ) → j < 8 → room (suc j) ≤ n → looked_step o n (λ m. run_looked m xs) ≤ suc j
run_step_most j n xs again None few large = omega arith
run_step_most zero n xs again (Some d) few large = let passes : 2 ^ 32 ≤ 16 * n + d = omega arith in rw (le-ltb _ _ passes) (omega arith)
run_step_most (suc j) n xs again (Some d) few large =
    let next : room (suc j) ≤ 16 * n + d = omega (arith, room_exact (suc j) few) in
    either_way (λ k. k ≤ suc (suc j)) (nat_lt (16 * n + d) (2 ^ 32)) _ _ (omega (arith, again j (16 * n + d) (omega arith) next)) (omega arith)

run_most : (w : List ℕ) (j n : ℕ) → j < 8 → room (suc j) ≤ n → run_looked n w ≤ suc j
run_most [] j n few large = omega arith
run_most (x ∷ xs) j n few large = run_step_most j n xs (run_most xs) (hex_digit_value x) few large

-- a first digit that is no zero
first_most : (xs : List ℕ) (o : Option ℕ) → IfSome o (λ d. 0 < d) → looked_step o 0 (λ m. run_looked m xs) ≤ 9
first_most xs None positive = omega arith
first_most xs (Some d) positive = either_way (λ k. k ≤ 9) (nat_lt (16 * 0 + d) (2 ^ 32)) _ _ (omega (arith, run_most xs 7 (16 * 0 + d) (omega arith) (omega (arith, positive)))) (omega arith)

not_zero : (x : ℕ) → (x == 48) ≡ false → IfSome (hex_digit_value x) (λ d. 0 < d)
not_zero x is = grind (arith, nat_tests)

one_zero_more : (x : ℕ) (xs : List ℕ) (n looked : ℕ) → n + min 9 (hex_run (drop n xs)) ≡ looked → (1 + n) + min 9 (hex_run (drop (1 + n) (x ∷ xs))) ≡ 1 + looked
one_zero_more x xs n looked more =
    let dropped : drop (1 + n) (x ∷ xs) ≡ drop n xs = ap (λ k. drop k (x ∷ xs)) (let next : 1 + n ≡ suc n = omega arith in next) in
    rw dropped (omega arith)

after_zeros : (x : ℕ) (xs : List ℕ) → digits_of_run xs ≡ run_looked 0 xs → (b : Bool) → (x == 48) ≡ b → cond b (1 + zeros xs) 0 + min 9 (hex_run (drop (cond b (1 + zeros xs) 0) (x ∷ xs))) ≡ run_looked 0 (x ∷ xs)
after_zeros x xs more true is = rw (eqb-true x 48 is) (one_zero_more 48 xs (zeros xs) (run_looked 0 xs) more)
after_zeros x xs more false is =
    let least = run_least (x ∷ xs) 8 0 (omega arith) in
    let most : run_looked 0 (x ∷ xs) ≤ 9 = first_most xs (hex_digit_value x) (not_zero x is) in
    let within = run_within (x ∷ xs) 0 in
    omega arith

-- zeros change nothing
pub run_is_looked_at : (w : List ℕ) → digits_of_run w ≡ run_looked 0 w
run_is_looked_at [] = refl
run_is_looked_at (x ∷ xs) = after_zeros x xs (run_is_looked_at xs) (x == 48) refl
