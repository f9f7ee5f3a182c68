-- The bits of letters of modifiers.
use Rattle.std.proofs.Common.{◌≡◌, refl, sym, ap, ap₂, ◌∙◌, ℕ, ◌+◌, ◌*◌, ◌^◌, ◌<◌, Bool, true, false, cond, ◌==◌, ◌&&◌, ◌||◌, List, [], ◌∷◌, bit_and, bit_or, arith, inl, inr}
use Rattle.std.specs.List.{list_all}
use Rattle.std.proofs.lemmas.Bool.{eqb-true, or_parts, or_from, or_left, or_right, or_cases, and_parts, false_from_ne_true, true_from_ne_false, true≢false}
use Rattle.std.proofs.lemmas.Nat.{and_block, or_block}
use Rattle.std.proofs.lemmas.Bool.Decides.{nat_tests}
use Rattle.rx_model.specs.Groups.Modifiers.{is_modifier, occurs, share_some, letters_bits}

-- the number of three bits
abbrev pub three : Bool → Bool → Bool → ℕ
three i m s = cond i 1 0 + cond m 2 0 + cond s 4 0

abbrev one : Bool → ℕ
one b = cond b 1 0

one_small : (b : Bool) → one b < 2 ^ 1
one_small true = omega arith
one_small false = omega arith

one_and : (a b : Bool) → bit_and (one a) (one b) ≡ one (a && b)
one_and true true = refl
one_and true false = refl
one_and false true = refl
one_and false false = refl

one_or : (a b : Bool) → bit_or (one a) (one b) ≡ one (a || b)
one_or true true = refl
one_or true false = refl
one_or false true = refl
one_or false false = refl

packed : (i m s : Bool) → three i m s ≡ (one s * 2 ^ 1 + one m) * 2 ^ 1 + one i
packed true true true = refl
packed true true false = refl
packed true false true = refl
packed true false false = refl
packed false true true = refl
packed false true false = refl
packed false false true = refl
packed false false false = refl

-- bit by bit
pub and_three : (i m s j n t : Bool) → bit_and (three i m s) (three j n t) ≡ three (i && j) (m && n) (s && t)
and_three i m s j n t =
    ap₂ bit_and (packed i m s) (packed j n t)
    ∙ and_block 1 (one s * 2 ^ 1 + one m) (one t * 2 ^ 1 + one n) (one i) (one j) (one_small i) (one_small j)
    ∙ ap₂ (λ a b. a * 2 ^ 1 + b) (and_block 1 (one s) (one t) (one m) (one n) (one_small m) (one_small n) ∙ ap₂ (λ a b. a * 2 ^ 1 + b) (one_and s t) (one_and m n)) (one_and i j)
    ∙ sym (packed (i && j) (m && n) (s && t))

pub or_three : (i m s j n t : Bool) → bit_or (three i m s) (three j n t) ≡ three (i || j) (m || n) (s || t)
or_three i m s j n t =
    ap₂ bit_or (packed i m s) (packed j n t)
    ∙ or_block 1 (one s * 2 ^ 1 + one m) (one t * 2 ^ 1 + one n) (one i) (one j) (one_small i) (one_small j)
    ∙ ap₂ (λ a b. a * 2 ^ 1 + b) (or_block 1 (one s) (one t) (one m) (one n) (one_small m) (one_small n) ∙ ap₂ (λ a b. a * 2 ^ 1 + b) (one_or s t) (one_or m n)) (one_or i j)
    ∙ sym (packed (i || j) (m || n) (s || t))

pub three_zero : (i m s : Bool) → three i m s ≡ 0 → (i ≡ false) × (m ≡ false) × (s ≡ false)
three_zero true true true h = absurd (omega (arith, h))
three_zero true true false h = absurd (omega (arith, h))
three_zero true false true h = absurd (omega (arith, h))
three_zero true false false h = absurd (omega (arith, h))
three_zero false true true h = absurd (omega (arith, h))
three_zero false true false h = absurd (omega (arith, h))
three_zero false false true h = absurd (omega (arith, h))
three_zero false false false h = (refl, refl, refl)

three_small : (i m s : Bool) → three i m s < 8
three_small true true true = omega arith
three_small true true false = omega arith
three_small true false true = omega arith
three_small true false false = omega arith
three_small false true true = omega arith
three_small false true false = omega arith
three_small false false true = omega arith
three_small false false false = omega arith

pub bits_small : (w : List ℕ) → letters_bits w < 8
bits_small w = three_small (occurs 105 w) (occurs 109 w) (occurs 115 w)

pub modifier_is : (c : ℕ) → is_modifier c ≡ (c == 105 || c == 109 || c == 115)
modifier_is c = grind (arith, nat_tests)

-- Letters without bits are none.
pub no_letters : (w : List ℕ) → list_all is_modifier w ≡ true → letters_bits w ≡ 0 → w ≡ []
no_letters [] h k = refl
no_letters (c ∷ w) h k =
    let none = three_zero (occurs 105 (c ∷ w)) (occurs 109 (c ∷ w)) (occurs 115 (c ∷ w)) k in
    let i = or_parts (c == 105) (occurs 105 w) none.0 in
    let m = or_parts (c == 109) (occurs 109 w) none.1 in
    let s = or_parts (c == 115) (occurs 115 w) none.2 in
    absurd (true≢false (sym (and_parts (is_modifier c) (list_all is_modifier w) h).0 ∙ modifier_is c ∙ or_from (c == 105 || c == 109) (c == 115) (or_from (c == 105) (c == 109) i.0 m.0) s.0))

-- a letter on both sides
shared : (d : ℕ) (w v : List ℕ) → occurs d w ≡ true → occurs d v ≡ true → share_some w v ≡ true
shared d [] v h k = absurd (true≢false (sym h))
shared d (c ∷ w) v h k = elim (or_cases (c == d) (occurs d w) h) [
  | inl same ↦ or_left (occurs c v) (share_some w v) (ap (λ c. occurs c v) (eqb-true c d same) ∙ k)
  | inr there ↦ or_right (occurs c v) (share_some w v) (shared d w v there k)
]

unshared : (d : ℕ) (w v : List ℕ) → share_some w v ≡ false → (occurs d w && occurs d v) ≡ false
unshared d w v h = false_from_ne_true (occurs d w && occurs d v) (λ both. let p = and_parts (occurs d w) (occurs d v) both in true≢false (sym (shared d w v p.0 p.1) ∙ h))

apart : (w v : List ℕ) → share_some w v ≡ false → bit_and (letters_bits w) (letters_bits v) ≡ 0
apart w v h =
    and_three (occurs 105 w) (occurs 109 w) (occurs 115 w) (occurs 105 v) (occurs 109 v) (occurs 115 v)
    ∙ ap (λ i. three i (occurs 109 w && occurs 109 v) (occurs 115 w && occurs 115 v)) (unshared 105 w v h)
    ∙ ap₂ (three false) (unshared 109 w v h) (unshared 115 w v h)

-- Where bits are common a letter is.
pub share : (w v : List ℕ) → (bit_and (letters_bits w) (letters_bits v) ≡ 0 → ⊥) → share_some w v ≡ true
share w v h = true_from_ne_false (share_some w v) (λ none. h (apart w v none))
