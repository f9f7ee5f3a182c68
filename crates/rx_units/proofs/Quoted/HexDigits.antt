-- Hexadecimal digits in braces: how they are read, against what they mean.
use Rattle.std.proofs.Common.{◌≡◌, ℕ, ◌+◌, ◌*◌, ◌^◌, ◌<◌, ◌≤◌, ◌==◌, Bool, true, false, cond, is_some, ◌&&◌, List, [], ◌∷◌, ◌++◌, length, Option, Some, None, refl, sym, ap, ◌∙◌, arith, inl, inr, nat_lt, nat_le, option_and_then}
use Rattle.rx_units.proofs.Common.{nat_tests, eqb-true, ltb-true, leb-true, lt-ltb, ltb-false, le-ltb, option_and_then_some, hex_digit_value, Writing, is_close_brace, escaped, no_unicode, passes, digit_step, digits_at, front_is, hex_after, is_hex_digit, chosen, both, is_none, hex_le}
use Rattle.rx_units.specs.declared.quoted_text.element.Writing.TheVariants as writing

-- digits up to a brace
pub record Run (n count : ℕ) (w : List ℕ) (v : ℕ) (k : Writing) (m : ℕ) : Type 0 where
  pub digits : List ℕ
  pub rest : List ℕ
  pub number : hex_after n digits ≡ Some v
  pub whole : w ≡ digits ++ 125 ∷ rest
  pub top : v ≤ 0x10FFFF
  pub some : 0 < count + length digits
  pub count_is : m ≡ count + length digits + 4
  pub kind_is : k ≡ writing.Unicode

run_found_step : (n count x : ℕ) (xs : List ℕ) (v : ℕ) (k : Writing) (m : ℕ) → ((j : ℕ) → digits_at j (count + 1) xs ≡ escaped v k m → Run j (count + 1) xs v k m) → (o : Option ℕ) → hex_digit_value x ≡ o
    → digit_step o n count x (λ j. digits_at j (count + 1) xs) ≡ escaped v k m → Run n count (x ∷ xs) v k m
run_found_step n count x xs v k m again (Some d) e h = elim (chosen (nat_lt (16 * n + d) (2 ^ 32)) h) [
  | inl p ↦ let r = again (16 * n + d) p.1 in record {
    digits = x ∷ r.digits;
    rest = r.rest;
    number = ap (option_and_then (λ d. hex_after (16 * n + d) r.digits)) e ∙ r.number;
    whole = ap (λ ys. x ∷ ys) r.whole;
    top = r.top;
    some = omega arith;
    count_is = omega (arith, r.count_is);
    kind_is = r.kind_is;
  }
  | inr p ↦ absurd (let no : ⊥ = cc p.1 in no)
]
run_found_step n count x xs v k m again None e h = elim (chosen ((x == 125) && (nat_lt 0 count && nat_le n 0x10FFFF)) h) [
  | inl p ↦
      let q = both (x == 125) _ p.0 in
      let r = both (nat_lt 0 count) _ q.1 in
      let same : (n ≡ v) × (count + 4 ≡ m) = (cc p.1, cc p.1) in
      record {
        digits = [];
        rest = xs;
        number = ap Some same.0;
        whole = ap (λ y. y ∷ xs) (eqb-true x 125 q.0);
        top = omega (arith, ltb-true 0 count r.0, leb-true n 0x10FFFF r.1);
        some = omega (arith, ltb-true 0 count r.0, leb-true n 0x10FFFF r.1);
        count_is = omega arith;
        kind_is = let j : writing.Unicode ≡ k = cc p.1 in sym j;
      }
  | inr p ↦ absurd (let no : ⊥ = cc p.1 in no)
]

pub run_found : (n count : ℕ) (w : List ℕ) (v : ℕ) (k : Writing) (m : ℕ) → digits_at n count w ≡ escaped v k m → Run n count w v k m
run_found n count [] v k m h = absurd (let no : ⊥ = cc h in no)
run_found n count (x ∷ xs) v k m h = run_found_step n count x xs v k m (λ j. run_found j (count + 1) xs v k m) (hex_digit_value x) refl h

pub run_again : (n count : ℕ) (ds rest : List ℕ) (v : ℕ) → hex_after n ds ≡ Some v → v ≤ 0x10FFFF → 0 < count + length ds → digits_at n count (ds ++ 125 ∷ rest) ≡ escaped v writing.Unicode (count + length ds + 4)
run_again n count [] rest v h top some =
    let e : n ≡ v = cc h in
    grind (arith, nat_tests)
run_again n count (x ∷ ds) rest v h top some =
    option_and_then_some (λ d. hex_after (16 * n + d) ds) (hex_digit_value x) v h (λ d e f.
    let k = hex_le (16 * n + d) ds v f in
    let i = run_again (16 * n + d) (count + 1) ds rest v f top (omega arith) in
    ap (λ o. digit_step o n count x (λ m. digits_at m (count + 1) (ds ++ 125 ∷ rest))) e
    ∙ ap (λ b. cond b (digits_at (16 * n + d) (count + 1) (ds ++ 125 ∷ rest)) (passes (count + 3))) (lt-ltb _ _ (let l : 16 * n + d < 2 ^ 32 = omega arith in l))
    ∙ i ∙ ap (escaped v writing.Unicode) (omega arith))

-- digits that pass the limit
pub record Over (n count : ℕ) (w : List ℕ) (m : ℕ) : Type 0 where
  pub digits : List ℕ
  pub next : ℕ
  pub rest : List ℕ
  pub number : ℕ
  pub digit : ℕ
  pub whole : w ≡ digits ++ next ∷ rest
  pub count_is : m ≡ count + length digits + 3
  pub number_is : hex_after n digits ≡ Some number
  pub digit_is : hex_digit_value next ≡ Some digit
  pub fits : number < 2 ^ 32
  pub over : 2 ^ 32 ≤ 16 * number + digit

run_over_step : (n count x : ℕ) (xs : List ℕ) (m : ℕ) → n < 2 ^ 32 → ((k : ℕ) → k < 2 ^ 32 → digits_at k (count + 1) xs ≡ passes m → Over k (count + 1) xs m) → (o : Option ℕ) → hex_digit_value x ≡ o
    → digit_step o n count x (λ k. digits_at k (count + 1) xs) ≡ passes m → Over n count (x ∷ xs) m
run_over_step n count x xs m low again (Some d) e h = elim (chosen (nat_lt (16 * n + d) (2 ^ 32)) h) [
  | inl p ↦ let r = again (16 * n + d) (ltb-true _ _ p.0) p.1 in record {
    digits = x ∷ r.digits;
    next = r.next;
    rest = r.rest;
    number = r.number;
    digit = r.digit;
    whole = ap (λ ys. x ∷ ys) r.whole;
    count_is = omega (arith, r.count_is);
    number_is = ap (option_and_then (λ d. hex_after (16 * n + d) r.digits)) e ∙ r.number_is;
    digit_is = r.digit_is;
    fits = r.fits;
    over = r.over;
  }
  | inr p ↦ record {
    digits = [];
    next = x;
    rest = xs;
    number = n;
    digit = d;
    whole = refl;
    count_is = let k : count + 3 ≡ m = cc p.1 in omega arith;
    number_is = refl;
    digit_is = e;
    fits = low;
    over = ltb-false _ _ p.0;
  }
]
run_over_step n count x xs m low again None e h = elim (chosen ((x == 125) && (nat_lt 0 count && nat_le n 0x10FFFF)) h) [
  | inl p ↦ absurd (let k : ⊥ = cc p.1 in k)
  | inr p ↦ absurd (let k : ⊥ = cc p.1 in k)
]

pub run_over : (n count : ℕ) (w : List ℕ) (m : ℕ) → n < 2 ^ 32 → digits_at n count w ≡ passes m → Over n count w m
run_over n count [] m low h = absurd (let k : ⊥ = cc h in k)
run_over n count (x ∷ xs) m low h = run_over_step n count x xs m low (λ k l. run_over k (count + 1) xs m l) (hex_digit_value x) refl h

pub run_over_again : (n count : ℕ) (ds : List ℕ) (x : ℕ) (rest : List ℕ) (number digit : ℕ) → hex_after n ds ≡ Some number → hex_digit_value x ≡ Some digit → number < 2 ^ 32 → 2 ^ 32 ≤ 16 * number + digit
    → digits_at n count (ds ++ x ∷ rest) ≡ passes (count + length ds + 3)
run_over_again n count [] x rest number digit h e low high =
    let same : n ≡ number = cc h in
    ap (λ o. digit_step o n count x (λ m. digits_at m (count + 1) rest)) e
    ∙ ap (λ b. cond b (digits_at (16 * n + digit) (count + 1) rest) (passes (count + 3))) (le-ltb _ _ (let l : 2 ^ 32 ≤ 16 * n + digit = omega arith in l))
    ∙ ap passes (omega arith)
run_over_again n count (y ∷ ds) x rest number digit h e low high =
    option_and_then_some (λ d. hex_after (16 * n + d) ds) (hex_digit_value y) number h (λ d f g.
    let k = hex_le (16 * n + d) ds number g in
    ap (λ o. digit_step o n count y (λ m. digits_at m (count + 1) (ds ++ x ∷ rest))) f
    ∙ ap (λ b. cond b (digits_at (16 * n + d) (count + 1) (ds ++ x ∷ rest)) (passes (count + 3))) (lt-ltb _ _ (let l : 16 * n + d < 2 ^ 32 = omega arith in l))
    ∙ run_over_again (16 * n + d) (count + 1) ds x rest number digit g e low high
    ∙ ap passes (omega arith))

-- digits, all of them, that make no code point
pub record NoRun (n count : ℕ) (w : List ℕ) (m : ℕ) : Type 0 where
  pub digits : List ℕ
  pub rest : List ℕ
  pub number : ℕ
  pub whole : w ≡ digits ++ rest
  pub count_is : m ≡ count + length digits + 3
  pub number_is : hex_after n digits ≡ Some number
  pub fits : number < 2 ^ 32
  pub all : front_is is_hex_digit rest ≡ false
  pub wrong : 0 < count + length digits → number ≤ 0x10FFFF → front_is is_close_brace rest ≡ false

no_run_step : (n count x : ℕ) (xs : List ℕ) (m : ℕ) → n < 2 ^ 32 → ((k : ℕ) → k < 2 ^ 32 → digits_at k (count + 1) xs ≡ no_unicode m → NoRun k (count + 1) xs m) → (o : Option ℕ) → hex_digit_value x ≡ o
    → digit_step o n count x (λ k. digits_at k (count + 1) xs) ≡ no_unicode m → NoRun n count (x ∷ xs) m
no_run_step n count x xs m low again (Some d) e h = elim (chosen (nat_lt (16 * n + d) (2 ^ 32)) h) [
  | inl p ↦ let r = again (16 * n + d) (ltb-true _ _ p.0) p.1 in record {
    digits = x ∷ r.digits;
    rest = r.rest;
    number = r.number;
    whole = ap (λ ys. x ∷ ys) r.whole;
    count_is = omega (arith, r.count_is);
    number_is = ap (option_and_then (λ d. hex_after (16 * n + d) r.digits)) e ∙ r.number_is;
    fits = r.fits;
    all = r.all;
    wrong = λ some top. r.wrong (omega arith) top;
  }
  | inr p ↦ absurd (let no : ⊥ = cc p.1 in no)
]
no_run_step n count x xs m low again None e h = elim (chosen ((x == 125) && (nat_lt 0 count && nat_le n 0x10FFFF)) h) [
  | inl p ↦ absurd (let no : ⊥ = cc p.1 in no)
  | inr p ↦ record {
    digits = [];
    rest = x ∷ xs;
    number = n;
    whole = refl;
    count_is = let k : count + 3 ≡ m = cc p.1 in omega arith;
    number_is = refl;
    fits = low;
    all = ap is_some e;
    wrong = λ some top. no_brace x count n p.0 (omega arith) top;
  }
]
  where
    no_brace : (x count n : ℕ) → ((x == 125) && (nat_lt 0 count && nat_le n 0x10FFFF)) ≡ false → 0 < count → n ≤ 0x10FFFF → (x == 125) ≡ false
    no_brace x count n h some top = grind (arith, nat_tests)

pub no_run : (n count : ℕ) (w : List ℕ) (m : ℕ) → n < 2 ^ 32 → digits_at n count w ≡ no_unicode m → NoRun n count w m
no_run n count [] m low h = record {
  digits = [];
  rest = [];
  number = n;
  whole = refl;
  count_is = let k : count + 3 ≡ m = cc h in omega arith;
  number_is = refl;
  fits = low;
  all = refl;
  wrong = λ some top. refl;
}
no_run n count (x ∷ xs) m low h = no_run_step n count x xs m low (λ k l. no_run k (count + 1) xs m l) (hex_digit_value x) refl h

brace_fails : (x count n : ℕ) → (0 < count → n ≤ 0x10FFFF → (x == 125) ≡ false) → ((x == 125) && (nat_lt 0 count && nat_le n 0x10FFFF)) ≡ false
brace_fails x count n h = go ((x == 125) && (nat_lt 0 count && nat_le n 0x10FFFF)) refl
  where
    go : (b : Bool) → ((x == 125) && (nat_lt 0 count && nat_le n 0x10FFFF)) ≡ b → b ≡ false
    go false e = refl
    go true e =
        let q = both (x == 125) _ e in
        let r = both (nat_lt 0 count) _ q.1 in
        let no : true ≡ false = sym q.0 ∙ h (ltb-true 0 count r.0) (leb-true n 0x10FFFF r.1) in
        no

pub no_run_again : (n count : ℕ) (ds rest : List ℕ) (number : ℕ) → hex_after n ds ≡ Some number → number < 2 ^ 32 → front_is is_hex_digit rest ≡ false
    → (0 < count + length ds → number ≤ 0x10FFFF → front_is is_close_brace rest ≡ false) → digits_at n count (ds ++ rest) ≡ no_unicode (count + length ds + 3)
no_run_again n count [] [] number h low all wrong = ap no_unicode (omega arith)
no_run_again n count [] (x ∷ xs) number h low all wrong =
    let same : n ≡ number = cc h in
    let fails = brace_fails x count n (λ some top. wrong (omega (arith, some)) (omega (arith, top, same))) in
    ap (λ o. digit_step o n count x (λ m. digits_at m (count + 1) xs)) (is_none (hex_digit_value x) all)
    ∙ ap (λ b. cond b (escaped n writing.Unicode (count + 4)) (no_unicode (count + 3))) fails
    ∙ ap no_unicode (omega arith)
no_run_again n count (y ∷ ds) rest number h low all wrong =
    option_and_then_some (λ d. hex_after (16 * n + d) ds) (hex_digit_value y) number h (λ d f g.
    let k = hex_le (16 * n + d) ds number g in
    ap (λ o. digit_step o n count y (λ m. digits_at m (count + 1) (ds ++ rest))) f
    ∙ ap (λ b. cond b (digits_at (16 * n + d) (count + 1) (ds ++ rest)) (passes (count + 3))) (lt-ltb _ _ (let l : 16 * n + d < 2 ^ 32 = omega arith in l))
    ∙ no_run_again (16 * n + d) (count + 1) ds rest number g low all (λ some top. wrong (omega arith) top)
    ∙ ap no_unicode (omega arith))
