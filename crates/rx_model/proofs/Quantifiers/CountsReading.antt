-- The counts that are read where numbers have 64 bits: those that stand, or where the limit is passed.
use Rattle.std.proofs.Common.{◌≡◌, refl, sym, ap, ◌∙◌, subst, ℕ, zero, suc, ◌+◌, ◌-◌, ◌*◌, ◌^◌, ◌<◌, ◌≤◌, ◌==◌, ◌⊎◌, inl, inr, Bool, true, false, List, [], ◌∷◌, ◌++◌, length, Option, Some, None, option_and_then, cond, nat_lt, length-append, arith}
use Rattle.std.proofs.lemmas.Bool.{cond-true, cond-false, eqb-true, lt-ltb, le-ltb, ltb-true, ltb-false, true≢false}
use Rattle.std.proofs.lemmas.Option.{option_and_then_some}
use Rattle.rx_tables.specs.Characters.{is_decimal_digit}
use Rattle.rx_units.specs.declared.code_point.CodePoint.{CodePoint}
use Rattle.rx_units.specs.Units.{values}
use Rattle.rx_units.proofs.Choices.{chosen}
use Rattle.rx_model.specs.FirstPass.Marks.{starts}
use Rattle.rx_model.specs.Reading.Fronts.{digits, digits_after, Counts, counts, no_counts, counts_at, counts_in_braces, counts_after_comma}
use Rattle.rx_model.specs.Quantifiers.CountsReading.{DigitsRead, fitting, passing, digits_read_at, CountsRead, counts_read, no_counts_read, many_digits, read_after_comma, read_after_least, read_in_braces, counts_read_at}
use Rattle.rx_model.specs.Quantifiers.Quantifiers.{BeginsWithBraces, decimal_digit_value, decimal_after, AreDigits, SpellsBraces, SpellsCounts, star, plus, optional, braces, PassesDecimal, PassesLimit, first, second}
use Rattle.rx_model.specs.Refusals.Causes.{HasBraces, IsOutOfOrder, IsTooLarge}
use Rattle.rx_model.proofs.Quantifiers.DecimalDigits.{digit_there}
use Rattle.rx_model.proofs.Quantifiers.Quantifiers.{counts_spelled}

-- What is said of digits after a number and n digits, by what they are read as: those that stand next, or the digits up to the one that
-- passes the limit.
pub record Fits (m count : ℕ) (w : List ℕ) (n end : ℕ) (rest : List ℕ) : Type 0 where
  pub read : digits_after m count w ≡ digits n end rest
  pub small : n < 2 ^ 64
  pub run : List ℕ
  pub whole : w ≡ run ++ rest
  pub number : decimal_after m run ≡ Some n
  pub count_is : end ≡ count + length run

pub record Passes (m count : ℕ) (w : List ℕ) (many : ℕ) : Type 0 where
  pub ahead : List ℕ
  pub next : ℕ
  pub following : List ℕ
  pub whole : w ≡ ahead ++ (next ∷ following)
  pub count_is : many ≡ count + length ahead
  pub number : ℕ
  pub number_is : decimal_after m ahead ≡ Some number
  pub digit_is : decimal_digit_value next ≡ Some (next - 48)
  pub fits : number < 2 ^ 64
  pub passes : 2 ^ 64 ≤ 10 * number + (next - 48)

abbrev pub SaysDigits : ℕ → ℕ → List ℕ → DigitsRead → Type 0
SaysDigits m count w (fitting n end rest) = Fits m count w n end rest
SaysDigits m count w (passing many) = Passes m count w many

one_more : (m count c : ℕ) (w : List ℕ) (r : DigitsRead) → is_decimal_digit c ≡ true → SaysDigits (10 * m + (c - 48)) (count + 1) w r → SaysDigits m count (c ∷ w) r
one_more m count c w (fitting n end rest) d f = record {
  read = cond-true (is_decimal_digit c) _ _ d ∙ f.read;
  small = f.small;
  run = c ∷ f.run;
  whole = ap (λ w. c ∷ w) f.whole;
  number = ap (option_and_then (λ y. decimal_after (10 * m + y) f.run)) (cond-true (is_decimal_digit c) (Some (c - 48)) None d) ∙ f.number;
  count_is = omega (arith, f.count_is);
}
one_more m count c w (passing many) d p = record {
  ahead = c ∷ p.ahead;
  next = p.next;
  following = p.following;
  whole = ap (λ w. c ∷ w) p.whole;
  count_is = omega (arith, p.count_is);
  number = p.number;
  number_is = ap (option_and_then (λ y. decimal_after (10 * m + y) p.ahead)) (cond-true (is_decimal_digit c) (Some (c - 48)) None d) ∙ p.number_is;
  digit_is = p.digit_is;
  fits = p.fits;
  passes = p.passes;
}

pub digits_said : (m count : ℕ) (w : List ℕ) (r : DigitsRead) → m < 2 ^ 64 → digits_read_at m count w ≡ r → SaysDigits m count w r
digits_said m count [] r s h = subst (SaysDigits m count []) h (record {
  read = refl;
  small = s;
  run = [];
  whole = refl;
  number = refl;
  count_is = omega arith;
})
digits_said m count (c ∷ w) r s h = elim (chosen (is_decimal_digit c) h) [
  | inl p ↦ elim (chosen (nat_lt (10 * m + (c - 48)) (2 ^ 64)) p.1) [
    | inl q ↦ one_more m count c w r p.0 (digits_said (10 * m + (c - 48)) (count + 1) w r (ltb-true _ _ q.0) q.1)
    | inr q ↦ subst (SaysDigits m count (c ∷ w)) q.1 (record {
      ahead = [];
      next = c;
      following = w;
      whole = refl;
      count_is = omega arith;
      number = m;
      number_is = refl;
      digit_is = cond-true (is_decimal_digit c) (Some (c - 48)) None p.0;
      fits = s;
      passes = ltb-false _ _ q.0;
    })
  ]
  | inr p ↦ subst (SaysDigits m count (c ∷ w)) p.1 (record {
    read = cond-false (is_decimal_digit c) _ _ p.0;
    small = s;
    run = [];
    whole = refl;
    number = refl;
    count_is = omega arith;
  })
]

-- What a reading says of a text whose counts, of any size, are these.
abbrev pub Says : List ℕ → Counts → CountsRead → Type 0
Says w all (counts_read min max n) = all ≡ counts min max n
Says w all no_counts_read = all ≡ no_counts
Says w all (many_digits start many) = PassesLimit w start many

-- one of two readings
either_said : (w : List ℕ) (all : Counts) (b : Bool) (x y : CountsRead) → (b ≡ true → Says w all x) → (b ≡ false → Says w all y) → Says w all (cond b x y)
either_said w all true x y f g = f refl
either_said w all false x y f g = g refl

decimal : {w : List ℕ} {many : ℕ} (p : Passes 0 0 w many) → PassesDecimal p.ahead p.next
decimal p = record {
  number = p.number;
  digit = p.next - 48;
  number_is = p.number_is;
  digit_is = p.digit_is;
  fits = p.fits;
  passes = p.passes;
}

first_said : (v : List ℕ) (many : ℕ) → Passes 0 0 v many → PassesLimit (123 ∷ v) 1 many
first_said v many p =
    subst (λ w. PassesLimit (123 ∷ w) 1 many) (sym p.whole)
    (subst (PassesLimit (123 ∷ (p.ahead ++ p.next ∷ p.following)) 1) (let l : length p.ahead ≡ many = omega (arith, p.count_is) in l) (first p.ahead p.next p.following (decimal p)))

second_said : (v w : List ℕ) (n k many : ℕ) → Fits 0 0 v n (suc k) (44 ∷ w) → Passes 0 0 w many → PassesLimit (123 ∷ v) (suc k + 2) many
second_said v w n k many f p =
    let end : List ℕ = p.ahead ++ (p.next ∷ p.following) in
    let all : f.run ++ (44 ∷ end) ≡ v = sym (f.whole ∙ ap (λ x. f.run ++ (44 ∷ x)) p.whole) in
    let start : length f.run + 2 ≡ suc k + 2 = omega (arith, f.count_is) in
    let count : length p.ahead ≡ many = omega (arith, p.count_is) in
    subst (λ x. PassesLimit (123 ∷ x) (suc k + 2) many) all
    (subst (λ x. PassesLimit (123 ∷ (f.run ++ (44 ∷ end))) x many) start
    (subst (PassesLimit (123 ∷ (f.run ++ (44 ∷ end))) (length f.run + 2)) count
    (second f.run p.ahead p.next p.following (some_digits f.run f.number (omega (arith, f.count_is))) f.small (decimal p))))
  where
    some_digits : (run : List ℕ) → decimal_after 0 run ≡ Some n → 0 < length run → AreDigits n run
    some_digits [] h l = absurd (omega arith)
    some_digits (d ∷ ds) h l = record {
      first = d;
      more = ds;
      some = refl;
      number = h;
    }

comma_said : (v w : List ℕ) (n k : ℕ) → Fits 0 0 v n (suc k) (44 ∷ w) → (d : DigitsRead) → SaysDigits 0 0 w d → Says (123 ∷ v) (counts_in_braces (digits_after 0 0 v)) (read_after_comma n (suc k) d)
comma_said v w n k f (passing many) p = second_said v w n k many f p
comma_said v w n k f (fitting m more []) g = ap counts_in_braces f.read ∙ ap (counts_after_comma n (suc k)) g.read
comma_said v w n k f (fitting m more (c ∷ x)) g =
    let front = ap counts_in_braces f.read ∙ ap (counts_after_comma n (suc k)) g.read in
    either_said (123 ∷ v) (counts_in_braces (digits_after 0 0 v)) (c == 125) _ _ (λ t. front ∙ cond-true (c == 125) _ _ t) (λ t. front ∙ cond-false (c == 125) _ _ t)

least_said : (v : List ℕ) (n end : ℕ) (rest : List ℕ) → Fits 0 0 v n end rest → Says (123 ∷ v) (counts_in_braces (digits_after 0 0 v)) (read_after_least n end rest)
least_said v n zero rest f = ap counts_in_braces f.read
least_said v n (suc k) [] f = ap counts_in_braces f.read
least_said v n (suc k) (c ∷ w) f =
    let all = counts_in_braces (digits_after 0 0 v) in
    let front = ap counts_in_braces f.read in
    either_said (123 ∷ v) all (c == 125) _ _ (λ t. front ∙ cond-true (c == 125) _ _ t) (λ t. either_said (123 ∷ v) all (c == 44) _ _
    (λ s. comma_said v w n k (subst (λ c. Fits 0 0 v n (suc k) (c ∷ w)) (eqb-true c 44 s) f) (digits_read_at 0 0 w) (digits_said 0 0 w _ (omega arith) refl))
    (λ s. front ∙ cond-false (c == 125) _ _ t ∙ cond-false (c == 44) _ _ s))

braces_said : (v : List ℕ) (d : DigitsRead) → SaysDigits 0 0 v d → Says (123 ∷ v) (counts_in_braces (digits_after 0 0 v)) (read_in_braces d)
braces_said v (passing many) p = first_said v many p
braces_said v (fitting n end rest) f = least_said v n end rest f

-- What is read holds: the counts that stand next, or that none do, or where digits pass the limit.
pub counts_said : (w : List ℕ) → Says w (counts_at w) (counts_read_at w)
unfolding counts_at counts_read_at
counts_said [] = refl
counts_said (c ∷ w) =
    let all = counts_at (c ∷ w) in
    either_said (c ∷ w) all (c == 42) _ _ (λ t. cond-true (c == 42) _ _ t) (λ star. either_said (c ∷ w) all (c == 43) _ _ (λ t. cond-false (c == 42) _ _ star ∙ cond-true (c == 43) _ _ t) (λ plus.
    either_said (c ∷ w) all (c == 63) _ _ (λ t. cond-false (c == 42) _ _ star ∙ cond-false (c == 43) _ _ plus ∙ cond-true (c == 63) _ _ t) (λ question.
    let no_unit = cond-false (c == 42) _ _ star ∙ cond-false (c == 43) _ _ plus ∙ cond-false (c == 63) _ _ question in
    either_said (c ∷ w) all (c == 123) _ _
    (λ t.
    let r = read_in_braces (digits_read_at 0 0 w) in
    subst (λ c. Says (c ∷ w) all r) (sym (eqb-true c 123 t))
    (subst (λ all. Says (123 ∷ w) all r) (sym (no_unit ∙ cond-true (c == 123) _ _ t)) (braces_said w (digits_read_at 0 0 w) (digits_said 0 0 w _ (omega arith) refl))))
    (λ t. no_unit ∙ cond-false (c == 123) _ _ t))))

pub counts_there : (w : List ℕ) (min : ℕ) (max : Option ℕ) (n : ℕ) → counts_read_at w ≡ counts_read min max n → counts_at w ≡ counts min max n
counts_there w min max n h = subst (Says w (counts_at w)) h (counts_said w)

pub none_there : (w : List ℕ) → counts_read_at w ≡ no_counts_read → counts_at w ≡ no_counts
none_there w h = subst (Says w (counts_at w)) h (counts_said w)

pub passes_there : (w : List ℕ) (start many : ℕ) → counts_read_at w ≡ many_digits start many → PassesLimit w start many
passes_there w start many h = subst (Says w (counts_at w)) h (counts_said w)

-- digits only add to a number
pub decimal_le : (m : ℕ) (ds : List ℕ) (n : ℕ) → decimal_after m ds ≡ Some n → m ≤ n
decimal_le m [] n h = let e : m ≡ n = cc h in omega arith
decimal_le m (c ∷ ds) n h = option_and_then_some (λ d. decimal_after (10 * m + d) ds) (decimal_digit_value c) n h (λ d e f. let k = decimal_le (10 * m + d) ds n f in omega (arith, k))

-- a digit with which a number stays below the limit
digit_read : (m count c : ℕ) (w : List ℕ) (d : ℕ) → decimal_digit_value c ≡ Some d → 10 * m + d < 2 ^ 64 → digits_read_at m count (c ∷ w) ≡ digits_read_at (10 * m + d) (count + 1) w
digit_read m count c w d e l =
    let t = digit_there c d e in
    cond-true (is_decimal_digit c) _ _ t.0 ∙ cond-true (nat_lt (10 * m + (c - 48)) (2 ^ 64)) _ _ (lt-ltb _ _ (omega (arith, l, t.1))) ∙ ap (λ d. digits_read_at (10 * m + d) (count + 1) w) t.1

run_read : (m count : ℕ) (ds rest : List ℕ) (n : ℕ) → decimal_after m ds ≡ Some n → n < 2 ^ 64 → digits_read_at m count (ds ++ rest) ≡ digits_read_at n (count + length ds) rest
run_read m count [] rest n h l =
    let same : m ≡ n = cc h in
    ap (λ m. digits_read_at m count rest) same ∙ ap (λ k. digits_read_at n k rest) (omega arith)
run_read m count (c ∷ ds) rest n h l =
    option_and_then_some (λ d. decimal_after (10 * m + d) ds) (decimal_digit_value c) n h (λ d e f.
    let k = decimal_le (10 * m + d) ds n f in
    digit_read m count c (ds ++ rest) d e (omega (arith, k, l)) ∙ run_read (10 * m + d) (count + 1) ds rest n f l ∙ ap (λ k. digits_read_at n k rest) (omega arith))

passing_read : (ds : List ℕ) (next : ℕ) (rest : List ℕ) → PassesDecimal ds next → digits_read_at 0 0 (ds ++ next ∷ rest) ≡ passing (length ds)
passing_read ds next rest p =
    let t = digit_there next p.digit p.digit_is in
    run_read 0 0 ds (next ∷ rest) p.number p.number_is p.fits
    ∙ cond-true (is_decimal_digit next) _ _ t.0
    ∙ cond-false (nat_lt (10 * p.number + (next - 48)) (2 ^ 64)) _ _ (le-ltb _ _ (omega (arith, p.passes, t.1)))
    ∙ ap passing (omega arith)

-- Where digits pass the limit, this is read, and so nothing else is.
pub limit_read : (w : List ℕ) (start many : ℕ) → PassesLimit w start many → counts_read_at w ≡ many_digits start many
unfolding counts_read_at
limit_read _ _ _ (first ds next rest p) = ap read_in_braces (passing_read ds next rest p)
limit_read _ _ _ (second {n} ds es next rest a small p) =
    let more : List ℕ = es ++ (next ∷ rest) in
    let some : 0 + length ds ≡ suc (length a.more) = omega (arith, ap length a.some) in
    ap read_in_braces (run_read 0 0 ds (44 ∷ more) n a.number small)
    ∙ ap (λ k. read_after_least n k (44 ∷ more)) some
    ∙ ap (read_after_comma n (suc (length a.more))) (passing_read es next rest p)
    ∙ ap (λ k. many_digits k (length es)) (omega (arith, some))

-- The digits up to where the limit is passed stay within the text.
pub limit_within : (w : List ℕ) (start many : ℕ) → PassesLimit w start many → start + many ≤ length w
limit_within _ _ _ (first ds next rest p) = omega (arith, length-append ds (next ∷ rest))
limit_within _ _ _ (second ds es next rest a small p) = omega (arith, length-append ds (44 ∷ (es ++ (next ∷ rest))), length-append es (next ∷ rest))

-- where nothing is read no limit is passed
pub none_in_limit : (w : List ℕ) → counts_read_at w ≡ no_counts_read → (start many : ℕ) → PassesLimit w start many → ⊥
none_in_limit w h start many p = let e : no_counts_read ≡ many_digits start many = sym h ∙ limit_read w start many p in cc e

-- counts whose first unit is `{` stand in braces
braces_first : (min : ℕ) (max : Option ℕ) (prefix rest : List ℕ) → SpellsCounts min max prefix → starts 123 (prefix ++ rest) ≡ true → SpellsBraces min max prefix
braces_first _ _ _ rest star h = absurd (true≢false (sym h))
braces_first _ _ _ rest plus h = absurd (true≢false (sym h))
braces_first _ _ _ rest optional h = absurd (true≢false (sym h))
braces_first min max prefix rest (braces s) h = s

limit_first : (w : List ℕ) (start many : ℕ) → PassesLimit w start many → starts 123 w ≡ true
limit_first _ _ _ (first ds next rest p) = refl
limit_first _ _ _ (second ds es next rest a small p) = refl

-- Counts that stand where digits pass the limit stand in braces.
pub limit_braces : (w : List ℕ) (min : ℕ) (max : Option ℕ) (n start many : ℕ) → counts_at w ≡ counts min max n → PassesLimit w start many → BeginsWithBraces w
limit_braces w min max n start many h p =
    let f = counts_spelled min max n w h in
    record { min = min; max = max; prefix = f.prefix; rest = f.rest; spelled = braces_first min max f.prefix f.rest f.spelled (ap (starts 123) (sym f.whole) ∙ limit_first w start many p); whole = f.whole }

-- counts that are out of order or too large stand in braces
pub in_braces : (min : ℕ) (max : Option ℕ) (prefix : List ℕ) → SpellsCounts min max prefix → IsOutOfOrder min max ⊎ IsTooLarge min max → SpellsBraces min max prefix
in_braces _ _ _ star bad = absurd (elim bad [ inl k ↦ k | inr k ↦ omega (arith, k) ])
in_braces _ _ _ plus bad = absurd (elim bad [ inl k ↦ k | inr k ↦ omega (arith, k) ])
in_braces _ _ _ optional bad = absurd (elim bad [
  | inl k ↦ omega (arith, k)
  | inr k ↦ elim k [ inl l ↦ omega (arith, l) | inr l ↦ omega (arith, l) ]
])
in_braces min max prefix (braces s) bad = s

-- What is refused of counts that are read stands in braces.
pub refused_braces : (us : List CodePoint) (min : ℕ) (max : Option ℕ) (n : ℕ) → counts_read_at (values us) ≡ counts_read min max n → IsOutOfOrder min max ⊎ IsTooLarge min max → HasBraces min max n us
refused_braces us min max n h bad =
    let f = counts_spelled min max n (values us) (counts_there (values us) min max n h) in record {
      prefix = f.prefix;
      following = f.rest;
      spelled = in_braces min max f.prefix f.spelled bad;
      whole = f.whole;
      count_is = sym f.count;
      in_limit = λ start many p. let e : counts_read min max n ≡ many_digits start many = sym h ∙ limit_read (values us) start many p in cc e;
    }
