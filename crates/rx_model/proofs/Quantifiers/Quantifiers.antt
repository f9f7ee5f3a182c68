-- Quantifiers: what is spelled is read, and what is read is spelled.
use Rattle.std.proofs.Common.{◌≡◌, ℕ, zero, suc, ◌+◌, ◌-◌, ◌*◌, ◌==◌, true, false, List, [], ◌∷◌, ◌++◌, length, Option, Some, None, option_and_then, refl, sym, ap, ◌∙◌, subst, arith, inl, inr, append_assoc, length-append}
use Rattle.std.proofs.lemmas.Bool.{eqb-true, cond-true}
use Rattle.std.proofs.lemmas.Option.{option_and_then_some}
use Rattle.rx_tables.specs.Characters.{is_decimal_digit}
use Rattle.rx_units.specs.Digits.{front_is}
use Rattle.rx_units.proofs.Choices.{chosen}
use Rattle.rx_model.specs.Reading.Fronts.{Digits, digits, digits_after, counts, no_counts, greatest_of, counts_after_comma, counts_in_braces, counts_at}
use Rattle.rx_model.specs.Quantifiers.Quantifiers.{decimal_digit_value, decimal_after, AreDigits, SpellsBraces, exactly, at_least, between, SpellsCounts, star, plus, optional, braces, BeginsWithBraces}
use Rattle.rx_model.proofs.Quantifiers.DecimalDigits.{digit_there, some_length}

-- digits are read to their end
pub digits_read : (m count : ℕ) (ds rest : List ℕ) (n : ℕ) → decimal_after m ds ≡ Some n → front_is is_decimal_digit rest ≡ false → digits_after m count (ds ++ rest) ≡ digits n (count + length ds) rest
digits_read m count [] [] n h k = let same : m ≡ n = cc h in rw same (ap (λ c. digits n c []) (omega arith))
digits_read m count [] (c ∷ rest) n h k = let same : m ≡ n = cc h in rw (same, k) (ap (λ x. digits n x (c ∷ rest)) (omega arith))
digits_read m count (c ∷ ds) rest n h k =
    option_and_then_some (λ d. decimal_after (10 * m + d) ds) (decimal_digit_value c) n h (λ d e f.
    let t = digit_there c d e in
    cond-true (is_decimal_digit c) _ _ t.0
    ∙ digits_read (10 * m + (c - 48)) (count + 1) ds rest n (rw t.1 f) k
    ∙ ap (λ x. digits n x rest) (omega arith))

-- what is read as digits: all that stand next
pub record DigitRun (m count : ℕ) (w : List ℕ) (n end : ℕ) (rest : List ℕ) : Type 0 where
  pub run : List ℕ
  pub whole : w ≡ run ++ rest
  pub number : decimal_after m run ≡ Some n
  pub count_is : end ≡ count + length run
  pub ended : front_is is_decimal_digit rest ≡ false

no_run : {m count : ℕ} {w : List ℕ} {n end : ℕ} {rest : List ℕ} → digits m count w ≡ digits n end rest → front_is is_decimal_digit w ≡ false → DigitRun m count w n end rest
no_run {m} {count} {w} {n} {end} {rest} h k =
    let same : w ≡ rest = cc h in
    record {
      run = [];
      whole = same;
      number = ap Some (let e : m ≡ n = cc h in e);
      count_is = let e : count ≡ end = cc h in omega arith;
      ended = subst (λ w. front_is is_decimal_digit w ≡ false) same k;
    }

pub digits_found : (m count : ℕ) (w : List ℕ) (n end : ℕ) (rest : List ℕ) → digits_after m count w ≡ digits n end rest → DigitRun m count w n end rest
digits_found m count [] n end rest h = no_run h refl
digits_found m count (c ∷ w) n end rest h = elim (chosen (is_decimal_digit c) h) [
  | inl p ↦ let r = digits_found (10 * m + (c - 48)) (count + 1) w n end rest p.1 in record {
    run = c ∷ r.run;
    whole = ap (λ w. c ∷ w) r.whole;
    number = ap (option_and_then (λ d. decimal_after (10 * m + d) r.run)) (cond-true (is_decimal_digit c) (Some (c - 48)) None p.0) ∙ r.number;
    count_is = omega (arith, r.count_is);
    ended = r.ended;
  }
  | inr p ↦ no_run p.1 p.0
]

-- digits after `{`
braces_read : (n : ℕ) (ds rest : List ℕ) → AreDigits n ds → front_is is_decimal_digit rest ≡ false → counts_at (123 ∷ (ds ++ rest)) ≡ counts_in_braces (digits n (length ds) rest)
unfolding counts_at
braces_read n ds rest a k = ap counts_in_braces (digits_read 0 0 ds rest n a.number k ∙ ap (λ c. digits n c rest) (omega arith))

spelled_braces : (min : ℕ) (max : Option ℕ) (w rest : List ℕ) → SpellsBraces min max w → counts_at (w ++ rest) ≡ counts min max (length w)
spelled_braces _ _ _ rest (exactly {n} ds a) =
    let l = some_length n ds a in
    ap (λ w. counts_at (123 ∷ w)) (append_assoc ds (125 ∷ []) rest)
    ∙ braces_read n ds (125 ∷ rest) a refl
    ∙ rw l.1 (ap (counts n (Some n)) (omega (arith, l.1, length-append ds (125 ∷ []))))
spelled_braces _ _ _ rest (at_least {n} ds a) =
    let l = some_length n ds a in
    ap (λ w. counts_at (123 ∷ w)) (append_assoc ds (44 ∷ 125 ∷ []) rest)
    ∙ braces_read n ds (44 ∷ 125 ∷ rest) a refl
    ∙ rw l.1 (ap (counts n None) (omega (arith, l.1, length-append ds (44 ∷ 125 ∷ []))))
spelled_braces _ _ _ rest (between {n} {m} ds es a b) =
    let l = some_length n ds a in
    let k = some_length m es b in
    let e : length (123 ∷ (ds ++ (44 ∷ (es ++ (125 ∷ []))))) ≡ length ds + length es + 3 = omega (arith, length-append ds (44 ∷ (es ++ (125 ∷ []))), length-append es (125 ∷ [])) in
    ap (λ w. counts_at (123 ∷ w)) (append_assoc ds (44 ∷ (es ++ (125 ∷ []))) rest)
    ∙ braces_read n ds (44 ∷ ((es ++ (125 ∷ [])) ++ rest)) a refl
    ∙ ap (λ c. counts_in_braces (digits n c (44 ∷ ((es ++ (125 ∷ [])) ++ rest)))) l.1
    ∙ ap (counts_after_comma n (suc l.0)) (ap (digits_after 0 0) (append_assoc es (125 ∷ []) rest) ∙ digits_read 0 0 es (125 ∷ rest) m b.number refl ∙ ap (λ c. digits m c (125 ∷ rest)) (let z : 0 + length es ≡ suc k.0 = omega (arith, k.1) in z))
    ∙ ap (counts n (Some m)) (omega (arith, e, l.1, k.1))

-- spelled → read
pub spelled_counts : (min : ℕ) (max : Option ℕ) (w rest : List ℕ) → SpellsCounts min max w → counts_at (w ++ rest) ≡ counts min max (length w)
unfolding counts_at
spelled_counts _ _ _ rest star = refl
spelled_counts _ _ _ rest plus = refl
spelled_counts _ _ _ rest optional = refl
spelled_counts min max w rest (braces s) = spelled_braces min max w rest s

pub no_braces : (w : List ℕ) → counts_at w ≡ no_counts → BeginsWithBraces w → ⊥
no_braces w h b =
    let k : counts_at w ≡ counts b.min b.max (length b.prefix) = ap counts_at b.whole ∙ spelled_braces b.min b.max b.prefix b.rest b.spelled in
    cc (h, k)

-- counts that stand at the front
pub record CountsFront (min : ℕ) (max : Option ℕ) (n : ℕ) (w : List ℕ) : Type 0 where
  pub prefix : List ℕ
  pub rest : List ℕ
  pub spelled : SpellsCounts min max prefix
  pub whole : w ≡ prefix ++ rest
  pub count : length prefix ≡ n

front_of : {low min : ℕ} {high max : Option ℕ} {m n : ℕ} (w rest : List ℕ) → SpellsCounts low high w → length w ≡ m → counts low high m ≡ counts min max n → CountsFront min max n (w ++ rest)
front_of {low} {min} {high} {max} {m} {n} w rest s l h =
    let same : low ≡ min = cc h in
    let equal : high ≡ max = cc h in
    record {
      prefix = w;
      rest = rest;
      spelled = subst (λ low. SpellsCounts low max w) same (subst (λ high. SpellsCounts low high w) equal s);
      whole = refl;
      count = l ∙ (let f : m ≡ n = cc h in f);
    }

are_digits : (n k : ℕ) (run : List ℕ) → decimal_after 0 run ≡ Some n → suc k ≡ 0 + length run → AreDigits n run
are_digits n k [] h l = absurd (omega (arith, l))
are_digits n k (d ∷ ds) h l = record {
  first = d;
  more = ds;
  some = refl;
  number = h;
}

-- digits, a comma, digits or none, and `}`
second_found : (min : ℕ) (max : Option ℕ) (end n : ℕ) (ds : List ℕ) (m : ℕ) (run v : List ℕ) → AreDigits n ds → decimal_after 0 run ≡ Some m →
    counts n (greatest_of (length run) m) (length ds + length run + 3) ≡ counts min max end → CountsFront min max end (123 ∷ (ds ++ (44 ∷ (run ++ (125 ∷ v)))))
second_found min max end n ds m [] v a b h =
    subst (λ w. CountsFront min max end (123 ∷ w)) (append_assoc ds (44 ∷ 125 ∷ []) v)
    (front_of (123 ∷ (ds ++ (44 ∷ 125 ∷ []))) v (braces (at_least ds a)) (omega (arith, length-append ds (44 ∷ 125 ∷ []))) h)
second_found min max end n ds m (y ∷ ys) v a b h =
    let es = y ∷ ys in
    let d = are_digits m (length ys) (y ∷ ys) b (omega arith) in
    subst (λ w. CountsFront min max end (123 ∷ w)) (append_assoc ds (44 ∷ (es ++ (125 ∷ []))) v ∙ ap (λ w. ds ++ (44 ∷ w)) (append_assoc es (125 ∷ []) v))
    (front_of (123 ∷ (ds ++ (44 ∷ (es ++ (125 ∷ []))))) v (braces (between ds es a d)) (omega (arith, length-append ds (44 ∷ (es ++ (125 ∷ []))), length-append es (125 ∷ []))) h)

comma_found : (min : ℕ) (max : Option ℕ) (end n count : ℕ) (ds w : List ℕ) → AreDigits n ds → count ≡ length ds → (d : Digits) → digits_after 0 0 w ≡ d →
    counts_after_comma n count d ≡ counts min max end → CountsFront min max end (123 ∷ (ds ++ (44 ∷ w)))
comma_found min max end n count ds w a l (digits m more []) e h = absurd (let k : ⊥ = cc h in k)
comma_found min max end n count ds w a l (digits m more (x ∷ v)) e h = elim (chosen (x == 125) h) [
  | inl p ↦
      let r = digits_found 0 0 w m more (x ∷ v) e in
      let f : more ≡ length r.run = omega (arith, r.count_is) in
      subst (λ w. CountsFront min max end (123 ∷ (ds ++ (44 ∷ w)))) (ap (λ x. r.run ++ (x ∷ v)) (sym (eqb-true x 125 p.0)) ∙ sym r.whole)
      (second_found min max end n ds m r.run v a r.number (sym (ap (λ k. counts n (greatest_of more m) (k + more + 3)) l ∙ ap (λ k. counts n (greatest_of k m) (length ds + k + 3)) f) ∙ p.1))
  | inr p ↦ absurd (let k : ⊥ = cc p.1 in k)
]

braces_found : (min : ℕ) (max : Option ℕ) (end : ℕ) (w : List ℕ) (d : Digits) → digits_after 0 0 w ≡ d → counts_in_braces d ≡ counts min max end → CountsFront min max end (123 ∷ w)
braces_found min max end w (digits n zero v) e h = absurd (let k : ⊥ = cc h in k)
braces_found min max end w (digits n (suc more) []) e h = absurd (let k : ⊥ = cc h in k)
braces_found min max end w (digits n (suc more) (x ∷ v)) e h =
    let r = digits_found 0 0 w n (suc more) (x ∷ v) e in
    let a = are_digits n more r.run r.number r.count_is in
    elim (chosen (x == 125) h) [
      | inl p ↦
          subst (λ w. CountsFront min max end (123 ∷ w)) (append_assoc r.run (125 ∷ []) v ∙ ap (λ x. r.run ++ (x ∷ v)) (sym (eqb-true x 125 p.0)) ∙ sym r.whole)
          (front_of (123 ∷ (r.run ++ (125 ∷ []))) v (braces (exactly r.run a)) (omega (arith, length-append r.run (125 ∷ []), r.count_is)) p.1)
      | inr p ↦ elim (chosen (x == 44) p.1) [
        | inl q ↦
            subst (λ w. CountsFront min max end (123 ∷ w)) (ap (λ x. r.run ++ (x ∷ v)) (sym (eqb-true x 44 q.0)) ∙ sym r.whole)
            (comma_found min max end n (suc more) r.run v a (omega (arith, r.count_is)) (digits_after 0 0 v) refl q.1)
        | inr q ↦ absurd (let k : ⊥ = cc q.1 in k)
      ]
    ]

-- one character before the rest
at_character : {min : ℕ} {max : Option ℕ} {n : ℕ} (c d : ℕ) (w : List ℕ) → (c == d) ≡ true → CountsFront min max n (d ∷ w) → CountsFront min max n (c ∷ w)
at_character {min} {max} {n} c d w e f = subst (λ x. CountsFront min max n (x ∷ w)) (sym (eqb-true c d e)) f

-- read → spelled
pub counts_spelled : (min : ℕ) (max : Option ℕ) (n : ℕ) (w : List ℕ) → counts_at w ≡ counts min max n → CountsFront min max n w
unfolding counts_at
counts_spelled min max n [] h = absurd (let k : ⊥ = cc h in k)
counts_spelled min max n (c ∷ w) h = elim (chosen (c == 42) h) [
  | inl p ↦ at_character c 42 w p.0 (front_of (42 ∷ []) w star refl p.1)
  | inr p ↦ elim (chosen (c == 43) p.1) [
    | inl q ↦ at_character c 43 w q.0 (front_of (43 ∷ []) w plus refl q.1)
    | inr q ↦ elim (chosen (c == 63) q.1) [
      | inl r ↦ at_character c 63 w r.0 (front_of (63 ∷ []) w optional refl r.1)
      | inr r ↦ elim (chosen (c == 123) r.1) [
        | inl s ↦ at_character c 123 w s.0 (braces_found min max n w (digits_after 0 0 w) refl s.1)
        | inr s ↦ absurd (let k : ⊥ = cc s.1 in k)
      ]
    ]
  ]
]
