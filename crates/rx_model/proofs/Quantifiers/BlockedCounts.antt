-- No token that obeys stands where the numbers of a quantifier in braces are out of order, too large or pass a limit.
use Rattle.std.proofs.Common.{◌≡◌, refl, ap, sym, ◌∙◌, subst, ℕ, zero, suc, ◌+◌, ◌-◌, ◌*◌, ◌^◌, ◌<◌, ◌≤◌, inl, inr, Bool, true, false, Option, Some, None, List, [], ◌∷◌, ◌++◌, ◌==◌, length, drop, arith, append_assoc, append-nil}
use Rattle.std.proofs.lemmas.Bool.{cases_Bool, cond-true}
use Rattle.rx_units.specs.declared.code_point.CodePoint.{CodePoint}
use Rattle.rx_units.specs.Units.{values}
use Rattle.rx_units.specs.Digits.{front_is}
use Rattle.rx_tables.specs.Characters.{is_decimal_digit}
use Rattle.rx_units.proofs.Choices.{chosen}
use Rattle.rx_model.specs.declared.mode.Mode.{Mode}
use Rattle.rx_model.specs.Refusals.Causes.{HasBraces, IsOutOfOrder, IsTooLarge}
use Rattle.rx_model.specs.Trees.Early.{Obeys}
use Rattle.rx_model.specs.Inputs.Environment.{Environment, is_unicode}
use Rattle.rx_model.specs.Reading.Fronts.{Digits, digits, digits_after, Counts, counts, no_counts, counts_at, counts_in_braces, counts_after_comma, greatest_of, quantifier_token, front}
use Rattle.rx_model.specs.FirstPass.Marks.{starts}
use Rattle.rx_model.specs.Quantifiers.Quantifiers.{BeginsWithBraces, SpellsBraces, exactly, at_least, between, braces, PassesDecimal, PassesLimit, first, second, is_question}
use Rattle.rx_model.specs.Refusals.Reached.{text_environment, text_groups, text_names}
use Rattle.rx_model.specs.Reading.Rows.{Spells}
use Rattle.rx_model.specs.Trees.Token.{Token, quantifier}
use Rattle.rx_model.specs.declared.rules.Rules.{Rules}
use Rattle.rx_model.proofs.Reading.Fronts.{front_by_unicode, spelled_front}
use Rattle.rx_model.proofs.Reading.Splits.{split_values, starts_there}
use Rattle.rx_model.proofs.Quantifiers.Quantifiers.{spelled_counts, digits_read}
use Rattle.rx_model.proofs.Quantifiers.DecimalDigits.{digit_there, digits_past, digits_le, some_length}
use Rattle.rx_model.proofs.Refusals.BlockedPlaces.{IsBlocked, blocked_token, next, same_token}

-- The counts of a quantifier that stands next do not obey.
abbrev pub DoNotObey : ℕ → Option ℕ → Type 0
DoNotObey min max = (greedy : Bool) → Obeys 0 [] (quantifier min max greedy) → ⊥

token_blocked : (mode : Mode) (us : List CodePoint) (min : ℕ) (max : Option ℕ) (n : ℕ) (w : List ℕ) → DoNotObey min max → (t : Token) (k : ℕ) → quantifier_token (counts min max n) w ≡ Some (t, k)
    → Obeys (text_groups mode us) (text_names mode us) t → ⊥
token_blocked mode us min max n w not t k h o =
    let owed = Obeys (text_groups mode us) (text_names mode us) in
    elim (chosen {x = next (quantifier min max false) (n + 1)} {y = next (quantifier min max true) n} (front_is is_question (drop n w)) h) [
      | inl p ↦ not false (subst owed (sym (same_token (quantifier min max false) t (n + 1) k p.1)) o)
      | inr p ↦ not true (subst owed (sym (same_token (quantifier min max true) t n k p.1)) o)
    ]

front_braces : (mode : Mode) (rules : Rules) → is_unicode mode ≡ true → (us rest : List CodePoint) (v : List ℕ) → values rest ≡ 123 ∷ v → front (text_environment mode rules us) rest ≡ quantifier_token (counts_at (123 ∷ v)) (123 ∷ v)
front_braces mode rules u us rest v e = front_by_unicode (text_environment mode rules us) rest 123 v u refl e

-- whatever the counts, they do not obey
abbrev pub AreBlocked : Counts → Type 0
AreBlocked c = (min : ℕ) (max : Option ℕ) (n : ℕ) → c ≡ counts min max n → DoNotObey min max

blocked_counts : (mode : Mode) (us : List CodePoint) (c : Counts) (w : List ℕ) → AreBlocked c → (t : Token) (k : ℕ) → quantifier_token c w ≡ Some (t, k) → Obeys (text_groups mode us) (text_names mode us) t → ⊥
blocked_counts mode us no_counts w d t k h o = let f : ⊥ = cc h in f
blocked_counts mode us (counts min max n) w d t k h o = token_blocked mode us min max n w (d min max n refl) t k h o

blocked_braces : (mode : Mode) (rules : Rules) → is_unicode mode ≡ true → (us rest : List CodePoint) (v : List ℕ) → values rest ≡ 123 ∷ v → AreBlocked (counts_at (123 ∷ v)) → IsBlocked mode rules us rest
blocked_braces mode rules u us rest v e d t n f o = blocked_counts mode us (counts_at (123 ∷ v)) (123 ∷ v) d t n (sym (front_braces mode rules u us rest v e) ∙ f) o

pub brace_first : (min : ℕ) (max : Option ℕ) (prefix : List ℕ) → SpellsBraces min max prefix → (v : List ℕ) × (prefix ≡ 123 ∷ v)
brace_first _ _ _ (exactly ds a) = (_, refl)
brace_first _ _ _ (at_least ds a) = (_, refl)
brace_first _ _ _ (between ds es a b) = (_, refl)

-- A quantifier in braces stands next.
pub record Standing (e : Environment) (min : ℕ) (max : Option ℕ) (rest : List CodePoint) : Type 0 where
  pub greedy : Bool
  pub w : List CodePoint
  pub more : List CodePoint
  pub whole : rest ≡ w ++ more
  pub spelled : Spells e (quantifier min max greedy) w more

pub standing : (e : Environment) (min : ℕ) (max : Option ℕ) (prefix following : List ℕ) (rest : List CodePoint) → SpellsBraces min max prefix → values rest ≡ prefix ++ following → Standing e min max rest
standing e min max prefix following rest s h = elim (cases_Bool (starts 63 following)) [
  | inl lazy ↦
      let b = starts_there 63 following lazy in
      let t = split_values rest (prefix ++ (63 ∷ [])) b.0 (h ∙ ap (λ w. prefix ++ w) b.1 ∙ sym (append_assoc prefix (63 ∷ []) b.0)) in
      record {
        greedy = false;
        w = t.front;
        more = t.back;
        whole = t.whole;
        spelled = record { prefix = prefix; counts = braces s; whole = t.front_is; alone = λ g. absurd (let no : ⊥ = cc g in no) };
      }
  | inr greedy ↦
      let t = split_values rest prefix following h in
      record {
        greedy = true;
        w = t.front;
        more = t.back;
        whole = t.whole;
        spelled = record { prefix = prefix; counts = braces s; whole = t.front_is ∙ sym (append-nil prefix); alone = λ g. ap (front_is is_question) t.back_is ∙ no_question following greedy };
      }
]
  where
    no_question : (w : List ℕ) → starts 63 w ≡ false → front_is is_question w ≡ false
    no_question [] h = refl
    no_question (c ∷ w) h = h

-- Braces whose numbers do not obey stand next.
blocked_standing : (mode : Mode) (rules : Rules) (us rest : List CodePoint) (min : ℕ) (max : Option ℕ) (prefix following : List ℕ) → SpellsBraces min max prefix → values rest ≡ prefix ++ following → DoNotObey min max → IsBlocked mode rules us rest
blocked_standing mode rules us rest min max prefix following s h not =
    let e = text_environment mode rules us in
    let q = standing e min max prefix following rest s h in
    blocked_token mode rules us rest (quantifier min max q.greedy) (length q.w) (ap (front e) q.whole ∙ spelled_front e (quantifier min max q.greedy) q.w q.more q.spelled) (not q.greedy)

pub blocked_numbers : (mode : Mode) (rules : Rules) (us rest : List CodePoint) (min : ℕ) (max : Option ℕ) (n : ℕ) → HasBraces min max n rest → DoNotObey min max → IsBlocked mode rules us rest
blocked_numbers mode rules us rest min max n h = blocked_standing mode rules us rest min max h.prefix h.following h.spelled h.whole

-- numbers out of order, or too large
pub not_in_order : (min : ℕ) (max : Option ℕ) → IsOutOfOrder min max → DoNotObey min max
not_in_order min None out greedy o = out
not_in_order min (Some max) out greedy o = omega (arith, out, o.1.0)

pub not_small : (min : ℕ) (max : Option ℕ) → IsTooLarge min max → DoNotObey min max
not_small min None large greedy o = omega (arith, large, o.0)
not_small min (Some max) large greedy o = elim large [ inl l ↦ omega (arith, l, o.0) | inr l ↦ omega (arith, l, o.1.1) ]

-- Where digits pass 64 bits their number is not below.
passed : (ds : List ℕ) (next : ℕ) (rest : List ℕ) (n end : ℕ) (following : List ℕ) → PassesDecimal ds next → digits_after 0 0 (ds ++ next ∷ rest) ≡ digits n end following → 2 ^ 64 ≤ n
passed ds next rest n end following p h =
    let t = digit_there next p.digit p.digit_is in
    let e : digits_after (10 * p.number + (next - 48)) (0 + length ds + 1) rest ≡ digits n end following =
    sym (cond-true (is_decimal_digit next) (digits_after (10 * p.number + (next - 48)) (0 + length ds + 1) rest) (digits p.number (0 + length ds) (next ∷ rest)) t.0)
    ∙ sym (digits_past 0 0 ds (next ∷ rest) p.number p.number_is) ∙ h in
    let k = digits_le (10 * p.number + (next - 48)) (0 + length ds + 1) rest n end following e in
    omega (arith, k, p.passes, t.1)

large_least : (min : ℕ) (max : Option ℕ) → 2 ^ 64 ≤ min → DoNotObey min max
large_least min max l greedy o = omega (arith, l, o.0)

large_greatest : (min m : ℕ) → 2 ^ 64 ≤ m → DoNotObey min (Some m)
large_greatest min m l greedy o = omega (arith, l, o.1.1)

least_of_comma : (n count : ℕ) (d : Digits) (min : ℕ) (max : Option ℕ) (k : ℕ) → counts_after_comma n count d ≡ counts min max k → n ≡ min
least_of_comma n count (digits m more []) min max k h = absurd (let f : ⊥ = cc h in f)
least_of_comma n count (digits m more (c ∷ w)) min max k h = elim (chosen {x = counts n (greatest_of more m) (count + more + 3)} {y = no_counts} (c == 125) h) [
  | inl p ↦ let e : n ≡ min = cc p.1 in e
  | inr p ↦ absurd (let f : ⊥ = cc p.1 in f)
]

-- the least number is the one after the brace
least_is : (n count : ℕ) (w : List ℕ) (min : ℕ) (max : Option ℕ) (k : ℕ) → counts_in_braces (digits n count w) ≡ counts min max k → n ≡ min
least_is n zero w min max k h = absurd (let f : ⊥ = cc h in f)
least_is n (suc count) [] min max k h = absurd (let f : ⊥ = cc h in f)
least_is n (suc count) (c ∷ w) min max k h = elim (chosen {x = counts n (Some n) (suc count + 2)} (c == 125) h) [
  | inl p ↦ let e : n ≡ min = cc p.1 in e
  | inr p ↦ elim (chosen {x = counts_after_comma n (suc count) (digits_after 0 0 w)} {y = no_counts} (c == 44) p.1) [
    | inl q ↦ least_of_comma n (suc count) (digits_after 0 0 w) min max k q.1
    | inr q ↦ absurd (let f : ⊥ = cc q.1 in f)
  ]
]

blocked_first : (d : Digits) → ((n end : ℕ) (following : List ℕ) → d ≡ digits n end following → 2 ^ 64 ≤ n) → AreBlocked (counts_in_braces d)
blocked_first (digits n end following) large min max k h = large_least min max (subst (λ m. 2 ^ 64 ≤ m) (least_is n end following min max k h) (large n end following refl))

-- A number after a comma that is not small, if it is there.
blocked_second : (n count : ℕ) (d : Digits) → ((m more : ℕ) (following : List ℕ) → d ≡ digits m more following → (2 ^ 64 ≤ m) × (0 < more)) → AreBlocked (counts_after_comma n count d)
blocked_second n count (digits m more []) large min max k h = absurd (let f : ⊥ = cc h in f)
blocked_second n count (digits m zero (c ∷ w)) large min max k h = absurd (let l = (large m zero (c ∷ w) refl).1 in omega (arith, l))
blocked_second n count (digits m (suc more) (c ∷ w)) large min max k h = elim (chosen {x = counts n (Some m) (count + suc more + 3)} {y = no_counts} (c == 125) h) [
  | inl p ↦ let e : Some m ≡ max = cc p.1 in subst (DoNotObey min) e (large_greatest min m (large m (suc more) (c ∷ w) refl).0)
  | inr p ↦ absurd (let f : ⊥ = cc p.1 in f)
]

-- more digits are read than were
digits_more : (m count : ℕ) (w : List ℕ) (n end : ℕ) (rest : List ℕ) → digits_after m count w ≡ digits n end rest → count ≤ end
digits_more m count [] n end rest h = let e : count ≡ end = cc h in omega arith
digits_more m count (c ∷ w) n end rest h = elim (chosen (is_decimal_digit c) h) [
  | inl p ↦ let k = digits_more (10 * m + (c - 48)) (count + 1) w n end rest p.1 in omega (arith, k)
  | inr p ↦ let e : count ≡ end = cc p.1 in omega arith
]

some_passed : (ds : List ℕ) (next : ℕ) (rest : List ℕ) (n end : ℕ) (following : List ℕ) → PassesDecimal ds next → digits_after 0 0 (ds ++ next ∷ rest) ≡ digits n end following → 0 < end
some_passed ds next rest n end following p h =
    let t = digit_there next p.digit p.digit_is in
    let e : digits_after (10 * p.number + (next - 48)) (0 + length ds + 1) rest ≡ digits n end following =
    sym (cond-true (is_decimal_digit next) (digits_after (10 * p.number + (next - 48)) (0 + length ds + 1) rest) (digits p.number (0 + length ds) (next ∷ rest)) t.0)
    ∙ sym (digits_past 0 0 ds (next ∷ rest) p.number p.number_is) ∙ h in
    let k = digits_more (10 * p.number + (next - 48)) (0 + length ds + 1) rest n end following e in
    omega (arith, k)

-- what is read after `{` where digits pass
pub record Passing (w : List ℕ) : Type 0 where
  pub following : List ℕ
  pub whole : w ≡ 123 ∷ following
  pub blocked : AreBlocked (counts_at (123 ∷ following))

pub passing : (w : List ℕ) (start count : ℕ) → PassesLimit w start count → Passing w
unfolding counts_at
passing _ _ _ (first ds next rest p) = record {
  following = ds ++ next ∷ rest;
  whole = refl;
  blocked = blocked_first (digits_after 0 0 (ds ++ next ∷ rest)) (λ n end following h. passed ds next rest n end following p h);
}
passing _ _ _ (second {n} ds es next rest a small p) =
    let l = some_length n ds a in
    let more : List ℕ = es ++ (next ∷ rest) in
    let read : counts_at (123 ∷ (ds ++ (44 ∷ more))) ≡ counts_after_comma n (suc l.0) (digits_after 0 0 more) =
    ap counts_in_braces (digits_read 0 0 ds (44 ∷ more) n a.number refl ∙ ap (λ c. digits n c (44 ∷ more)) (let z : 0 + length ds ≡ suc l.0 = omega (arith, l.1) in z)) in
    record {
      following = ds ++ (44 ∷ more);
      whole = refl;
      blocked = subst AreBlocked (sym read) (blocked_second n (suc l.0) (digits_after 0 0 more) (λ m end following h. (passed es next rest m end following p h, some_passed es next rest m end following p h)));
    }

pub blocked_limit : (mode : Mode) (rules : Rules) (us rest : List CodePoint) (start count : ℕ) → PassesLimit (values rest) start count → (is_unicode mode ≡ false → BeginsWithBraces (values rest)) → IsBlocked mode rules us rest
blocked_limit mode rules us rest start count p in_legacy = by (is_unicode mode) refl
  where
    k : Passing (values rest)
    k = passing (values rest) start count p

    by : (u : Bool) → is_unicode mode ≡ u → IsBlocked mode rules us rest
    by true u = blocked_braces mode rules u us rest k.following k.whole k.blocked
    by false u =
        let b = in_legacy u in
        let read : counts_at (123 ∷ k.following) ≡ counts b.min b.max (length b.prefix) = ap counts_at (sym k.whole ∙ b.whole) ∙ spelled_counts b.min b.max b.prefix b.rest (braces b.spelled) in
        blocked_standing mode rules us rest b.min b.max b.prefix b.rest b.spelled b.whole (k.blocked b.min b.max (length b.prefix) read)
