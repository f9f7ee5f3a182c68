-- What is read at the front stands there, and where no token is read this is for the reason that is said.
use Rattle.std.proofs.Common.{All, ◌≡◌, refl, sym, ap, ◌∙◌, subst, ℕ, ◌+◌, ◌-◌, ◌*◌, ◌<◌, ◌≤◌, Bool, true, false, not, ◌==◌, ◌&&◌, ◌||◌, ◌⊎◌, cond, nat_le, nat_lt, Option, Some, None, List, [], ◌∷◌, drop, codes, arith, inl, inr}
use Rattle.std.proofs.lemmas.Bool.{cases_Bool, cond-true, cond-false, cond_both, and_from, and_parts, both_ways, eq-eqb, eqb-true, le-leb, lt-ltb, ltb-true, ltb-false, or_cases, or_from, or_left, or_right, or_parts, true≢false}
use Rattle.std.proofs.lemmas.Bool.Decides.{nat_tests}
use Rattle.rx_base.specs.Characters.{is_within, is_one_of}
use Rattle.rx_tables.specs.Characters.{is_decimal_digit, is_syntax_character}
use Rattle.rx_ast.specs.declared.leaf.BoundaryAssertionKind.{BoundaryAssertionKind}
use Rattle.rx_ast.specs.declared.leaf.CharacterClassEscapeKind.{CharacterClassEscapeKind}
use Rattle.rx_units.specs.declared.code_point.CodePoint.{CodePoint}
use Rattle.rx_units.specs.Units.{values}
use Rattle.rx_units.specs.Digits.{front_is, PassesHex}
use Rattle.rx_units.proofs.Choices.{chosen}
use Rattle.rx_model.specs.FirstPass.Marks.{starts}
use Rattle.rx_model.specs.Groups.GroupFronts.{angle_group, group_front, modified_group, name_front, named_group, question_group, reference_front, sides_at}
use Rattle.rx_model.specs.Groups.Groups.{BeginsName, is_mark, looks, of_group, of_reference}
use Rattle.rx_model.specs.Groups.ModifierFronts.{ModifiersRead, modifiers_read, no_modifiers_read, modifiers_read_at}
use Rattle.rx_model.specs.Groups.NameFronts.{NameRead, name_read, no_name_read, name_read_at}
use Rattle.rx_model.specs.declared.mode.Mode.{Mode}
use Rattle.rx_model.specs.declared.mode.Mode.TheVariants.{Legacy}
use Rattle.rx_model.specs.Inputs.Environment.{Environment, is_unicode}
use Rattle.rx_model.specs.Properties.PropertyForms.{begins_property}
use Rattle.rx_model.specs.Quantifiers.CountsReading.{CountsRead, counts_read, no_counts_read, many_digits, counts_read_at}
use Rattle.rx_model.specs.Quantifiers.Quantifiers.{BeginsWithBraces, PassesLimit, is_question}
use Rattle.rx_model.specs.Reading.FrontReading.{FrontHalt, ends_here, last_backslash, out_of_order, too_large, many_decimal_digits, many_hex_digits, no_unicode_escape, in_name, no_angle, no_such_group, in_modifiers, FrontRead, token_read, property_begins, class_begins, halted, with_name, modified_read, angle_read, question_read, group_read, indexed_read, reference_read, one_of_escapes, backslash_read, are_out_of_order, are_too_large, quantifier_read, front_read}
use Rattle.rx_model.specs.Reading.Fronts.{EscapeRead, escaped, nothing, too_many, no_unicode, escape_at, any_escape_at, boundary_at, class_escape_at, backslash_front, backslash_token, Digits, digits, digits_after, indexed_token, named_token, opener_token, Counts, counts, no_counts, are_counts, counts_at, quantifier_token, is_raw_at, is_reference, front}
use Rattle.rx_model.specs.Reading.Rows.{is_legacy_syntax, stands_raw}
use Rattle.rx_model.specs.Refusals.Causes.{HasBraces, IsOutOfOrder, IsTooLarge}
use Rattle.rx_model.specs.Refusals.Stops.{IsStop, begins_escape, at_end, at_bracket, at_brace, after_backslash}
use Rattle.rx_model.specs.Trees.Early.{Obeys, greatest_count}
use Rattle.rx_model.specs.Trees.Token.{Token, Opener, property, class, indexed, named, opener, quantifier, capturing}
use Rattle.rx_model.proofs.Characters.Choices.{choose_both}
use Rattle.rx_model.proofs.Characters.Escapes.{NoUnicode, escape_no_unicode, escape_nothing, escape_too_many}
use Rattle.rx_model.proofs.Characters.LegacyEscapes.{any_in_unicode, any_small}
use Rattle.rx_model.proofs.Groups.GroupNames.{differs}
use Rattle.rx_model.proofs.Groups.ModifierFronts.{AreWrong, SaysModifiers, modifiers_said}
use Rattle.rx_model.proofs.Groups.NameFronts.{SaysNameHalt, name_there, names_said, SaysName}
use Rattle.rx_model.proofs.Groups.GroupFronts.{mark_is}
use Rattle.rx_model.proofs.Quantifiers.CountsReading.{counts_there, limit_braces, none_in_limit, none_there, passes_there, refused_braces}
use Rattle.rx_model.proofs.Quantifiers.DecimalDigits.{digits_le}
use Rattle.rx_model.proofs.Quantifiers.Quantifiers.{no_braces}
use Rattle.rx_model.proofs.Reading.Fronts.{raw_in_unicode}
use Rattle.rx_model.proofs.Refusals.LegacyStops.{backslash_read as token_there}
use Rattle.rx_model.proofs.Refusals.Stops.{stop_backslash}

-- Braces of n units with such counts stand next.
abbrev pub StandBraces : (ℕ → Option ℕ → Type 0) → ℕ → List CodePoint → Type 0
StandBraces P n us = (min : ℕ) × (max : Option ℕ) × HasBraces min max n us × P min max

-- Why no token that obeys stands at the front, where this is what `front` says.
abbrev pub SaysHalt : Environment → List CodePoint → Option (Token × ℕ) → FrontHalt → Type 0
SaysHalt e us o (ends_here n) = IsStop e us n × (starts 41 (values us) ≡ false)
SaysHalt e us o last_backslash = (is_unicode e.mode ≡ false) × (backslash : CodePoint) × (us ≡ backslash ∷ []) × (backslash.value ≡ 92)
SaysHalt e us o (out_of_order n) = StandBraces IsOutOfOrder n us
SaysHalt e us o (too_large n) = StandBraces (λ min max. (IsOutOfOrder min max → ⊥) × IsTooLarge min max) n us
SaysHalt e us o (many_decimal_digits start many) = PassesLimit (values us) start many × (is_unicode e.mode ≡ false → BeginsWithBraces (values us))
SaysHalt e us o (many_hex_digits many) = (is_unicode e.mode ≡ true) × (following : List ℕ) × (values us ≡ 92 ∷ following) × PassesHex following many
SaysHalt e us o no_unicode_escape = (is_unicode e.mode ≡ true) × (following : List ℕ) × (values us ≡ 92 ∷ following) × NoUnicode following
SaysHalt e us o (in_name it) = (following : List ℕ) × BeginsName e (values us) following × SaysNameHalt (is_unicode e.mode) following it
SaysHalt e us o no_angle = (following : List ℕ) × (values us ≡ 92 ∷ 107 ∷ following) × (starts 60 following ≡ false) × (e.named ≡ true)
SaysHalt e us o (no_such_group n) = (k : ℕ) × (o ≡ Some (indexed k, n)) × (e.groups < k)
SaysHalt e us o (in_modifiers it n) = (following : List ℕ) × (values us ≡ 40 ∷ 63 ∷ following) × AreWrong following n it

-- what a token owes but for names
abbrev pub ObeysAlone : Environment → Token → Type 0
ObeysAlone e (property negative strings name value) = ⊥
ObeysAlone e (class c) = ⊥
ObeysAlone e (named name) = Unit {0}
ObeysAlone e t = (names : List (List ℕ)) → Obeys e.groups names t

-- A reading, by what `front` says, of code points.
abbrev pub Says : Environment → List CodePoint → Option (Token × ℕ) → FrontRead → Type 0
Says e us o (token_read t n) = (o ≡ Some (t, n)) × (All (λ (u : CodePoint). u.value ≤ 0x10FFFF) us → ObeysAlone e t)
Says e us o property_begins = (letter : ℕ) × (following : List ℕ) × (values us ≡ 92 ∷ letter ∷ following) × ((begins_property letter && is_unicode e.mode) ≡ true)
Says e us o class_begins = starts 91 (values us) ≡ true
Says e us o (halted it) = SaysHalt e us o it

-- a number whose first digit is not 0
index_some : (c : ℕ) (w : List ℕ) (n count : ℕ) (rest : List ℕ) → is_within 49 57 c ≡ true → digits_after 0 0 (c ∷ w) ≡ digits n count rest → 1 ≤ n
index_some c w n count rest h k =
    let low : 49 ≤ c = grind (arith, nat_tests) in
    let digit : is_decimal_digit c ≡ true = grind (arith, nat_tests) in
    let least = digits_le (10 * 0 + (c - 48)) (0 + 1) w n count rest (sym (cond-true (is_decimal_digit c) _ _ digit) ∙ k) in
    omega arith

question_starts : (w : List ℕ) → front_is is_question w ≡ starts 63 w
question_starts [] = refl
question_starts (c ∷ w) = refl

order_true : (min : ℕ) (max : Option ℕ) → are_out_of_order min max ≡ true → IsOutOfOrder min max
order_true min None h = absurd (true≢false (sym h))
order_true min (Some max) h = ltb-true max min h

order_false : (min : ℕ) (max : Option ℕ) → are_out_of_order min max ≡ false → IsOutOfOrder min max → ⊥
order_false min None h k = k
order_false min (Some max) h k = true≢false (sym (lt-ltb max min k) ∙ h)

large_true : (min : ℕ) (max : Option ℕ) → are_too_large min max ≡ true → IsTooLarge min max
large_true min None h = ltb-true greatest_count min h
large_true min (Some max) h = elim (or_cases (nat_lt greatest_count min) (nat_lt greatest_count max) h) [
  | inl k ↦ inl (ltb-true greatest_count min k)
  | inr k ↦ inr (ltb-true greatest_count max k)
]

counts_obey : (count : ℕ) (names : List (List ℕ)) (min : ℕ) (max : Option ℕ) (greedy : Bool) → are_out_of_order min max ≡ false → are_too_large min max ≡ false → Obeys count names (quantifier min max greedy)
counts_obey count names min None greedy order large = (ltb-false greatest_count min large, tt)
counts_obey count names min (Some max) greedy order large =
    let p = or_parts (nat_lt greatest_count min) (nat_lt greatest_count max) large in
    (ltb-false greatest_count min p.0, (ltb-false max min order, ltb-false greatest_count max p.1))

-- what ends terms where it begins no quantifier: one of ] } {
ender : (c : ℕ) (w : List ℕ) → is_syntax_character c ≡ true → (c == 46 || c == 40 || c == 41 || c == 124 || c == 94 || c == 36 || c == 92 || c == 91) ≡ false → counts_read_at (c ∷ w) ≡ no_counts_read
    → ((c == 93 || c == 125) ≡ true) ⊎ ((c == 123) ≡ true)
unfolding counts_read_at
ender c w s other k = elim (chosen (c == 42) k) [
  | inl p ↦ absurd (let no : ⊥ = cc p.1 in no)
  | inr p ↦ elim (chosen (c == 43) p.1) [
    | inl q ↦ absurd (let no : ⊥ = cc q.1 in no)
    | inr q ↦ elim (chosen (c == 63) q.1) [
      | inl r ↦ absurd (let no : ⊥ = cc r.1 in no)
      | inr r ↦ elim (cases_Bool (c == 123)) [ inl brace ↦ inr brace | inr none ↦ inl (rest c s other p.0 q.0 r.0 none) ]
    ]
  ]
]
  where
    rest : (c : ℕ) → is_syntax_character c ≡ true → (c == 46 || c == 40 || c == 41 || c == 124 || c == 94 || c == 36 || c == 92 || c == 91) ≡ false → (c == 42) ≡ false → (c == 43) ≡ false → (c == 63) ≡ false
        → (c == 123) ≡ false → (c == 93 || c == 125) ≡ true
    rest c s other no_star no_plus no_question no_brace = grind (arith, nat_tests)

no_units : (us : List CodePoint) → values us ≡ [] → us ≡ []
no_units [] h = refl
no_units (u ∷ us) h = absurd (let no : ⊥ = cc h in no)

-- the second unit of code points is one
second_small : (u : CodePoint) (us : List CodePoint) (c : ℕ) (w : List ℕ) → values us ≡ c ∷ w → All (λ (u : CodePoint). u.value ≤ 0x10FFFF) (u ∷ us) → nat_le c 0x10FFFF ≡ true
second_small u [] c w v small = absurd (let no : ⊥ = cc v in no)
second_small u (d ∷ us) c w v small = let same : d.value ≡ c = cc v in let l = small 1 u (omega arith) in le-leb c 0x10FFFF (omega (arith, l, same))

-- With neither `u` nor `v` a unit that is no `(`, `)`, `.`, `|`, `^`, `$`, `\` and `[`, and does not stand for itself, begins a quantifier.
legacy_raw : (e : Environment) (c : ℕ) (w : List ℕ) → is_unicode e.mode ≡ false → is_raw_at e c w ≡ false → counts_at (c ∷ w) ≡ no_counts → is_legacy_syntax c ≡ true
legacy_raw e c w m raw none = elim (cases_Bool (is_legacy_syntax c)) [
  | inl h ↦ h
  | inr h ↦ absurd (true≢false (sym (and_from (stands_raw e.mode c) _ (stands e.mode m h) (or_right (is_unicode e.mode) _ (ap (λ r. not (are_counts r)) none))) ∙ raw))
]
  where
    stands : (mode : Mode) → is_unicode mode ≡ false → is_legacy_syntax c ≡ false → stands_raw mode c ≡ true
    stands Legacy m h = ap not h
    stands mode m h = absurd (true≢false m)

legacy_quantifier : (c : ℕ) (w : List ℕ) → is_legacy_syntax c ≡ true → (c == 46 || c == 40 || c == 41 || c == 124 || c == 94 || c == 36 || c == 92 || c == 91) ≡ false → (c == 42 || c == 43 || c == 63) ≡ true
legacy_quantifier c w s other = grind (arith, nat_tests)

-- With `u` or `v` what does not stand for itself is a SyntaxCharacter.
unicode_syntax : (e : Environment) (c : ℕ) (w : List ℕ) → is_unicode e.mode ≡ true → is_raw_at e c w ≡ false → is_syntax_character c ≡ true
unicode_syntax e c w m raw = elim (cases_Bool (is_syntax_character c)) [
  | inl s ↦ s
  | inr none ↦ absurd (true≢false (sym (raw_in_unicode e c w m (stands e.mode m none)) ∙ raw))
]
  where
    stands : (mode : Mode) → is_unicode mode ≡ true → is_syntax_character c ≡ false → stands_raw mode c ≡ true
    stands Legacy m h = absurd (true≢false (sym m))
    stands mode m h = ap not h

-- Where no counts stand, no `*`, `+` and `?` does.
no_unit_counts : (c : ℕ) (w : List ℕ) → counts_at (c ∷ w) ≡ no_counts → (c == 42 || c == 43 || c == 63) ≡ false
unfolding counts_at
no_unit_counts c w k = elim (chosen (c == 42) k) [
  | inl p ↦ absurd (let no : ⊥ = cc p.1 in no)
  | inr p ↦ elim (chosen (c == 43) p.1) [
    | inl q ↦ absurd (let no : ⊥ = cc q.1 in no)
    | inr q ↦ elim (chosen (c == 63) q.1) [ inl r ↦ absurd (let no : ⊥ = cc r.1 in no) | inr r ↦ or_from (c == 42 || c == 43) (c == 63) (or_from (c == 42) (c == 43) p.0 q.0) r.0 ]
  ]
]

module _ (e : Environment) (allowed : is_unicode e.mode ≡ true → e.named ≡ true) where
  -- a quantifier, from its first unit on
  quantifier_said : (u : CodePoint) (us : List CodePoint) → is_raw_at e u.value (values us) ≡ false
      → (u.value == 46 || u.value == 40 || u.value == 41 || u.value == 124 || u.value == 94 || u.value == 36 || u.value == 92 || u.value == 91) ≡ false
      → Says e (u ∷ us) (quantifier_token (counts_at (values (u ∷ us))) (values (u ∷ us))) (quantifier_read (counts_read_at (values (u ∷ us))) (values (u ∷ us)))
  quantifier_said u us raw other = go (counts_read_at w) refl
    where
      w : List ℕ
      w = values (u ∷ us)

      o : Option (Token × ℕ)
      o = quantifier_token (counts_at w) w

      -- where no counts stand
      unicode_alone : counts_at w ≡ no_counts → is_unicode e.mode ≡ true
      unicode_alone none = elim (cases_Bool (is_unicode e.mode)) [
        | inl unicode ↦ unicode
        | inr legacy ↦ absurd (both_ways _ (no_unit_counts u.value (values us) none) (legacy_quantifier u.value (values us) (legacy_raw e u.value (values us) legacy raw none) other))
      ]

      stops : counts_read_at w ≡ no_counts_read → IsStop e (u ∷ us) 0
      stops h =
          let unicode = unicode_alone (none_there w h) in
          elim (ender u.value (values us) (unicode_syntax e u.value (values us) unicode raw) other h) [
            | inl bracket ↦ at_bracket unicode bracket
            | inr brace ↦ at_brace unicode (eqb-true u.value 123 brace) (no_braces w (none_there w h)) (none_in_limit w h)
          ]

      in_braces : (start many : ℕ) → PassesLimit w start many → is_unicode e.mode ≡ false → (c : Counts) → counts_at w ≡ c → BeginsWithBraces w
      in_braces start many p legacy (counts min max n) h = limit_braces w min max n start many h p
      in_braces start many p legacy no_counts h = absurd (both_ways (is_unicode e.mode) legacy (unicode_alone h))

      no_closer : (c : ℕ) → (c == 46 || c == 40 || c == 41 || c == 124 || c == 94 || c == 36 || c == 92 || c == 91) ≡ false → (c == 41) ≡ false
      no_closer c h = grind (arith, nat_tests)

      go : (r : CountsRead) → counts_read_at w ≡ r → Says e (u ∷ us) o (quantifier_read r w)
      go no_counts_read h = (stops h, no_closer u.value other)
      go (many_digits start many) h = let p = passes_there w start many h in (p, λ legacy. in_braces start many p legacy (counts_at w) refl)
      go (counts_read min max n) h =
          let lazy : FrontRead = cond (starts 63 (drop n w)) (token_read (quantifier min max false) (n + 1)) (token_read (quantifier min max true) n) in
          let large : FrontRead = cond (are_too_large min max) (halted (too_large n)) lazy in
          let read : o ≡ cond (starts 63 (drop n w)) (Some (quantifier min max false, n + 1)) (Some (quantifier min max true, n)) =
          ap (λ c. quantifier_token c w) (counts_there w min max n h) ∙ ap (λ b. cond b (Some (quantifier min max false, n + 1)) (Some (quantifier min max true, n))) (question_starts (drop n w)) in
          cond_both (are_out_of_order min max) (halted (out_of_order n)) large (Says e (u ∷ us) o)
          (λ t. let bad = order_true min max t in (min, max, refused_braces (u ∷ us) min max n h (inl bad), bad))
          (λ order. cond_both (are_too_large min max) (halted (too_large n)) lazy (Says e (u ∷ us) o)
          (λ t. let bad = large_true min max t in (min, max, refused_braces (u ∷ us) min max n h (inr bad), (order_false min max order, bad)))
          (λ large. cond_both (starts 63 (drop n w)) (token_read (quantifier min max false) (n + 1)) (token_read (quantifier min max true) n) (Says e (u ∷ us) o)
          (λ t. (read ∙ cond-true (starts 63 (drop n w)) _ _ t, λ _ names. counts_obey e.groups names min max false order large))
          (λ t. (read ∙ cond-false (starts 63 (drop n w)) _ _ t, λ _ names. counts_obey e.groups names min max true order large))))

  module _ (all : List CodePoint) where
    -- a name after three units
    name_said : (make : List ℕ → Token) (token : Option (List ℕ × ℕ) → Option (Token × ℕ)) → ((name : List ℕ) (n : ℕ) → token (Some (name, n + 1)) ≡ Some (make name, n + 4)) → ((name : List ℕ) → ObeysAlone e (make name))
        → (following : List ℕ) → BeginsName e (values all) following → Says e all (token (name_front (is_unicode e.mode) following)) (with_name make (name_read_at (is_unicode e.mode) following))
    name_said make token made obeys following begins = go (name_read_at (is_unicode e.mode) following) refl
      where
        go : (r : NameRead) → name_read_at (is_unicode e.mode) following ≡ r → Says e all (token (name_front (is_unicode e.mode) following)) (with_name make r)
        go (name_read name n) h = (ap token (name_there (is_unicode e.mode) following name n h) ∙ made name n, λ _. obeys name)
        go (no_name_read it) h = (following, begins, subst (SaysName (is_unicode e.mode) following) h (names_said (is_unicode e.mode) following))

    -- after `(?<`
    angle_said : (w : List ℕ) → values all ≡ 40 ∷ 63 ∷ 60 ∷ w → Says e all (opener_token (angle_group (is_unicode e.mode) w)) (angle_read (is_unicode e.mode) w)
    angle_said w whole = go w whole
      where
        P : Option (Opener × ℕ) → FrontRead → Type 0
        P o r = Says e all (opener_token o) r

        named_said : (w : List ℕ) → values all ≡ 40 ∷ 63 ∷ 60 ∷ w → front_is looks w ≡ false → P (named_group (name_front (is_unicode e.mode) w)) (with_name (λ name. opener (capturing (Some name))) (name_read_at (is_unicode e.mode) w))
        named_said w whole no_look =
            name_said (λ name. opener (capturing (Some name))) (λ o. opener_token (named_group o)) (λ name n. ap (λ n. Some (opener (capturing (Some name)), n)) (omega arith)) (λ name names. tt) w
            (subst (λ v. BeginsName e v w) (sym whole) (of_group no_look))

        go : (w : List ℕ) → values all ≡ 40 ∷ 63 ∷ 60 ∷ w → P (angle_group (is_unicode e.mode) w) (angle_read (is_unicode e.mode) w)
        go [] whole = named_said [] whole refl
        go (c ∷ v) whole =
            choose_both P (c == 61) _ _ _ _ (λ t. (refl, λ _ names. tt)) (λ equal. choose_both P (c == 33) _ _ _ _ (λ t. (refl, λ _ names. tt)) (λ mark.
            named_said (c ∷ v) whole (or_from (c == 61) (c == 33) equal mark)))

    -- modifiers after `(?`
    modified_said : (w : List ℕ) → values all ≡ 40 ∷ 63 ∷ w → front_is is_mark w ≡ false → Says e all (opener_token (modified_group (sides_at w) w)) (modified_read (modifiers_read_at w))
    modified_said w whole other = go (modifiers_read_at w) (modifiers_said w other)
      where
        go : (r : ModifiersRead) → SaysModifiers w (modified_group (sides_at w) w) r → Says e all (opener_token (modified_group (sides_at w) w)) (modified_read r)
        go (modifiers_read a b n) s = (ap opener_token s.0, λ _ names. (s.1, s.2))
        go (no_modifiers_read it n) s = (w, whole, s)

    -- after `(`
    group_said : (w : List ℕ) → values all ≡ 40 ∷ w → Says e all (opener_token (group_front (is_unicode e.mode) w)) (group_read (is_unicode e.mode) w)
    unfolding group_front
    group_said [] whole = (refl, λ _ names. tt)
    group_said (c ∷ w) whole =
        choose_both (λ o r. Says e all (opener_token o) r) (c == 63) _ _ _ _ (λ t. question w (whole ∙ ap (λ c. 40 ∷ c ∷ w) (eqb-true c 63 t))) (λ t. (refl, λ _ names. tt))
      where
        P : Option (Opener × ℕ) → FrontRead → Type 0
        P o r = Says e all (opener_token o) r

        question : (w : List ℕ) → values all ≡ 40 ∷ 63 ∷ w → P (question_group (is_unicode e.mode) w) (question_read (is_unicode e.mode) w)
        question [] whole = modified_said [] whole refl
        question (c ∷ w) whole =
            choose_both P (c == 58) _ _ _ _ (λ t. (refl, λ _ names. tt)) (λ colon. choose_both P (c == 61) _ _ _ _ (λ t. (refl, λ _ names. tt)) (λ equal.
            choose_both P (c == 33) _ _ _ _ (λ t. (refl, λ _ names. tt)) (λ mark. choose_both P (c == 60) _ _ _ _ (λ t. angle_said w (whole ∙ ap (λ c. 40 ∷ 63 ∷ c ∷ w) (eqb-true c 60 t)))
            (λ angle. modified_said (c ∷ w) whole (mark_is c ∙ or_from (c == 58 || c == 61 || c == 33) (c == 60) (or_from (c == 58 || c == 61) (c == 33) (or_from (c == 58) (c == 61) colon equal) mark) angle)))))

    -- after `\k`
    reference_said : e.named ≡ true → (w : List ℕ) → values all ≡ 92 ∷ 107 ∷ w → Says e all (named_token (reference_front (is_unicode e.mode) w)) (reference_read (is_unicode e.mode) w)
    unfolding reference_front
    reference_said there [] whole = ([], whole, refl, there)
    reference_said there (c ∷ w) whole =
        choose_both (λ o r. Says e all (named_token o) r) (c == 60) _ _ _ _
        (λ t. name_said named named_token (λ name n. ap (λ n. Some (named name, n)) (omega arith)) (λ name. tt) w
        (subst (λ v. BeginsName e v w) (sym (whole ∙ ap (λ c. 92 ∷ 107 ∷ c ∷ w) (eqb-true c 60 t))) (of_reference there)))
        (λ t. (c ∷ w, whole, t, there))

    -- a reference by number
    indexed_said : (c : ℕ) (w : List ℕ) → is_within 49 57 c ≡ true → (d : Digits) → digits_after 0 0 (c ∷ w) ≡ d → Says e all (indexed_token d) (indexed_read e.groups d)
    indexed_said c w first (digits n count rest) h =
        cond_both (nat_lt e.groups n) (halted (no_such_group (count + 1))) (token_read (indexed n) (count + 1)) (Says e all (Some (indexed n, count + 1)))
        (λ t. (n, refl, ltb-true e.groups n t)) (λ t. (refl, λ _ names. (index_some c w n count rest first h, ltb-false e.groups n t)))

  -- a character escape after a backslash, or none
  escape_said : (u : CodePoint) (us : List CodePoint) → u.value ≡ 92 → (c : ℕ) (w : List ℕ) → values us ≡ c ∷ w → (is_unicode e.mode ≡ true → (is_within 49 57 c || c == 107 || begins_property c) ≡ false)
      → (c == 107 && e.named) ≡ false → (b : Option BoundaryAssertionKind) → boundary_at e c ≡ b → (k : Option CharacterClassEscapeKind) → class_escape_at c ≡ k → (r : EscapeRead) → any_escape_at false e (c ∷ w) ≡ r
      → backslash_front e (c ∷ w) ≡ backslash_token b k r → Says e (u ∷ us) (backslash_token b k r) (one_of_escapes b k r)
  escape_said u us h c w v free no_k (Some kind) b k kl r read front = (refl, λ _ names. tt)
  escape_said u us h c w v free no_k None b (Some kind) kl r read front = (refl, λ _ names. tt)
  escape_said u us h c w v free no_k None b None kl r read front = go r read front
    where
      -- with neither `u` nor `v` some escape stands
      unicode_alone : backslash_front e (c ∷ w) ≡ None → is_unicode e.mode ≡ true
      unicode_alone none = elim (cases_Bool (is_unicode e.mode)) [
        | inl unicode ↦ unicode
        | inr legacy ↦ absurd (let some = token_there e legacy c w no_k in let some_is = some.1 in let no : ⊥ = cc (some_is, none) in no)
      ]

      read_true : is_unicode e.mode ≡ true → (r : EscapeRead) → any_escape_at false e (c ∷ w) ≡ r → escape_at true (c ∷ w) ≡ r
      read_true unicode r h = ap (λ m. escape_at m (c ∷ w)) (sym unicode) ∙ sym (any_in_unicode false e (c ∷ w) unicode) ∙ h

      whole : values (u ∷ us) ≡ 92 ∷ c ∷ w
      whole = ap (λ x. x ∷ values us) h ∙ ap (λ v. 92 ∷ v) v

      none_first : (c : ℕ) → (is_within 49 57 c || c == 107 || begins_property c) ≡ false → (c == 117) ≡ false → (is_one_of (codes "upPk") c || is_within 49 57 c) ≡ false
      none_first c free k = grind (arith, nat_tests)

      go : (r : EscapeRead) → any_escape_at false e (c ∷ w) ≡ r → backslash_front e (c ∷ w) ≡ backslash_token None None r → Says e (u ∷ us) (backslash_token None None r) (one_of_escapes None None r)
      go (escaped kind x n) read front = (refl, λ small names. any_small false e kind x n (c ∷ w) (second_small u us c w v small) read)
      go nothing read front =
          let unicode = unicode_alone front in
          let stops = stop_backslash e (c ∷ w) unicode front (none_first c (free unicode) (escape_nothing (c ∷ w) (read_true unicode nothing read))) in
          (subst (λ v. IsStop e (u ∷ us) 1) v (after_backslash unicode h (ap (begins_escape e) v ∙ stops)), differs (λ c. c == 92) u.value 41 refl (eq-eqb u.value 92 h))
      go (too_many n) read front = let unicode = unicode_alone front in (unicode, c ∷ w, whole, escape_too_many (c ∷ w) n (read_true unicode (too_many n) read))
      go no_unicode read front = let unicode = unicode_alone front in (unicode, c ∷ w, whole, escape_no_unicode (c ∷ w) (read_true unicode no_unicode read))

  -- after a backslash
  backslash_said : (u : CodePoint) (us : List CodePoint) → u.value ≡ 92 → (w : List ℕ) → values us ≡ w → Says e (u ∷ us) (backslash_front e w) (backslash_read e w)
  unfolding backslash_front
  backslash_said u us h [] v =
      cond_both (is_unicode e.mode) (ends_here 1) last_backslash (λ it. Says e (u ∷ us) None (halted it))
      (λ unicode. (after_backslash unicode h (ap (begins_escape e) v), differs (λ c. c == 92) u.value 41 refl (eq-eqb u.value 92 h)))
      (λ legacy. (legacy, u, ap (λ us. u ∷ us) (no_units us v), h))
  backslash_said u us h (c ∷ w) v =
      let whole : values (u ∷ us) ≡ 92 ∷ c ∷ w = ap (λ x. x ∷ values us) h ∙ ap (λ v. 92 ∷ v) v in
      choose_both (Says e (u ∷ us)) (is_reference e (c ∷ w)) _ _ _ _
      (λ t. indexed_said (u ∷ us) c w (and_parts (is_within 49 57 c) _ t).0 (digits_after 0 0 (c ∷ w)) refl)
      (λ index. choose_both (Says e (u ∷ us)) (c == 107 && e.named) _ _ _ _
      (λ t. let p = and_parts (c == 107) e.named t in reference_said (u ∷ us) p.1 w (whole ∙ ap (λ c. 92 ∷ c ∷ w) (eqb-true c 107 p.0)))
      (λ no_k. choose_both (Says e (u ∷ us)) (begins_property c && is_unicode e.mode) _ _ _ _
      (λ t. (c, w, whole, t))
      (λ no_property. escape_said u us h c w v (λ unicode. no_beginning unicode index no_k no_property) no_k (boundary_at e c) refl (class_escape_at c) refl (any_escape_at false e (c ∷ w)) refl
      (cond-false (is_reference e (c ∷ w)) _ _ index ∙ cond-false (c == 107 && e.named) _ _ no_k ∙ cond-false (begins_property c && is_unicode e.mode) _ _ no_property))))
    where
      by_true : (a b : Bool) → b ≡ true → (a && b) ≡ a
      by_true true b h = h
      by_true false b h = refl

      no_beginning : is_unicode e.mode ≡ true → is_reference e (c ∷ w) ≡ false → (c == 107 && e.named) ≡ false → (begins_property c && is_unicode e.mode) ≡ false → (is_within 49 57 c || c == 107 || begins_property c) ≡ false
      no_beginning unicode index no_k no_property =
          or_from (is_within 49 57 c || c == 107) (begins_property c)
          (or_from (is_within 49 57 c) (c == 107) (sym (by_true (is_within 49 57 c) _ (or_left (is_unicode e.mode) _ unicode)) ∙ index) (sym (by_true (c == 107) e.named (allowed unicode)) ∙ no_k))
          (sym (by_true (begins_property c) (is_unicode e.mode) unicode) ∙ no_property)

  -- What is read at the front holds.
  pub front_said : (us : List CodePoint) → Says e us (front e us) (front_read e us)
  unfolding front front_read
  front_said [] = (at_end, refl)
  front_said (u ∷ us) =
      let P : Option (Token × ℕ) → FrontRead → Type 0 = Says e (u ∷ us) in
      choose_both P (is_raw_at e u.value (values us)) _ _ _ _ (λ t. (refl, λ small names. small 0 u (omega arith))) (λ raw.
      choose_both P (u.value == 92) _ _ _ _ (λ t. backslash_said u us (eqb-true u.value 92 t) (values us) refl) (λ no_backslash.
      choose_both P (u.value == 91) _ _ _ _ (λ t. t) (λ no_bracket.
      choose_both P (u.value == 46) _ _ _ _ (λ t. (refl, λ _ names. tt)) (λ no_dot.
      choose_both P (u.value == 40) _ _ _ _ (λ t. group_said (u ∷ us) (values us) (ap (λ c. c ∷ values us) (eqb-true u.value 40 t))) (λ no_group.
      choose_both P (u.value == 41) _ _ _ _ (λ t. (refl, λ _ names. tt)) (λ no_closer.
      choose_both P (u.value == 124) _ _ _ _ (λ t. (refl, λ _ names. tt)) (λ no_bar.
      choose_both P (u.value == 94) _ _ _ _ (λ t. (refl, λ _ names. tt)) (λ no_start.
      choose_both P (u.value == 36) _ _ _ _ (λ t. (refl, λ _ names. tt)) (λ no_end.
      quantifier_said u us raw (or_from _ (u.value == 91) (or_from _ (u.value == 92) (or_from _ (u.value == 36) (or_from _ (u.value == 94) (or_from _ (u.value == 124) (or_from _ (u.value == 41)
      (or_from (u.value == 46) (u.value == 40) no_dot no_group) no_closer) no_bar) no_start) no_end) no_backslash) no_bracket))))))))))
