-- With neither `u` nor `v`: at a place that is reached the text ends with no group open, a further place is reached, or a refusal holds; but for modifiers,
-- which no mode changes.
use Rattle.std.proofs.Common.{◌≡◌, ◌⊎◌, refl, ap, ap₂, sym, ◌∙◌, subst, ℕ, suc, ◌+◌, ◌-◌, ◌*◌, ◌<◌, ◌≤◌, ◌==◌, ◌&&◌, ◌||◌, Bool, true, false, not, nat_le, cond, Option, Some, None, List, [], ◌∷◌, ◌++◌, length, drop, codes, arith, inl, inr, length-append, append_assoc}
use Rattle.std.specs.Prelude.{Contains}
use Rattle.std.proofs.lemmas.Bool.{both_ways, cases_Bool, cond-false, cond-true, eqb-true, leb-true, or_cases, not-false}
use Rattle.std.proofs.lemmas.Bool.Decides.{nat_tests}
use Rattle.std.proofs.lemmas.List.{map-append}
use Rattle.std.proofs.lemmas.List.Elements.{All-append, All-cons, All-nil}
use Rattle.std.proofs.lemmas.Map.Made.{Contains-tail}
use Rattle.std.proofs.lemmas.Option.{option_and_then_some}
use Rattle.rx_base.specs.Characters.{is_one_of}
use Rattle.rx_base.specs.declared.diagnostic.Diagnostic.{Diagnostic}
use Rattle.rx_units.specs.declared.code_point.CodePoint.{CodePoint}
use Rattle.rx_units.specs.Units.{values}
use Rattle.rx_units.specs.Digits.{front_is}
use Rattle.rx_units.proofs.Choices.{both, chosen}
use Rattle.rx_model.specs.declared.mode.Mode.TheVariants.{Legacy}
use Rattle.rx_model.specs.Characters.Decoding.{Decoded, value, invalid, overflow, decoding_of}
use Rattle.rx_model.specs.Characters.UnitKinds.{unit_kind}
use Rattle.rx_model.specs.FirstPass.Marks.{starts}
use Rattle.rx_model.specs.Groups.GroupFronts.{angle_group, closed_name, group_front, name_front, named_group, question_group, reference_front}
use Rattle.rx_model.specs.Groups.GroupNameReading.{NameRow, row, name_at}
use Rattle.rx_model.specs.Groups.GroupNames.{IsNameRow}
use Rattle.rx_model.specs.Groups.NameFronts.{begins_pair}
use Rattle.rx_model.specs.Groups.Groups.{BeginsName, EndsName, of_group, of_reference, is_mark}
use Rattle.rx_model.specs.Inputs.Environment.{Environment, for_classes}
use Rattle.rx_model.specs.Quantifiers.CountsReading.{CountsRead, counts_read, no_counts_read, many_digits, counts_read_at}
use Rattle.rx_model.specs.Quantifiers.Quantifiers.{AreDigits, SpellsBraces, SpellsCounts, braces, decimal_after, decimal_digit_value, lazy_mark, optional, plus, star}
use Rattle.rx_model.specs.Reading.Fronts.{Counts, backslash_front, counts, counts_at, front, named_token, no_counts, opener_token, quantifier_token, syntax_front}
use Rattle.rx_model.specs.Reading.Rows.{Spells, is_legacy_syntax}
use Rattle.rx_model.specs.Refusals.Causes as cause
use Rattle.rx_model.specs.Refusals.Causes.{HasBraces, begins_modifiers, IsCauseAtPlace, IsOutOfOrder, IsTooLarge}
use Rattle.rx_model.specs.Refusals.Reached.{IsPlace, IsReached, text_environment, text_groups, text_names}
use Rattle.rx_model.specs.Refusals.Stops as stop
use Rattle.rx_model.specs.Spelling.ReadBack.{AreCodeUnits}
use Rattle.rx_model.specs.Trees.Early.{IsGreatest, Obeys, greatest_count}
use Rattle.rx_model.specs.Trees.Shapes.{run}
use Rattle.rx_model.specs.Trees.Token.{Token, Opener, boundary, character, dot, class_escape, property, class, indexed, named, opener, closer, bar, quantifier, capturing, ignoring, looking}
use Rattle.rx_model.specs.declared.rules.Rules.{Rules}
use Rattle.rx_model.proofs.Characters.Decoding.{overflow_read, read_overflow, value_law}
use Rattle.rx_model.proofs.Classes.ClassReads.{class_opens}
use Rattle.rx_model.proofs.Classes.LegacyClasses.{class_or_refusal}
use Rattle.rx_model.proofs.Groups.GroupNames.{name_row_law, no_name_read}
use Rattle.rx_model.proofs.Groups.Modifiers.{no_mark}
use Rattle.rx_model.proofs.Quantifiers.CountsReading.{decimal_le, in_braces, limit_read, none_there, passes_there}
use Rattle.rx_model.proofs.Quantifiers.BlockedCounts.{standing}
use Rattle.rx_model.proofs.Quantifiers.DecimalDigits.{digit_there}
use Rattle.rx_model.proofs.Quantifiers.Quantifiers.{counts_spelled, no_braces, spelled_counts}
use Rattle.rx_model.proofs.Reading.Fronts.{front_by_values, front_spelled, spelled_front, spelled_some}
use Rattle.rx_model.proofs.Refusals.BlockedFronts.{backslash_k}
use Rattle.rx_model.proofs.Refusals.InnermostGroups.{innermost}
use Rattle.rx_model.proofs.Groups.NameFronts.{no_pair, pair_begins}
use Rattle.rx_model.proofs.Refusals.LegacyRaws.{unit_stands}
use Rattle.rx_model.proofs.Refusals.LegacyStops.{backslash_read}
use Rattle.rx_model.proofs.Spelling.Bounds.{character_low, units_front}
use Rattle.rx_model.proofs.Trees.Joins.{token_row_append}
use Rattle.rx_model.proofs.Trees.Runs.{run-append}
use Rattle.rx_model.proofs.Groups.GroupFronts.{mark_is}

-- Whether two names are one.
same_text : (w v : List ℕ) → (w ≡ v) ⊎ (w ≡ v → ⊥)
same_text [] [] = inl refl
same_text [] (d ∷ v) = inr (λ e. cc e)
same_text (c ∷ w) [] = inr (λ e. cc e)
same_text (c ∷ w) (d ∷ v) = elim (cases_Bool (c == d)) [
  | inl h ↦ elim (same_text w v) [
    | inl same ↦ inl (ap₂ (λ c w. c ∷ w) (eqb-true c d h) same)
    | inr other ↦ inr (λ e. let k : w ≡ v = cc e in other k)
  ]
  | inr h ↦ inr (λ e. let k : c ≡ d = cc e in let no : ⊥ = grind (arith, nat_tests, k, h) in no)
]

-- Whether a name is among others.
among : (names : List (List ℕ)) (name : List ℕ) → Contains names name ⊎ (Contains names name → ⊥)
among [] name = inr (λ c. omega (arith, c.1))
among (first ∷ names) name = elim (same_text first name) [
  | inl same ↦ inl (0, omega arith, same)
  | inr other ↦ elim (among names name) [
    | inl c ↦ inl (suc c.0, omega (arith, c.1), c.2)
    | inr none ↦ inr (λ c. none (Contains-tail first names name other c))
  ]
]

-- What numbers in braces are: out of order, too large, or some that obey.
data Numbers (min : ℕ) (max : Option ℕ) : Type 0 where
  out_of_order : IsOutOfOrder min max → Numbers min max
  too_large : (IsOutOfOrder min max → ⊥) → IsTooLarge min max → Numbers min max
  obeying : min ≤ greatest_count → IsGreatest min max → Numbers min max

numbers : (min : ℕ) (max : Option ℕ) → Numbers min max
numbers min None = elim (cases_Bool (nat_le min greatest_count)) [
  | inl h ↦ obeying (leb-true min greatest_count h) tt
  | inr h ↦ too_large (λ no. no) (let l : greatest_count < min = grind (arith, nat_tests, h) in l)
]
numbers min (Some max) = elim (cases_Bool (nat_le min max)) [
  | inl order ↦
      let o = leb-true min max order in
      elim (cases_Bool (nat_le max greatest_count)) [
        | inl h ↦ let l = leb-true max greatest_count h in obeying (omega (arith, o, l)) (o, l)
        | inr h ↦ too_large (λ out. omega (arith, o, out)) (inr (let l : greatest_count < max = grind (arith, nat_tests, h) in l))
      ]
  | inr out ↦ out_of_order (let l : max < min = grind (arith, nat_tests, out) in l)
]

-- some token stands
abbrev IsSome : Option (Token × ℕ) → Type 0
IsSome o = (p : Token × ℕ) × (o ≡ Some p)

some_quantifier : (min : ℕ) (max : Option ℕ) (n : ℕ) (w : List ℕ) → IsSome (quantifier_token (counts min max n) w)
some_quantifier min max n w = elim (cases_Bool (front_is (λ c. c == 63) (drop n w))) [ inl h ↦ (_, cond-true (front_is (λ c. c == 63) (drop n w)) _ _ h) | inr h ↦ (_, cond-false (front_is (λ c. c == 63) (drop n w)) _ _ h) ]

-- A SyntaxCharacter that is no backslash, no `(` and no `[` is a token.
some_syntax : (e : Environment) (c : ℕ) (w : List ℕ) → is_one_of (codes "^$.*+?)|") c ≡ true → IsSome (syntax_front e c w)
unfolding counts_at
some_syntax e c w h = elim (or_cases (c == 94) _ h) [
  | inl p ↦ at 94 p (_, refl)
  | inr h ↦ elim (or_cases (c == 36) _ h) [
    | inl p ↦ at 36 p (_, refl)
    | inr h ↦ elim (or_cases (c == 46) _ h) [
      | inl p ↦ at 46 p (_, refl)
      | inr h ↦ elim (or_cases (c == 42) _ h) [
        | inl p ↦ at 42 p (some_quantifier 0 None 1 (42 ∷ w))
        | inr h ↦ elim (or_cases (c == 43) _ h) [
          | inl p ↦ at 43 p (some_quantifier 1 None 1 (43 ∷ w))
          | inr h ↦ elim (or_cases (c == 63) _ h) [
            | inl p ↦ at 63 p (some_quantifier 0 (Some 1) 1 (63 ∷ w))
            | inr h ↦ elim (or_cases (c == 41) _ h) [
              | inl p ↦ at 41 p (_, refl)
              | inr h ↦ elim (or_cases (c == 124) false h) [ inl p ↦ at 124 p (_, refl) | inr k ↦ absurd (let f : ⊥ = cc k in f) ]
            ]
          ]
        ]
      ]
    ]
  ]
]
  where
    at : (d : ℕ) → (c == d) ≡ true → IsSome (syntax_front e d w) → IsSome (syntax_front e c w)
    at d p s = subst (λ c. IsSome (syntax_front e c w)) (sym (eqb-true c d p)) s

module _ (rules : Rules) (us : List CodePoint) (start added : ℕ) where
  abbrev here : Environment
  here = text_environment Legacy rules us

  abbrev Further : ℕ → Type 0
  Further place = (further : ℕ) × (back : List CodePoint) × (place < further) × IsPlace Legacy rules us further back

  abbrev Refused : Type 0
  Refused = (f : ℕ) × (d : Diagnostic) × IsCauseAtPlace Legacy rules us start added f d

  -- A token that stands, is accepted and obeys leads to a further place.
  on : {place : ℕ} {open_groups : List Opener} {ready : Bool} {rest : List CodePoint} → IsReached Legacy rules us place open_groups ready rest → (t : Token) (w more : List CodePoint) (open_after : List Opener) (ready_after : Bool) →
      rest ≡ w ++ more → Spells here t w more → run Legacy (t ∷ []) open_groups ready ≡ Some (open_after, ready_after) → Obeys (text_groups Legacy us) (text_names Legacy us) t → Further place
  on {place} {open_groups} {ready} {rest} r t w more open_after ready_after whole s run_is o =
      let owed = Obeys (text_groups Legacy us) (text_names Legacy us) in (
        place + length w,
        more,
        omega (arith, spelled_some here t w more s),
        record {
          open_groups = open_after;
          ready = ready_after;
          reached = record {
            tokens = r.tokens ++ (t ∷ []);
            row = token_row_append here r.tokens (t ∷ []) us rest more r.row (w, more, whole, s, refl);
            place_is = omega (arith, r.place_is, ap length whole, length-append w more);
            accepted = run-append Legacy r.tokens (t ∷ []) [] false open_groups ready r.accepted ∙ run_is;
            obey = All-append owed r.tokens (t ∷ []) r.obey (All-cons owed t [] o (All-nil owed));
          };
        },
      )

  -- the same place, whatever was accepted
  its_place : {place : ℕ} {open_groups : List Opener} {ready : Bool} {rest : List CodePoint} → IsReached Legacy rules us place open_groups ready rest → IsPlace Legacy rules us place rest
  its_place {place} {open_groups} {ready} r = record { open_groups = open_groups; ready = ready; reached = r }

  index_is : (n : ℕ) (ds : List ℕ) → AreDigits n ds → starts 48 ds ≡ false → 1 ≤ n
  index_is n ds d other = first (d.first) d.more (ap (decimal_after 0) (sym d.some) ∙ d.number) (ap (starts 48) (sym d.some) ∙ other)
    where
      first : (c : ℕ) (more : List ℕ) → decimal_after 0 (c ∷ more) ≡ Some n → (c == 48) ≡ false → 1 ≤ n
      first c more h k = option_and_then_some (λ d. decimal_after (10 * 0 + d) more) (decimal_digit_value c) n h (λ d e f.
          let t = digit_there c d e in
          let l = decimal_le (10 * 0 + d) more n f in
          let some : 0 < c - 48 = grind (arith, nat_tests, t.0, k) in
          omega (arith, t.1, l, some))

  -- A quantifier leads on, or is refused.
  quantifier_there : {place : ℕ} {open_groups : List Opener} {ready : Bool} {rest : List CodePoint} → IsReached Legacy rules us place open_groups ready rest → (min : ℕ) (max : Option ℕ) (greedy : Bool) (w more : List CodePoint) → rest ≡ w ++ more →
      Spells here (quantifier min max greedy) w more → Further place ⊎ Refused
  quantifier_there {place} {open_groups} {ready} {rest} r min max greedy w more whole s = by (numbers min max)
    where
      text : values rest ≡ s.prefix ++ (lazy_mark greedy ++ values more)
      text = ap values whole ∙ map-append (λ (u : CodePoint). u.value) w more ∙ ap (λ v. v ++ values more) s.whole ∙ append_assoc s.prefix (lazy_mark greedy) (values more)

      obeyed : (b : Bool) → IsReached Legacy rules us place open_groups b rest → Obeys (text_groups Legacy us) (text_names Legacy us) (quantifier min max greedy) → Further place ⊎ Refused
      obeyed true at o = inl (on at (quantifier min max greedy) w more open_groups false whole s refl o)
      obeyed false at o =
          let owed = Obeys (text_groups Legacy us) (text_names Legacy us) in
          inr (place, _, cause.lone_in_legacy place min max greedy open_groups w more (subst (IsReached Legacy rules us place open_groups false) whole at) refl s (All-cons owed (quantifier min max greedy) [] o (All-nil owed)))

      bad_by : IsOutOfOrder min max ⊎ IsTooLarge min max → (HasBraces min max (length s.prefix) rest → Refused) → (c : CountsRead) → counts_read_at (values rest) ≡ c → Refused
      bad_by bad refuse (counts_read low high n) h = refuse (record {
        prefix = s.prefix;
        following = lazy_mark greedy ++ values more;
        spelled = in_braces min max s.prefix s.counts bad;
        whole = text;
        count_is = refl;
        in_limit = λ from many p. let no : counts_read low high n ≡ many_digits from many = sym h ∙ limit_read (values rest) from many p in cc no;
      })
      bad_by bad refuse no_counts_read h =
          absurd (let no : no_counts ≡ counts min max (length s.prefix) = sym (none_there (values rest) h) ∙ ap counts_at text ∙ spelled_counts min max s.prefix (lazy_mark greedy ++ values more) s.counts in let f : ⊥ = cc no in f)
      bad_by bad refuse (many_digits from many) h = (
        place,
        _,
        cause.too_many_digits place from many rest (its_place r) (passes_there (values rest) from many h) (λ _. record {
          min = min;
          max = max;
          prefix = s.prefix;
          rest = lazy_mark greedy ++ values more;
          spelled = in_braces min max s.prefix s.counts bad;
          whole = text;
        }),
      )

      by : Numbers min max → Further place ⊎ Refused
      by (out_of_order out) = inr (bad_by (inl out) (λ h. (place, _, cause.out_of_order place (length s.prefix) min max rest (its_place r) h out)) (counts_read_at (values rest)) refl)
      by (too_large order large) = inr (bad_by (inr large) (λ h. (place, _, cause.too_large place (length s.prefix) min max rest (its_place r) h order large)) (counts_read_at (values rest)) refl)
      by (obeying low high) = obeyed ready r (low, high)

  -- A class leads on, or is refused.
  class_there : {place : ℕ} {open_groups : List Opener} {ready : Bool} (u : CodePoint) (rest : List CodePoint) → IsReached Legacy rules us place open_groups ready (u ∷ rest) → u.value ≡ 91 → AreCodeUnits rest → Further place ⊎ Refused
  class_there {place} {open_groups} {ready} u rest r h units = elim (class_or_refusal us start added place (u ∷ rest) u rest refl h units) [
    | inl c ↦ inl (on r (class c.0) c.1 c.2 open_groups true c.3 c.4 refl c.5)
    | inr c ↦ inr (c.0, c.1, cause.of_class place c.0 (u ∷ rest) (its_place r) c.2)
  ]

  closer_there : (place : ℕ) (open_groups : List Opener) (ready : Bool) (u : CodePoint) (rest : List CodePoint) → IsReached Legacy rules us place open_groups ready (u ∷ rest) → (w more : List CodePoint) → u ∷ rest ≡ w ++ more → Spells here closer w more →
      Further place ⊎ Refused
  closer_there place [] ready u rest r w more whole s =
      let text : values (u ∷ rest) ≡ 41 ∷ values more = ap values whole ∙ map-append (λ (u : CodePoint). u.value) w more ∙ ap (λ v. v ++ values more) s in
      let is : u.value ≡ 41 = cc text in
      inr (place, _, cause.incomplete place 0 ready (u ∷ rest) r (stop.at_closer is) (λ e. cc e))
  closer_there place (o ∷ open_groups) ready u rest r w more whole s = inl (on r closer w more open_groups _ whole s refl tt)

  -- A token that stands leads on, or is refused.
  token_there : {place : ℕ} {open_groups : List Opener} {ready : Bool} (u : CodePoint) (rest : List CodePoint) → IsReached Legacy rules us place open_groups ready (u ∷ rest) → AreCodeUnits (u ∷ rest) → begins_modifiers (values (u ∷ rest)) ≡ false →
      (t : Token) (w more : List CodePoint) → u ∷ rest ≡ w ++ more → Spells here t w more → Further place ⊎ Refused
  token_there {place} {open_groups} {ready} u rest r units other (boundary kind) w more whole s = inl (on r (boundary kind) w more open_groups false whole s refl tt)
  token_there {place} {open_groups} {ready} u rest r units other (character kind v) w more whole s =
      let low = character_low here kind v w more s (λ _. units_front w more (subst AreCodeUnits whole units)) refl in
      inl (on r (character kind v) w more open_groups true whole s refl (omega (arith, low)))
  token_there {place} {open_groups} {ready} u rest r units other dot w more whole s = inl (on r dot w more open_groups true whole s refl tt)
  token_there {place} {open_groups} {ready} u rest r units other (class_escape kind) w more whole s = inl (on r (class_escape kind) w more open_groups true whole s refl tt)
  token_there u rest r units other (property negative strings name v) w more whole s = absurd (let no = s.unicode in let f : ⊥ = cc no in f)
  token_there u rest r units other (class c) w more whole s =
      let k = class_opens (for_classes here) c w more s in
      let first : u ∷ rest ≡ k.0 ∷ k.1 = whole ∙ k.2 in
      let same : u ≡ k.0 = cc first in
      class_there u rest r (ap (λ u. u.value) same ∙ k.3) units.1
  token_there {place} {open_groups} {ready} u rest r units other (indexed n) w more whole s =
      inl (on r (indexed n) w more open_groups true whole s refl (index_is n s.digits s.number s.not_zero, leb-true n (text_groups Legacy us) s.refers))
  token_there {place} {open_groups} {ready} u rest r units other (named name) w more whole s = elim (among (text_names Legacy us) name) [
    | inl there ↦ inl (on r (named name) w more open_groups true whole s refl there)
    | inr none ↦ inr (place, _, cause.no_such_name place name w more (subst (IsPlace Legacy rules us place) whole (its_place r)) s none)
  ]
  token_there {place} {open_groups} {ready} u rest r units other (opener (capturing name)) w more whole s = inl (on r (opener (capturing name)) w more (capturing name ∷ open_groups) false whole s refl tt)
  token_there {place} {open_groups} {ready} u rest r units other (opener (ignoring None)) w more whole s = inl (on r (opener (ignoring None)) w more (ignoring None ∷ open_groups) false whole s refl tt)
  token_there u rest r units other (opener (ignoring (Some bits))) w more whole s =
      let m = no_mark bits.0 bits.1 s.text s.spelled in
      let text : values (u ∷ rest) ≡ 40 ∷ 63 ∷ m.0 ∷ ((m.1 ++ (58 ∷ [])) ++ values more) =
      ap values whole ∙ map-append (λ (u : CodePoint). u.value) w more ∙ ap (λ v. v ++ values more) (s.whole ∙ ap (λ t. 40 ∷ 63 ∷ (t ++ (58 ∷ []))) m.2) in
      absurd (both_ways (begins_modifiers (values (u ∷ rest))) other (ap begins_modifiers text ∙ ap not m.3))
  token_there {place} {open_groups} {ready} u rest r units other (opener (looking kind)) w more whole s = inl (on r (opener (looking kind)) w more (looking kind ∷ open_groups) false whole s refl tt)
  token_there {place} {open_groups} {ready} u rest r units other closer w more whole s = closer_there place open_groups ready u rest r w more whole s
  token_there {place} {open_groups} {ready} u rest r units other bar w more whole s = inl (on r bar w more open_groups false whole s refl tt)
  token_there u rest r units other (quantifier min max greedy) w more whole s = quantifier_there r min max greedy w more whole s

  -- A name that is not whole is refused.
  name_there : (place : ℕ) (rest : List CodePoint) → IsPlace Legacy rules us place rest → (w following : List ℕ) → values rest ≡ w → BeginsName here w following → name_front false following ≡ None → Refused
  name_there place rest p w following text begins none = by (name_at false following) refl none
    where
      ends_with : (n : ℕ) (back : List ℕ) → IsNameRow false following n → drop n following ≡ back → EndsName here (values rest) n back
      ends_with n back longest h = record { following = following; begins = subst (λ w. BeginsName here w following) (sym text) begins; longest = longest; rest_is = sym h }

      escape_there : (n : ℕ) (v : List ℕ) (d : Decoded) → decoding_of true v ≡ d → EndsName here (values rest) n (92 ∷ v) → Refused
      escape_there n v (value x k) h e = (place, _, cause.misplaced_in_name place n x k rest v p e ((value_law true v x k).0 h))
      escape_there n v (overflow many) h e = (place, _, cause.too_many_digits_in_name place n many rest v p e (read_overflow true v many h).1)
      escape_there n v invalid h e = (
        place,
        _,
        cause.invalid_in_name place n rest v p e (λ x k d. let no : invalid ≡ value x k = sym h ∙ (value_law true v x k).1 d in cc no)
            (λ many d. let no : invalid ≡ overflow many = sym h ∙ overflow_read v many d in cc no) refl,
      )

      after_row : (n : ℕ) (back : List ℕ) → IsNameRow false following n → (starts 62 back ≡ true → n ≡ 0) → drop n following ≡ back → Refused
      after_row n [] longest closes h = (place, _, cause.unterminated_name_in_legacy place n rest [] p refl (ends_with n [] longest h) refl (λ b. let no = b.whole in cc no) closes)
      after_row n (c ∷ v) longest closes h = elim (cases_Bool (c == 92)) [
        | inl b ↦ escape_there n v (decoding_of true v) refl (ends_with n (92 ∷ v) longest (h ∙ ap (λ c. c ∷ v) (eqb-true c 92 b)))
        | inr b ↦ elim (cases_Bool (begins_pair (c ∷ v))) [
          | inl t ↦ (place, _, cause.misplaced_pair place n rest (c ∷ v) p refl (ends_with n (c ∷ v) longest h) (pair_begins (c ∷ v) t))
          | inr t ↦ (place, _, cause.unterminated_name_in_legacy place n rest (c ∷ v) p refl (ends_with n (c ∷ v) longest h) b (no_pair (c ∷ v) t) closes)
        ]
      ]

      not_closed : (c : ℕ) (cs : List ℕ) (n : ℕ) → closed_name (row (c ∷ cs) n) following ≡ None → starts 62 (drop n following) ≡ true → n ≡ 0
      not_closed c cs n h t = absurd (let no : Some (c ∷ cs, n + 1) ≡ None = sym (cond-true (starts 62 (drop n following)) _ _ t) ∙ h in let f : ⊥ = cc no in f)

      by : (r : NameRow) → name_at false following ≡ r → closed_name (name_at false following) following ≡ None → Refused
      by (row [] n) h k = after_row n (drop n following) (name_row_law false following [] n h) (λ t. no_name_read false following n h) refl
      by (row (c ∷ cs) n) h k = after_row n (drop n following) (name_row_law false following (c ∷ cs) n h) (not_closed c cs n (ap (λ r. closed_name r following) (sym h) ∙ k)) refl

  named_none : (o : Option (List ℕ × ℕ)) → opener_token (named_group o) ≡ None → o ≡ None
  named_none None h = refl
  named_none (Some n) h = absurd (let no : ⊥ = cc h in no)

  -- After `(` a token stands, or a name is refused.
  angle_there : (place : ℕ) (rest : List CodePoint) → IsPlace Legacy rules us place rest → (v : List ℕ) → values rest ≡ 40 ∷ 63 ∷ 60 ∷ v → opener_token (angle_group false v) ≡ None → Refused
  angle_there place rest p [] text h = name_there place rest p _ [] text (of_group refl) refl
  angle_there place rest p (x ∷ y) text h = elim (chosen (x == 61) (ap (λ o. o) (sym (if_opener (x == 61) _ _) ∙ h))) [
    | inl q ↦ absurd (let no : ⊥ = cc q.1 in no)
    | inr q ↦ elim (chosen (x == 33) (sym (if_opener (x == 33) _ _) ∙ q.1)) [
      | inl z ↦ absurd (let no : ⊥ = cc z.1 in no)
      | inr z ↦ name_there place rest p _ (x ∷ y) text (of_group (rw (q.0, z.0) refl)) (named_none (name_front false (x ∷ y)) z.1)
    ]
  ]
    where
      if_opener : (b : Bool) (s t : Option (Opener × ℕ)) → opener_token (cond b s t) ≡ cond b (opener_token s) (opener_token t)
      if_opener true s t = refl
      if_opener false s t = refl

  question_there : (place : ℕ) (rest : List CodePoint) → IsPlace Legacy rules us place rest → (d : ℕ) (v : List ℕ) → values rest ≡ 40 ∷ 63 ∷ d ∷ v → is_mark d ≡ true → opener_token (question_group false (d ∷ v)) ≡ None → Refused
  question_there place rest p d v text mark h = elim (or_cases (d == 58 || d == 61 || d == 33) (d == 60) (sym (mark_is d) ∙ mark)) [
    | inl m ↦ elim (or_cases (d == 58 || d == 61) (d == 33) m) [
      | inl n ↦ elim (or_cases (d == 58) (d == 61) n) [
        | inl k ↦ absurd (let no = at 58 k in let f : ⊥ = cc no in f)
        | inr k ↦ absurd (let no = at 61 k in let f : ⊥ = cc no in f)
      ]
      | inr k ↦ absurd (let no = at 33 k in let f : ⊥ = cc no in f)
    ]
    | inr k ↦ angle_there place rest p v (text ∙ ap (λ d. 40 ∷ 63 ∷ d ∷ v) (eqb-true d 60 k)) (at 60 k)
  ]
    where
      at : (c : ℕ) → (d == c) ≡ true → opener_token (question_group false (c ∷ v)) ≡ None
      at c k = subst (λ d. opener_token (question_group false (d ∷ v)) ≡ None) (eqb-true d c k) h

  paren_there : (place : ℕ) (rest : List CodePoint) → IsPlace Legacy rules us place rest → (w : List ℕ) → values rest ≡ 40 ∷ w → begins_modifiers (40 ∷ w) ≡ false → opener_token (group_front false w) ≡ None → Refused
  unfolding group_front
  paren_there place rest p [] text other h = absurd (let no : ⊥ = cc h in no)
  paren_there place rest p (c ∷ w) text other h = elim (cases_Bool (c == 63)) [
    | inl q ↦ following w (text ∙ ap (λ c. 40 ∷ c ∷ w) (eqb-true c 63 q)) (ap (λ c. begins_modifiers (40 ∷ c ∷ w)) (sym (eqb-true c 63 q)) ∙ other)
        (ap opener_token (sym (cond-true (c == 63) _ _ q)) ∙ h)
    | inr q ↦ absurd (let no : opener_token (Some (capturing None, 1)) ≡ None = ap opener_token (sym (cond-false (c == 63) _ _ q)) ∙ h in let f : ⊥ = cc no in f)
  ]
    where
      following : (w : List ℕ) → values rest ≡ 40 ∷ 63 ∷ w → begins_modifiers (40 ∷ 63 ∷ w) ≡ false → opener_token (question_group false w) ≡ None → Refused
      following [] text other h = absurd (let no : ⊥ = cc other in no)
      following (d ∷ v) text other h = question_there place rest p d v text (not-false (is_mark d) other) h

  -- After a backslash a token stands, or a reference by name is refused, or the text ends.
  reference_none : (o : Option (List ℕ × ℕ)) → named_token o ≡ None → o ≡ None
  reference_none None h = refl
  reference_none (Some n) h = absurd (let no : ⊥ = cc h in no)

  reference_there : (place : ℕ) (rest : List CodePoint) → IsPlace Legacy rules us place rest → here.named ≡ true → (w : List ℕ) → values rest ≡ 92 ∷ 107 ∷ w → reference_front false w ≡ None → Refused
  unfolding reference_front
  reference_there place rest p there [] text h = (place, _, cause.no_group_name place rest [] p there text refl)
  reference_there place rest p there (c ∷ w) text h = elim (cases_Bool (c == 60)) [
    | inl q ↦ name_there place rest p _ w (text ∙ ap (λ c. 92 ∷ 107 ∷ c ∷ w) (eqb-true c 60 q)) (of_reference there) (sym (cond-true (c == 60) _ _ q) ∙ h)
    | inr q ↦ (place, _, cause.no_group_name place rest (c ∷ w) p there text q)
  ]

  backslash_there : (place : ℕ) (u : CodePoint) (rest : List CodePoint) → IsPlace Legacy rules us place (u ∷ rest) → u.value ≡ 92 → backslash_front here (values rest) ≡ None → Refused
  backslash_there place u [] p h none = (place, _, cause.last_backslash place u p refl h)
  backslash_there place u (v ∷ rest) p h none = elim (cases_Bool (v.value == 107 && here.named)) [
    | inl k ↦
        let q = both (v.value == 107) here.named k in
        let is = eqb-true v.value 107 q.0 in
        reference_there place (u ∷ v ∷ rest) p q.1 (values rest) (ap₂ (λ a b. a ∷ b ∷ values rest) h is)
        (reference_none (reference_front false (values rest)) (sym (backslash_k Legacy rules us q.1 (values rest)) ∙ ap (λ c. backslash_front here (c ∷ values rest)) (sym is) ∙ none))
    | inr k ↦ let s = backslash_read here refl v.value (values rest) k in absurd (let no : None ≡ Some s.0 = sym none ∙ s.1 in let f : ⊥ = cc no in f)
  ]

  none_spelled : (all : List CodePoint) (t : Token) (w more : List CodePoint) → all ≡ w ++ more → Spells here t w more → front here all ≡ None → ⊥
  none_spelled all t w more whole s none = let no : None ≡ Some (t, length w) = sym none ∙ ap (front here) whole ∙ spelled_front here t w more s in cc no

  braces_by : (c : ℕ) (w : List ℕ) (min : ℕ) (max : Option ℕ) (prefix back : List ℕ) → is_one_of (codes "^$\\.*+?()[|") c ≡ false → SpellsCounts min max prefix → c ∷ w ≡ prefix ++ back → SpellsBraces min max prefix
  braces_by c w _ _ _ back h star e = absurd (let is : c ≡ 42 = cc e in let no : true ≡ false = ap (is_one_of (codes "^$\\.*+?()[|")) (sym is) ∙ h in let f : ⊥ = cc no in f)
  braces_by c w _ _ _ back h plus e = absurd (let is : c ≡ 43 = cc e in let no : true ≡ false = ap (is_one_of (codes "^$\\.*+?()[|")) (sym is) ∙ h in let f : ⊥ = cc no in f)
  braces_by c w _ _ _ back h optional e = absurd (let is : c ≡ 63 = cc e in let no : true ≡ false = ap (is_one_of (codes "^$\\.*+?()[|")) (sym is) ∙ h in let f : ⊥ = cc no in f)
  braces_by c w min max prefix back h (braces s) e = s

  -- Where no token stands there is a backslash, a `(` or a `[`.
  raw_there : (u : CodePoint) (rest : List CodePoint) → is_one_of (codes "^$\\.*+?()[|") u.value ≡ false → (c : Counts) → counts_at (values (u ∷ rest)) ≡ c → front here (u ∷ rest) ≡ None → ⊥
  raw_there u rest h no_counts k none = none_spelled (u ∷ rest) (character (unit_kind u.escape_kind) u.value) (u ∷ []) rest refl (unit_stands here u rest refl h (no_braces (values (u ∷ rest)) k)) none
  raw_there u rest h (counts min max n) k none =
      let f = counts_spelled min max n (values (u ∷ rest)) k in
      let q = standing here min max f.prefix f.rest (u ∷ rest) (braces_by u.value (values rest) min max f.prefix f.rest h f.spelled f.whole) f.whole in
      none_spelled (u ∷ rest) (quantifier min max q.greedy) q.w q.more q.whole q.spelled none

  split_syntax : (c : ℕ) → is_one_of (codes "^$\\.*+?()[|") c ≡ true → (c == 92) ≡ false → (c == 40) ≡ false → (c == 91) ≡ false → is_one_of (codes "^$.*+?)|") c ≡ true
  split_syntax c h k l m = grind (arith, nat_tests)

  syntax_there : (u : CodePoint) (rest : List CodePoint) → is_one_of (codes "^$.*+?)|") u.value ≡ true → front here (u ∷ rest) ≡ None → ⊥
  syntax_there u rest h none =
      let s = some_syntax here u.value (values rest) h in
      let k : (is_legacy_syntax u.value && not (u.value == 91)) ≡ true = grind (arith, nat_tests, h) in
      let other : (u.value == 92) ≡ false = grind (arith, nat_tests, h) in
      let no : None ≡ Some s.0 = sym none ∙ front_by_values here (u ∷ rest) u.value (values rest) k refl ∙ cond-false (u.value == 92) _ _ other ∙ s.1 in
      cc no

  none_here : {place : ℕ} {open_groups : List Opener} {ready : Bool} (u : CodePoint) (rest : List CodePoint) → IsReached Legacy rules us place open_groups ready (u ∷ rest) → AreCodeUnits rest → begins_modifiers (values (u ∷ rest)) ≡ false →
      front here (u ∷ rest) ≡ None → Further place ⊎ Refused
  none_here {place} u rest r units other none = elim (cases_Bool (u.value == 92)) [
    | inl h ↦
        let is = eqb-true u.value 92 h in
        let text : values (u ∷ rest) ≡ 92 ∷ values rest = ap (λ c. c ∷ values rest) is in
        inr (backslash_there place u rest (its_place r) is (sym (front_by_values here (u ∷ rest) 92 (values rest) refl text) ∙ none))
    | inr b ↦ elim (cases_Bool (u.value == 40)) [
      | inl h ↦
          let text : values (u ∷ rest) ≡ 40 ∷ values rest = ap (λ c. c ∷ values rest) (eqb-true u.value 40 h) in
          inr (paren_there place (u ∷ rest) (its_place r) (values rest) text (ap begins_modifiers (sym text) ∙ other) (sym (front_by_values here (u ∷ rest) 40 (values rest) refl text) ∙ none))
      | inr p ↦ elim (cases_Bool (u.value == 91)) [
        | inl h ↦ class_there u rest r (eqb-true u.value 91 h) units
        | inr k ↦ elim (cases_Bool (is_one_of (codes "^$\\.*+?()[|") u.value)) [
          | inl h ↦ absurd (syntax_there u rest (split_syntax u.value h b p k) none)
          | inr h ↦ absurd (raw_there u rest h (counts_at (values (u ∷ rest))) refl none)
        ]
      ]
    ]
  ]

  further_at : (place : ℕ) (open_groups : List Opener) (ready : Bool) (u : CodePoint) (rest : List CodePoint) → AreCodeUnits (u ∷ rest) → IsReached Legacy rules us place open_groups ready (u ∷ rest) → begins_modifiers (values (u ∷ rest)) ≡ false →
      (o : Option (Token × ℕ)) → front here (u ∷ rest) ≡ o → Further place ⊎ Refused
  further_at place open_groups ready u rest units r other None h = none_here u rest r units.1 other h
  further_at place open_groups ready u rest units r other (Some p) h =
      let f = front_spelled here (u ∷ rest) p.0 p.1 h in token_there u rest r units other p.0 f.w f.rest f.whole f.spells

  pub ends_or_goes : (place : ℕ) (open_groups : List Opener) (ready : Bool) (rest : List CodePoint) → AreCodeUnits rest → IsReached Legacy rules us place open_groups ready rest → begins_modifiers (values rest) ≡ false →
      ((rest ≡ []) × (open_groups ≡ [])) ⊎ (Further place ⊎ Refused)
  ends_or_goes place [] ready [] units r other = inl (refl, refl)
  ends_or_goes place (o ∷ open_groups) ready [] units r other =
      let i = innermost Legacy rules us place o open_groups ready [] r in inr (inr (place, _, cause.unterminated_group i.0 place 0 o [] i.1 stop.at_end refl))
  ends_or_goes place open_groups ready (u ∷ rest) units r other = inr (further_at place open_groups ready u rest units r other (front here (u ∷ rest)) refl)
