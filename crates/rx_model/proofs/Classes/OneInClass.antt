-- Of two refusals that hold in a class one gives way to the other, or they are one: at most one place stops its reading, and what stands there tells them.
use Rattle.std.proofs.Common.{◌≡◌, ◌≢◌, refl, ap, sym, ◌∙◌, subst, ℕ, ◌+◌, ◌≤◌, ◌==◌, ◌&&◌, Bool, true, false, cond, List, [], ◌∷◌, ◌++◌, append-nil, length, arith, inl, inr, length-append}
use Rattle.std.proofs.lemmas.Bool.{true≢false}
use Rattle.rx_base.specs.declared.diagnostic.Diagnostic.{Diagnostic}
use Rattle.rx_base.specs.declared.diagnostic.Diagnostic.TheVariants.{CharacterClassRangeOutOfOrder, CharacterClassRangeDashNotSubtraction, CharacterClassRangeInvalidAtom}
use Rattle.rx_base.specs.declared.diagnostic.kinds.RangeKind.TheVariants as range
use Rattle.rx_units.specs.declared.code_point.CodePoint.{CodePoint}
use Rattle.rx_units.specs.Units.{values}
use Rattle.rx_model.specs.declared.mode.Mode.{Mode}
use Rattle.rx_model.specs.Refusals.ClassCauses.{IsClassCause}
use Rattle.rx_model.specs.Classes.ClassRows.{ClassTokenRow, Place, outside}
use Rattle.rx_model.specs.Classes.ClassRuns.{Bracket, Brackets, class_run_from_start}
use Rattle.rx_model.specs.Classes.ClassTokens.{ClassToken, is_character}
use Rattle.rx_model.specs.Inputs.Environment.{Environment, is_sets}
use Rattle.rx_model.specs.FirstPass.Marks.{starts}
use Rattle.rx_model.specs.Refusals.Firsts.{IsFirstInClass, no_item, yielding_of}
use Rattle.rx_model.specs.Refusals.Reached.{span_between, class_environment}
use Rattle.rx_model.proofs.Classes.ClassFaults.{State, IsStuck, Nothing, in_class, no_operand, no_operator, in_class_strings, RangeFault, at_atom, after_range, of_range, Said, elsewhere, after_dash, ampersand, closing, Fault, nothing, said, stuck, value_of}
use Rattle.rx_model.proofs.Classes.ClassStates.{none_in_strings, opened_union}
use Rattle.rx_model.proofs.Classes.OneFault.{one_nothing, one_said, some_brackets, union_no_operator}
use Rattle.rx_model.proofs.Classes.ClassWholes.{class_opened-append}
use Rattle.rx_model.proofs.Classes.ClassStops.{AtomFault, bad_escape, in_escape, in_property, backslash_first}
use Rattle.rx_model.proofs.Reading.Prefixes.{class_prefixes}
use Rattle.rx_model.proofs.Refusals.OneEscape.{character_says, property_says}
use Rattle.rx_model.proofs.Refusals.OnlyFirst.{AreCompared, most_is_first, one_first_of, only_is_first}

abbrev made : List ClassToken → Place → Bracket → Brackets → ℕ → List CodePoint → State
made tokens at inner outer place rest = record { tokens = tokens; at = at; inner = inner; outer = outer; place = place; rest = rest }

module _ (mode : Mode) (us : List CodePoint) (start added from : ℕ) (at_class : List CodePoint) where
  abbrev here : Environment
  here = class_environment mode us

  abbrev EscapeFault : ℕ → List CodePoint → Diagnostic → Type 0
  EscapeFault = AtomFault mode us start added

  abbrev Cause : ℕ → Diagnostic → Type 0
  Cause = IsClassCause mode us start added from at_class

  abbrev Here : State → ℕ → Diagnostic → Type 0
  Here = Fault mode us start added from at_class

  abbrev Saying : State → ℕ → Diagnostic → Type 0
  Saying = Said mode us start added from at_class

  abbrev NoItem : State → Diagnostic → Type 0
  NoItem = Nothing mode us start added from at_class

  abbrev Stands : State → Type 0
  Stands = IsStuck here from at_class

  of_parts : (s t : State) → s.tokens ≡ t.tokens → s.at ≡ t.at → s.inner ≡ t.inner → s.outer ≡ t.outer → s.place ≡ t.place → s.rest ≡ t.rest → s ≡ t
  of_parts s t tokens at inner outer place rest =
      ap (λ tokens. made tokens s.at s.inner s.outer s.place s.rest) tokens
      ∙ ap (λ at. made t.tokens at s.inner s.outer s.place s.rest) at
      ∙ ap (λ inner. made t.tokens t.at inner s.outer s.place s.rest) inner
      ∙ ap (λ outer. made t.tokens t.at t.inner outer s.place s.rest) outer
      ∙ ap (λ place. made t.tokens t.at t.inner t.outer place s.rest) place
      ∙ ap (made t.tokens t.at t.inner t.outer t.place) rest

  -- A class is stuck in one state.
  pub same_state : (s t : State) → Stands s → Stands t → s ≡ t
  same_state s t x y = elim (class_prefixes here s.tokens t.tokens outside at_class s.at s.rest t.at t.rest x.row y.row) [ inl i ↦ go s t x y i.0 i.1 i.2 | inr i ↦ sym (go t s y x i.0 i.1 i.2) ]
    where
      go : (s t : State) → Stands s → Stands t → (xs : List ClassToken) → t.tokens ≡ s.tokens ++ xs → ClassTokenRow here xs s.at s.rest t.at t.rest → s ≡ t
      go s t x y [] e row =
          let tokens : s.tokens ≡ t.tokens = sym (e ∙ append-nil s.tokens) in
          let brackets : some_brackets (s.inner ∷ s.outer) ≡ some_brackets (t.inner ∷ t.outer) = sym x.accepted ∙ ap class_run_from_start tokens ∙ y.accepted in
          let inner : s.inner ≡ t.inner = cc brackets in
          let outer : s.outer ≡ t.outer = cc brackets in
          let place : s.place ≡ t.place = omega (arith, x.place_is, y.place_is, ap length row.1) in
          of_parts s t tokens row.0 inner outer place row.1
      go s t x y (c ∷ xs) e row =
          absurd (x.blocked c xs t.at t.rest (t.inner ∷ t.outer) y.between row (sym (class_opened-append s.tokens (c ∷ xs) (s.inner ∷ s.outer) x.accepted) ∙ ap class_run_from_start (sym e) ∙ y.accepted))

  nothing_kind : (s : State) (d : Diagnostic) → NoItem s d → yielding_of d ≡ no_item
  nothing_kind s _ (in_class true begin opens begins union goes ends) = refl
  nothing_kind s _ (in_class false begin opens begins union goes ends) = refl
  nothing_kind s _ (no_operand begins sets empties some) = refl
  nothing_kind s _ (no_operator operator begins is third) = refl
  nothing_kind s _ (in_class_strings opener at_is inside) = refl

  escape_kind : (f : ℕ) (rest : List CodePoint) (d : Diagnostic) → EscapeFault f rest d → yielding_of d ≢ no_item
  escape_kind f rest _ (bad_escape backslash w no_sets h is none) k = cc k
  escape_kind f rest d (in_escape c) k = character_says mode us start added f rest d c k
  escape_kind f rest d (in_property c) k = property_says mode us start added f rest d c k

  range_kind_of : (f : ℕ) (rest : List CodePoint) (d : Diagnostic) → RangeFault mode us start added from at_class f rest d → yielding_of d ≢ no_item
  range_kind_of f rest d r k = by (is_sets mode) (is_character r.a && is_character r.b) (value_of mode us start added from at_class r.b == 45) (ap yielding_of (sym r.fault) ∙ k)
    where
      n : ℕ
      n = length r.w

      m : ℕ
      m = length r.v

      by : (sets both is_dash : Bool) →
          yielding_of (cond sets (CharacterClassRangeOutOfOrder (span_between us start added f (f + n + 1 + m)) range.ClassSet)
          (cond both
          (cond is_dash (CharacterClassRangeDashNotSubtraction (span_between us start added (f + n) (f + n + 1 + m))) (CharacterClassRangeOutOfOrder (span_between us start added (f + n) (f + n + 1 + m)) range.ClassAtom))
          (CharacterClassRangeInvalidAtom (span_between us start added f (f + n + 1 + m))))) ≡ no_item → ⊥
      by true both is_dash h = cc h
      by false true true h = cc h
      by false true false h = cc h
      by false false is_dash h = cc h

  said_kind : (s : State) (f : ℕ) (d : Diagnostic) → Saying s f d → yielding_of d ≢ no_item
  said_kind s _ d (elsewhere (at_atom takes own c)) k = escape_kind s.place s.rest d c k
  said_kind s _ d (elsewhere (after_range a w hyphen rest at union whole spelled dashed ends c)) k = escape_kind (s.place + length w + 1) rest d c k
  said_kind s _ d (elsewhere (of_range at union r)) k = range_kind_of s.place s.rest d r k
  said_kind s _ d (after_dash hyphen rest of_low sets whole is c) k = escape_kind (s.place + 1) rest d (in_escape c) k
  said_kind s _ _ (ampersand unit rest at whole is) k = cc k
  said_kind s _ _ (closing true begin opens begins closes whole) k = cc k
  said_kind s _ _ (closing false begin opens begins closes whole) k = cc k

  -- What is said holds where the reading is stuck, or after it.
  said_after : (s : State) (f : ℕ) (d : Diagnostic) → Saying s f d → s.place ≤ f
  said_after s _ d (elsewhere (at_atom takes own c)) = omega arith
  said_after s _ d (elsewhere (after_range a w hyphen rest at union whole spelled dashed ends c)) = omega arith
  said_after s _ d (elsewhere (of_range at union r)) = omega arith
  said_after s _ d (after_dash hyphen rest of_low sets whole is c) = omega arith
  said_after s _ _ (ampersand unit rest at whole is) = omega arith
  said_after s _ _ (closing is_nested begin opens begins closes whole) = omega arith

  pub fault_after : (s : State) (f : ℕ) (d : Diagnostic) → Here s f d → s.place ≤ f
  fault_after s _ d (nothing none x) = omega arith
  fault_after s f d (said x) = said_after s f d x

  compared : (s : State) (f g : ℕ) (d e : Diagnostic) → Here s f d → Here s g e → AreCompared f d g e
  compared s _ _ d e (nothing none x) (nothing none' y) = inl (refl, one_nothing mode us start added from at_class s d e x y)
  compared s _ g d e (nothing none x) (said y) = inr (inl record { says_less = nothing_kind s d x; says_more = said_kind s g e y; no_earlier = said_after s g e y })
  compared s f _ d e (said x) (nothing none y) = inr (inr record { says_less = nothing_kind s e y; says_more = said_kind s f d x; no_earlier = said_after s f d x })
  compared s f g d e (said x) (said y) = inl (one_said mode us start added from at_class s f g d e x y)

  -- Of two refusals of the class one gives way to the other, or they are one.
  pub two_in_class : (f g : ℕ) (d e : Diagnostic) → Cause f d → Cause g e → AreCompared f d g e
  two_in_class f g d e c k =
      let x = stuck mode us start added from at_class f d c in
      let y = stuck mode us start added from at_class g e k in
      compared y.state f g d e (subst (λ s. Here s f d) (same_state x.state y.state x.is_stuck y.is_stuck) x.fault) y.fault

  -- Without `v` nothing stands at the end alone, where no other refusal holds.
  ends_there : (s : State) (d : Diagnostic) → is_sets mode ≡ false → Stands s → NoItem s d → s.rest ≡ []
  ends_there s _ no_sets x (in_class is_nested begin opens begins union goes ends) = ends no_sets
  ends_there s _ no_sets x (no_operand begins sets empties some) = absurd (true≢false (sym sets ∙ no_sets))
  ends_there s _ no_sets x (no_operator operator begins is third) =
      absurd (union_no_operator s.inner.held operator (opened_union here no_sets s.tokens at_class s.at s.rest s.inner s.outer x.row x.accepted) is)
  ends_there s _ no_sets x (in_class_strings opener at_is inside) = absurd (none_in_strings here no_sets s.tokens at_class s.at s.rest x.row at_is)

  goes_on : (s : State) (f : ℕ) (d : Diagnostic) → Saying s f d → s.rest ≢ []
  goes_on s _ d (elsewhere (at_atom takes own c)) h = let b = backslash_first mode us start added s.place s.rest d c in let no : [] ≡ 92 ∷ b.0 = ap values (sym h) ∙ b.1 in cc no
  goes_on s _ d (elsewhere (after_range a w hyphen rest at union whole spelled dashed ends c)) h = omega (arith, ap length (sym h ∙ whole), length-append w (hyphen ∷ rest))
  goes_on s _ d (elsewhere (of_range at union r)) h = omega (arith, ap length (sym h ∙ r.whole), length-append r.w (r.hyphen ∷ (r.v ++ r.more)))
  goes_on s _ d (after_dash hyphen rest of_low sets whole is c) h = let no : [] ≡ hyphen ∷ rest = sym h ∙ whole in cc no
  goes_on s _ _ (ampersand unit rest at whole is) h = let no : [] ≡ unit ∷ rest = sym h ∙ whole in cc no
  goes_on s _ _ (closing is_nested begin opens begins closes whole) h = true≢false (sym closes ∙ ap (λ rest. starts 93 (values rest)) h)

  one_without_sets : (s : State) (f g : ℕ) (d e : Diagnostic) → is_sets mode ≡ false → Stands s → Here s f d → Here s g e → (f ≡ g) × (d ≡ e)
  one_without_sets s _ _ d e no_sets t (nothing none x) (nothing none' y) = (refl, one_nothing mode us start added from at_class s d e x y)
  one_without_sets s _ g d e no_sets t (nothing none x) (said y) = absurd (goes_on s g e y (ends_there s d no_sets t x))
  one_without_sets s f _ d e no_sets t (said x) (nothing none y) = absurd (goes_on s f d x (ends_there s e no_sets t y))
  one_without_sets s f g d e no_sets t (said x) (said y) = one_said mode us start added from at_class s f g d e x y

  -- Without `v` at most one refusal of the class holds, and at one place.
  pub one_in_class : is_sets mode ≡ false → (f g : ℕ) (d e : Diagnostic) → Cause f d → Cause g e → (f ≡ g) × (d ≡ e)
  one_in_class no_sets f g d e c k =
      let x = stuck mode us start added from at_class f d c in
      let y = stuck mode us start added from at_class g e k in
      one_without_sets y.state f g d e no_sets y.is_stuck (subst (λ s. Here s f d) (same_state x.state y.state x.is_stuck y.is_stuck) x.fault) y.fault

  -- So a refusal of the class is the first of it.
  pub class_cause_is_first : is_sets mode ≡ false → (f : ℕ) (d : Diagnostic) → Cause f d → IsFirstInClass mode us start added from at_class d
  class_cause_is_first no_sets f d c = only_is_first Cause f d c (λ g e k. one_in_class no_sets f g d e c k)

  -- A refusal that says what stands there is the first of its class, in every mode.
  pub said_is_first : (f : ℕ) (d : Diagnostic) → Cause f d → yielding_of d ≢ no_item → IsFirstInClass mode us start added from at_class d
  said_is_first f d c says = most_is_first Cause f d c (λ g e k. two_in_class f g d e c k) says

  -- At most one refusal is the first of the class.
  pub one_first_in_class : (d e : Diagnostic) → IsFirstInClass mode us start added from at_class d → IsFirstInClass mode us start added from at_class e → d ≡ e
  one_first_in_class d e x y = one_first_of Cause d e x y (λ f g d e c k. two_in_class f g d e c k)
