-- At most one refusal holds of a text: of those at places, since no place beyond one is reached, and what stands at a place tells its refusal.
use Rattle.std.proofs.Common.{◌≡◌, ◌≢◌, refl, ap, sym, ◌∙◌, subst, ℕ, ◌+◌, ◌<◌, ◌≤◌, Bool, true, false, Option, Some, None, List, [], ◌∷◌, ◌++◌, length, arith, inl, inr}
use Rattle.rx_base.specs.declared.diagnostic.Diagnostic.{Diagnostic}
use Rattle.rx_base.specs.declared.diagnostic.Diagnostic.TheVariants.{DuplicatedCapturingGroupNames}
use Rattle.rx_units.specs.declared.code_point.CodePoint.{CodePoint}
use Rattle.rx_units.specs.Units.{values}
use Rattle.rx_model.specs.declared.mode.Mode.{Mode}
use Rattle.rx_model.specs.Refusals.Causes as cause
use Rattle.rx_model.specs.Refusals.Causes.{HasBraces, IsCause, IsCauseAtPlace, name_span}
use Rattle.rx_model.specs.Refusals.ClassCauses.{IsClassCause}
use Rattle.rx_model.specs.Inputs.Environment.{Environment, is_sets, is_unicode}
use Rattle.rx_model.specs.Refusals.Firsts.{IsFirst, IsFirstInClass, IsFirstOf, NoneBeyond, no_item, of_groups, of_places, yielding_of}
use Rattle.rx_model.specs.Reading.Fronts.{front}
use Rattle.rx_model.specs.FirstPass.Marks.{IsFirstClash, marks}
use Rattle.rx_model.specs.Refusals.Reached.{AreObeying, HasNoClash, IsPlace, span_between, text_environment, text_groups}
use Rattle.rx_model.specs.Reading.Rows.{Spells}
use Rattle.rx_model.specs.Trees.Early.{most_groups}
use Rattle.rx_model.specs.Trees.Token.{quantifier}
use Rattle.rx_model.proofs.Refusals.Beyond.{ClassLaws, blocked_beyond, inside_reached, limit_first, pair_no_closer, no_angle}
use Rattle.rx_model.proofs.Quantifiers.BlockedCounts.{brace_first}
use Rattle.rx_model.proofs.Refusals.BlockedPlaces.{next}
use Rattle.rx_model.proofs.Refusals.OnlyFirst.{AreCompared, most_is_first, one_first_of, only_is_first}
use Rattle.rx_model.proofs.Groups.NameFronts.{no_pair_begins}
use Rattle.rx_model.proofs.Refusals.Faults.{told, by_property, by_quantifier, stopping, answer, escape_is, name_is, unterminated_is, invalid_is, index_is, reference_is, named_is, unknown_is, duplicated_is, empty_is, shared_is, property_is, NoBraces, stop_is, brace_is, bracket_is, misplaced_is, no_stop, overflow_is, quantifier_is, last_is, pair_is}
use Rattle.rx_model.proofs.Reading.Fronts.{spelled_front}
use Rattle.rx_model.proofs.Properties.OneProperty.{one_property}
use Rattle.rx_model.proofs.Quantifiers.OneQuantifier.{QuantifierRow, lone, out_of_order, too_large, too_many_digits, lone_refusal, one_quantifier}
use Rattle.rx_model.proofs.Refusals.OneStop.{StopRow, outside, inside, stops_at, one_stop}
use Rattle.rx_model.proofs.Refusals.Places.{same_place}
use Rattle.rx_model.proofs.Properties.PropertyRefusals.{property_first}
use Rattle.rx_model.proofs.Refusals.Refusals.{none_beyond}
use Rattle.rx_model.specs.Refusals.EscapeCauses.{IsPropertyCause}
use Rattle.rx_model.specs.declared.rules.Rules.{Rules}

module _ (mode : Mode) (rules : Rules) (us : List CodePoint) (start added : ℕ) (laws : ClassLaws mode rules us start added) where
  abbrev here : Environment
  here = text_environment mode rules us

  -- a refusal of what stands at a place that is reached, outside classes
  data Row (f : ℕ) (rest : List CodePoint) (d : Diagnostic) : Type 0 where
    told_row : answer mode rules us start added f rest ≡ told (Some d) → Row f rest d
    property_row : answer mode rules us start added f rest ≡ by_property → IsPropertyCause mode us start added f rest d → Row f rest d
    quantifier_row : answer mode rules us start added f rest ≡ by_quantifier → QuantifierRow mode rules us start added f rest d → Row f rest d
    stop_row : StopRow mode rules us start added f rest d → Row f rest d

  data Located (f : ℕ) (d : Diagnostic) : Type 0 where
    at_place : (rest : List CodePoint) → IsPlace mode rules us f rest → Row f rest d → Located f d
    in_class : (from : ℕ) (at_class : List CodePoint) → IsPlace mode rules us from at_class → IsClassCause mode us start added from at_class f d → Located f d

  braces_are : (f count min : ℕ) (max : Option ℕ) (rest : List CodePoint) → HasBraces min max count rest → answer mode rules us start added f rest ≡ by_quantifier
  braces_are f count min max rest h = let b = brace_first min max h.prefix h.spelled in brace_is mode rules us start added f rest (b.0 ++ h.following) (h.whole ∙ ap (λ w. w ++ h.following) b.1)

  lone_row : (f min : ℕ) (max : Option ℕ) (greedy : Bool) (w more : List CodePoint) (u : Bool) → is_unicode mode ≡ u → Spells here (quantifier min max greedy) w more → AreObeying mode us (quantifier min max greedy ∷ []) →
      Row f (w ++ more) (lone_refusal u (span_between us start added f (f + length w)))
  lone_row f min max greedy w more u m s o =
      subst (λ u. Row f (w ++ more) (lone_refusal u (span_between us start added f (f + length w)))) m
      (quantifier_row (quantifier_is mode rules us start added f min max greedy w more s) (lone min max greedy w more refl s o))

  located : (f : ℕ) (d : Diagnostic) → IsCauseAtPlace mode rules us start added f d → Located f d
  located _ _ (cause.incomplete place following ready rest r s some) = at_place rest (record { open_groups = []; ready = ready; reached = r }) (stop_row (outside following ready r s))
  located _ _ (cause.lone place min max greedy open_groups w more r m s o) =
      at_place (w ++ more) (record { open_groups = open_groups; ready = false; reached = r }) (lone_row place min max greedy w more true m s o)
  located _ _ (cause.lone_in_legacy place min max greedy open_groups w more r m s o) =
      at_place (w ++ more) (record { open_groups = open_groups; ready = false; reached = r }) (lone_row place min max greedy w more false m s o)
  located _ _ (cause.last_backslash place backslash p m h) = at_place (backslash ∷ []) p (told_row (last_is mode rules us start added place backslash m h))
  located _ _ (cause.out_of_order place count min max rest p h out) = at_place rest p (quantifier_row (braces_are place count min max rest h) (out_of_order count min max h out))
  located _ _ (cause.too_large place count min max rest p h order large) = at_place rest p (quantifier_row (braces_are place count min max rest h) (too_large count min max h order large))
  located _ _ (cause.too_many_digits place from count rest p limit in_legacy) = at_place rest p (quantifier_row (let b = limit_first mode rules us (values rest) from count limit in brace_is mode rules us start added place rest b.0 b.1) (too_many_digits from count limit in_legacy))
  located _ d (cause.of_escape place rest p c) = at_place rest p (told_row (escape_is mode rules us start added place rest d c))
  located _ d (cause.of_property place rest p c) =
      let b = property_first mode us start added place rest d c in at_place rest p (property_row (property_is mode rules us start added place rest b.0 b.1 b.2 b.3) c)
  located _ d (cause.of_class from place at_class p c) = in_class from at_class p c
  located _ _ (cause.unterminated_group from place following group rest g s other) =
      at_place rest (record { open_groups = group ∷ g.open_groups; ready = g.ready_inside; reached = inside_reached mode rules us from group place rest g }) (stop_row (inside from following group g s))
  located _ d (cause.unterminated_name place count rest following p m n none ends) =
      at_place rest p (told_row (name_is mode rules us start added place count rest following (Some d) n ends (unterminated_is mode rules us start added place count following none (rw m refl))))
  located _ d (cause.unterminated_name_in_legacy place count rest following p m n none no_pair ends) =
      at_place rest p (told_row (name_is mode rules us start added place count rest following (Some d) n ends (unterminated_is mode rules us start added place count following none (rw (m, no_pair_begins following no_pair) refl))))
  located _ d (cause.misplaced_pair place count rest following p m n pair) =
      at_place rest p (told_row (name_is mode rules us start added place count rest following (Some d) n (pair_no_closer mode rules us following count pair) (pair_is mode rules us start added place count following m pair)))
  located _ d (cause.too_many_digits_in_name place count many rest following p n limit) =
      at_place rest p (told_row (name_is mode rules us start added place count rest (92 ∷ following) (Some d) n (no_angle following count) (overflow_is mode rules us start added place count many following limit)))
  located _ d (cause.misplaced_in_name place count value n rest following p ends decodes) =
      at_place rest p (told_row (name_is mode rules us start added place count rest (92 ∷ following) (Some d) ends (no_angle following count) (misplaced_is mode rules us start added place count value n following decodes)))
  located _ d (cause.invalid_in_name place count rest following p n no_value no_limit begun) =
      at_place rest p (told_row (name_is mode rules us start added place count rest (92 ∷ following) (Some d) n (no_angle following count) (invalid_is mode rules us start added place count following false _ refl no_value no_limit begun)))
  located _ d (cause.invalid_u_in_name place count rest following p n no_value no_limit begun) =
      at_place rest p (told_row (name_is mode rules us start added place count rest (92 ∷ following) (Some d) n (no_angle following count) (invalid_is mode rules us start added place count following true _ refl no_value no_limit begun)))
  located _ _ (cause.no_such_group place n w more p s large) = at_place (w ++ more) p (told_row (index_is mode rules us start added place n w more s))
  located _ _ (cause.no_group_name place rest following p there h other) = at_place rest p (told_row (reference_is mode rules us start added place rest following h other))
  located _ _ (cause.no_such_name place name w more p s unknown) = at_place (w ++ more) p (told_row (named_is mode rules us start added place name w more s))
  located _ _ (cause.unknown_modifiers place rest text following p h l) = at_place rest p (told_row (unknown_is mode rules us start added place rest text following h l))
  located _ _ (cause.duplicated_modifiers place rest enabled disabled text following p h s twice) = at_place rest p (told_row (duplicated_is mode rules us start added place rest enabled disabled text following h s twice))
  located _ _ (cause.empty_modifiers place rest following p h) = at_place rest p (told_row (empty_is mode rules us start added place rest following h))
  located _ _ (cause.invalid_modifiers place rest enabled disabled text following p h s once share) =
      at_place rest p (told_row (shared_is mode rules us start added place rest enabled disabled text following h s once share))

  -- No quantifier stands where terms end at a brace.
  no_quantifier_row : (f : ℕ) (rest : List CodePoint) (d : Diagnostic) → NoBraces mode rules us start added rest → QuantifierRow mode rules us start added f rest d → ⊥
  no_quantifier_row f rest _ n (lone min max greedy w more h s o) =
      let no : None ≡ next (quantifier min max greedy) (length w) = sym n.no_token ∙ ap (front here) h ∙ spelled_front here (quantifier min max greedy) w more s in
      cc no
  no_quantifier_row f rest _ n (out_of_order count min max h out) = n.none (record {
    min = min;
    max = max;
    prefix = h.prefix;
    rest = h.following;
    spelled = h.spelled;
    whole = h.whole;
  })
  no_quantifier_row f rest _ n (too_large count min max h order large) = n.none (record {
    min = min;
    max = max;
    prefix = h.prefix;
    rest = h.following;
    spelled = h.spelled;
    whole = h.whole;
  })
  no_quantifier_row f rest _ n (too_many_digits from count limit in_legacy) = n.in_limit from count limit

  no_stop_told : (f : ℕ) (rest : List CodePoint) (d : Diagnostic) (r : Option Diagnostic) → StopRow mode rules us start added f rest d → answer mode rules us start added f rest ≡ told r → ⊥
  no_stop_told f rest d r s h = let i = stops_at mode rules us start added s in elim (stop_is mode rules us start added f i.0 rest i.1) [
    | inl p ↦ (let no : stopping ≡ told r = sym p ∙ h in cc no)
    | inr p ↦ (let no : by_quantifier ≡ told r = sym p.0 ∙ h in cc no)
  ]

  no_stop_property : (f : ℕ) (rest : List CodePoint) (d : Diagnostic) → StopRow mode rules us start added f rest d → answer mode rules us start added f rest ≡ by_property → ⊥
  no_stop_property f rest d s h = let i = stops_at mode rules us start added s in elim (stop_is mode rules us start added f i.0 rest i.1) [
    | inl p ↦ (let no : stopping ≡ by_property = sym p ∙ h in cc no)
    | inr p ↦ (let no : by_quantifier ≡ by_property = sym p.0 ∙ h in cc no)
  ]

  no_stop_quantifier : (f : ℕ) (rest : List CodePoint) (d e : Diagnostic) → StopRow mode rules us start added f rest d → answer mode rules us start added f rest ≡ by_quantifier → QuantifierRow mode rules us start added f rest e → ⊥
  no_stop_quantifier f rest d e s h q = let i = stops_at mode rules us start added s in elim (stop_is mode rules us start added f i.0 rest i.1) [
    | inl p ↦ (let no : stopping ≡ by_quantifier = sym p ∙ h in cc no)
    | inr p ↦ no_quantifier_row f rest e p.1 q
  ]

  one_row : (f : ℕ) (rest : List CodePoint) (d e : Diagnostic) → Row f rest d → Row f rest e → d ≡ e
  one_row f rest d e (told_row h) (told_row k) = let same : told (Some d) ≡ told (Some e) = sym h ∙ k in cc same
  one_row f rest d e (told_row h) (property_row k c) = absurd (let no : told (Some d) ≡ by_property = sym h ∙ k in let f : ⊥ = cc no in f)
  one_row f rest d e (told_row h) (quantifier_row k q) = absurd (let no : told (Some d) ≡ by_quantifier = sym h ∙ k in let f : ⊥ = cc no in f)
  one_row f rest d e (told_row h) (stop_row s) = absurd (no_stop_told f rest e (Some d) s h)
  one_row f rest d e (property_row h c) (told_row k) = absurd (let no : by_property ≡ told (Some e) = sym h ∙ k in let f : ⊥ = cc no in f)
  one_row f rest d e (property_row h c) (property_row k b) = one_property mode us start added f rest d e c b
  one_row f rest d e (property_row h c) (quantifier_row k q) = absurd (let no : by_property ≡ by_quantifier = sym h ∙ k in let f : ⊥ = cc no in f)
  one_row f rest d e (property_row h c) (stop_row s) = absurd (no_stop_property f rest e s h)
  one_row f rest d e (quantifier_row h q) (told_row k) = absurd (let no : by_quantifier ≡ told (Some e) = sym h ∙ k in let f : ⊥ = cc no in f)
  one_row f rest d e (quantifier_row h q) (property_row k c) = absurd (let no : by_quantifier ≡ by_property = sym h ∙ k in let f : ⊥ = cc no in f)
  one_row f rest d e (quantifier_row h q) (quantifier_row k r) = one_quantifier mode rules us start added f rest d e q r
  one_row f rest d e (quantifier_row h q) (stop_row s) = absurd (no_stop_quantifier f rest e d s h q)
  one_row f rest d e (stop_row s) (told_row k) = absurd (no_stop_told f rest d (Some e) s k)
  one_row f rest d e (stop_row s) (property_row k c) = absurd (no_stop_property f rest d s k)
  one_row f rest d e (stop_row s) (quantifier_row k q) = absurd (no_stop_quantifier f rest d e s k q)
  one_row f rest d e (stop_row s) (stop_row t) = one_stop mode rules us start added f rest d e s t

  -- No refusal outside classes holds at a `[`.
  no_row_at_bracket : (f : ℕ) (rest : List CodePoint) (w : List ℕ) (d : Diagnostic) → values rest ≡ 91 ∷ w → Row f rest d → ⊥
  no_row_at_bracket f rest w d h (told_row k) = let no : stopping ≡ told (Some d) = sym (bracket_is mode rules us start added f rest w h) ∙ k in cc no
  no_row_at_bracket f rest w d h (property_row k c) = let no : stopping ≡ by_property = sym (bracket_is mode rules us start added f rest w h) ∙ k in cc no
  no_row_at_bracket f rest w d h (quantifier_row k q) = let no : stopping ≡ by_quantifier = sym (bracket_is mode rules us start added f rest w h) ∙ k in cc no
  no_row_at_bracket f rest w d h (stop_row s) = let i = stops_at mode rules us start added s in no_stop mode rules us start added i.0 rest w h i.1

  -- Of two places, neither beyond the other, each is the other.
  same_if : (f g : ℕ) (rest back : List CodePoint) → NoneBeyond mode rules us f → NoneBeyond mode rules us g → IsPlace mode rules us f rest → IsPlace mode rules us g back → f ≡ g
  same_if f g rest back n m p q = equal (n g back q) (m f rest p)
    where
      equal : (f < g → ⊥) → (g < f → ⊥) → f ≡ g
      equal h k = omega (arith, h, k)

  rests : (f g : ℕ) (rest back : List CodePoint) → f ≡ g → IsPlace mode rules us f rest → IsPlace mode rules us g back → rest ≡ back
  rests f g rest back e p q = (same_place mode rules us p.reached q.reached e).rest_is

  at_class_bracket : (from f : ℕ) (at_class : List CodePoint) (d : Diagnostic) → IsClassCause mode us start added from at_class f d → (w : List ℕ) × (values at_class ≡ 91 ∷ w)
  at_class_bracket from f at_class d c =
      laws.at_bracket c

  row_against_class : (f from g : ℕ) (rest at_class : List CodePoint) (d e : Diagnostic) → NoneBeyond mode rules us f → IsPlace mode rules us f rest → Row f rest d → IsPlace mode rules us from at_class →
      IsClassCause mode us start added from at_class g e → ⊥
  row_against_class f from g rest at_class d e n p x q c =
      let m = blocked_beyond mode rules us from at_class q (laws.blocked c) in
      let same = same_if f from rest at_class n m p q in
      let b = at_class_bracket from g at_class e c in
      no_row_at_bracket f rest b.0 d (ap values (rests f from rest at_class same p q) ∙ b.1) x

  -- Two classes that are refused are one.
  pub one_class : (from other f g : ℕ) (at_class also : List CodePoint) (d e : Diagnostic) → IsPlace mode rules us from at_class → IsClassCause mode us start added from at_class f d → IsPlace mode rules us other also →
      IsClassCause mode us start added other also g e → (from ≡ other) × (at_class ≡ also)
  one_class from other f g at_class also d e p x q y =
      let same = same_if from other at_class also (blocked_beyond mode rules us from at_class p (laws.blocked x)) (blocked_beyond mode rules us other also q (laws.blocked y)) p q in
      (same, rests from other at_class also same p q)

  in_one_class : (from other f g : ℕ) (at_class also : List CodePoint) (d e : Diagnostic) → IsPlace mode rules us from at_class → IsClassCause mode us start added from at_class f d → IsPlace mode rules us other also →
      IsClassCause mode us start added other also g e → IsClassCause mode us start added other also f d
  in_one_class from other f g at_class also d e p x q y =
      let same = one_class from other f g at_class also d e p x q y in
      subst (λ from. IsClassCause mode us start added from also f d) same.0 (subst (λ at_class. IsClassCause mode us start added from at_class f d) same.1 x)

  -- Where a refusal of a class holds, each that holds is of this class.
  pub of_this_class : (from f g : ℕ) (at_class : List CodePoint) (d e : Diagnostic) → IsPlace mode rules us from at_class → IsClassCause mode us start added from at_class f d → IsCauseAtPlace mode rules us start added g e →
      IsClassCause mode us start added from at_class g e
  of_this_class from f g at_class d e p x k = by (located g e k)
    where
      by : Located g e → IsClassCause mode us start added from at_class g e
      by (at_place back q y) = absurd (row_against_class g from f back at_class e d (none_beyond mode rules us start added laws g e k) q y p x)
      by (in_class other also q y) = in_one_class other from g f also at_class e d q y p x

  -- Of two refusals that hold at places one gives way to the other, or they are one.
  pub two_at_places : (f g : ℕ) (d e : Diagnostic) → IsCauseAtPlace mode rules us start added f d → IsCauseAtPlace mode rules us start added g e → AreCompared f d g e
  two_at_places f g d e c k = by (located f d c) (located g e k)
    where
      by : Located f d → Located g e → AreCompared f d g e
      by (at_place rest p x) (at_place back q y) =
          let same = same_if f g rest back (none_beyond mode rules us start added laws f d c) (none_beyond mode rules us start added laws g e k) p q in
          inl (same, one_row g back d e (subst (λ f. Row f back d) same (subst (λ rest. Row f rest d) (rests f g rest back same p q) x)) y)
      by (at_place rest p x) (in_class from at_class q y) = absurd (row_against_class f from g rest at_class d e (none_beyond mode rules us start added laws f d c) p x q y)
      by (in_class from at_class p x) (at_place back q y) = absurd (row_against_class g from f back at_class e d (none_beyond mode rules us start added laws g e k) q y p x)
      by (in_class from at_class p x) (in_class other also q y) = laws.two (in_one_class from other f g at_class also d e p x q y) y

  -- A refusal that says more than that nothing stands there is the first.
  pub said_is_first : (place : ℕ) (d : Diagnostic) → IsCauseAtPlace mode rules us start added place d → yielding_of d ≢ no_item → IsFirstOf (IsCauseAtPlace mode rules us start added) d
  said_is_first place d c says = most_is_first (IsCauseAtPlace mode rules us start added) place d c (λ further e k. two_at_places place further d e c k) says

  -- So is the first of a class that begins at a place that is reached.
  pub class_is_first : (from : ℕ) (at_class : List CodePoint) (d : Diagnostic) → IsPlace mode rules us from at_class → IsFirstInClass mode us start added from at_class d → IsFirstOf (IsCauseAtPlace mode rules us start added) d
  class_is_first from at_class d p x = record {
    place = x.place;
    holds = cause.of_class from x.place at_class p x.holds;
    none_later = λ further e k less. x.none_later further e (of_this_class from x.place further at_class d e p x.holds k) less;
    none_over = λ e k. x.none_over e (of_this_class from x.place x.place at_class d e p x.holds k);
  }

  -- Without `v` they are one.
  pub one_cause_at_places : is_sets mode ≡ false → (f g : ℕ) (d e : Diagnostic) → IsCauseAtPlace mode rules us start added f d → IsCauseAtPlace mode rules us start added g e → (f ≡ g) × (d ≡ e)
  one_cause_at_places no_sets f g d e c k = by (located f d c) (located g e k)
    where
      by : Located f d → Located g e → (f ≡ g) × (d ≡ e)
      by (at_place rest p x) (at_place back q y) =
          let same = same_if f g rest back (none_beyond mode rules us start added laws f d c) (none_beyond mode rules us start added laws g e k) p q in
          (same, one_row g back d e (subst (λ f. Row f back d) same (subst (λ rest. Row f rest d) (rests f g rest back same p q) x)) y)
      by (at_place rest p x) (in_class from at_class q y) = absurd (row_against_class f from g rest at_class d e (none_beyond mode rules us start added laws f d c) p x q y)
      by (in_class from at_class p x) (at_place back q y) = absurd (row_against_class g from f back at_class e d (none_beyond mode rules us start added laws g e k) q y p x)
      by (in_class from at_class p x) (in_class other also q y) = laws.one no_sets (in_one_class from other f g at_class also d e p x q y) y

  one_clash : (a b x y : ℕ) → IsFirstClash mode rules.duplicate_names (marks mode (values us)) a b → IsFirstClash mode rules.duplicate_names (marks mode (values us)) x y →
      DuplicatedCapturingGroupNames (name_span mode us start added a) (name_span mode us start added b) ≡ DuplicatedCapturingGroupNames (name_span mode us start added x) (name_span mode us start added y)
  one_clash a b x y c k =
      let l = c.second_least x y k.clash in
      let m = k.second_least a b c.clash in
      let seconds : b ≡ y = omega (arith, l, m) in
      let firsts : a ≡ x = first_is a b x y seconds c k in
      ap (λ a. DuplicatedCapturingGroupNames (name_span mode us start added a) (name_span mode us start added b)) firsts
      ∙ ap (λ b. DuplicatedCapturingGroupNames (name_span mode us start added x) (name_span mode us start added b)) seconds
    where
      first_is : (a b x y : ℕ) → b ≡ y → IsFirstClash mode rules.duplicate_names (marks mode (values us)) a b → IsFirstClash mode rules.duplicate_names (marks mode (values us)) x y → a ≡ x
      first_is a b x y e c k =
          let also = subst (λ y. IsFirstClash mode rules.duplicate_names (marks mode (values us)) x y) (sym e) k in
          let l = c.first_least x also.clash in
          let m = also.first_least a c.clash in
          omega (arith, l, m)

  -- Of two refusals of the text, they are one where those at places are.
  one_by : (d e : Diagnostic) → (HasNoClash mode rules.duplicate_names us → text_groups mode us ≤ most_groups → (f g : ℕ) → IsCauseAtPlace mode rules us start added f d → IsCauseAtPlace mode rules us start added g e → d ≡ e) → IsCause mode rules us start added d → IsCause mode rules us start added e → d ≡ e
  one_by _ _ places (cause.duplicated_names a b c) (cause.duplicated_names x y k) = one_clash a b x y c k
  one_by _ _ places (cause.duplicated_names a b c) (cause.too_many_groups none many) = absurd (none a b c.clash)
  one_by _ e places (cause.duplicated_names a b c) (cause.at_place place none few k) = absurd (none a b c.clash)
  one_by _ _ places (cause.too_many_groups none many) (cause.duplicated_names a b c) = absurd (none a b c.clash)
  one_by _ _ places (cause.too_many_groups none many) (cause.too_many_groups also too) = refl
  one_by _ e places (cause.too_many_groups none many) (cause.at_place place also few k) = absurd (omega (arith, many, few))
  one_by d _ places (cause.at_place place none few c) (cause.duplicated_names a b k) = absurd (none a b k.clash)
  one_by d _ places (cause.at_place place none few c) (cause.too_many_groups also many) = absurd (omega (arith, many, few))
  one_by d e places (cause.at_place place none few c) (cause.at_place further also too k) = places none few place further c k

  -- Without `v` at most one refusal holds.
  pub one_cause : is_sets mode ≡ false → (d e : Diagnostic) → IsCause mode rules us start added d → IsCause mode rules us start added e → d ≡ e
  one_cause no_sets d e c k = one_by d e (λ none few f g c k. (one_cause_at_places no_sets f g d e c k).1) c k

  -- At most one is the first.
  pub one_first : (d e : Diagnostic) → IsFirst mode rules us start added d → IsFirst mode rules us start added e → d ≡ e
  one_first d e (of_groups c other) (of_groups k other') = one_by d e (λ none few f g c k. absurd (other none few)) c k
  one_first d e (of_groups c other) (of_places none few k) = absurd (other none few)
  one_first d e (of_places none few c) (of_groups k other) = absurd (other none few)
  one_first d e (of_places none few c) (of_places none' few' k) = one_first_of (IsCauseAtPlace mode rules us start added) d e c k (λ f g d e c k. two_at_places f g d e c k)

  -- So a refusal is the first without `v`, since it is the only one.
  pub cause_is_first : is_sets mode ≡ false → (d : Diagnostic) → IsCause mode rules us start added d → IsFirst mode rules us start added d
  cause_is_first no_sets _ (cause.duplicated_names a b c) = of_groups (cause.duplicated_names a b c) (λ none few. none a b c.clash)
  cause_is_first no_sets _ (cause.too_many_groups none many) = of_groups (cause.too_many_groups none many) (λ also few. omega (arith, many, few))
  cause_is_first no_sets d (cause.at_place place none few c) =
      of_places none few (only_is_first (IsCauseAtPlace mode rules us start added) place d c (λ further e k. one_cause_at_places no_sets place further d e c k))
