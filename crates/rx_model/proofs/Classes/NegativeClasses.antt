-- Where a negative class may contain strings no other refusal of its class holds, so that it is the first wherever it is said to hold.
use Rattle.std.proofs.Common.{◌≡◌, ◌⊎◌, refl, ap, sym, ◌∙◌, subst, ℕ, ◌+◌, Bool, true, false, List, inl, inr}
use Rattle.std.proofs.lemmas.Bool.{true≢false}
use Rattle.rx_base.specs.declared.diagnostic.Diagnostic.{Diagnostic}
use Rattle.rx_base.specs.declared.span.Span.{Span}
use Rattle.rx_units.specs.declared.code_point.CodePoint.{CodePoint}
use Rattle.rx_model.specs.declared.mode.Mode.{Mode}
use Rattle.rx_model.specs.Inputs.Environment.{Environment}
use Rattle.rx_model.specs.Refusals.ClassCauses as class_cause
use Rattle.rx_model.specs.Refusals.ClassCauses.{IsClassCause, IsNegativeWithStrings, of_negative}
use Rattle.rx_model.specs.Refusals.EscapeCauses as escape
use Rattle.rx_model.specs.Refusals.EscapeCauses.{IsEscapeCause, IsPropertyCause}
use Rattle.rx_model.specs.Refusals.Firsts.{IsFirstInClass, IsFirstOf}
use Rattle.rx_model.specs.Refusals.FromStart as from_start
use Rattle.rx_model.specs.Refusals.FromStart.{IsClassCauseFromStart, is_of_negative}
use Rattle.rx_model.specs.Refusals.Reached.{class_environment, span_between}
use Rattle.rx_model.proofs.Classes.ClassFaults.{Closing, Fault, Opens, closing, negative_stuck, nothing, said, stuck}
use Rattle.rx_model.proofs.Classes.ClassStates.{opened_fits}
use Rattle.rx_model.proofs.Classes.NothingFirst.{closer_follows}
use Rattle.rx_model.proofs.Classes.OneFault.{one_opens, one_said}
use Rattle.rx_model.proofs.Classes.OneInClass.{same_state}
use Rattle.rx_model.proofs.Refusals.OnlyFirst.{Carries, IsOnly, first_by_either}

says_negative : (nested : Bool) (span : Span) → is_of_negative (of_negative nested span) ≡ true
says_negative false span = refl
says_negative true span = refl

module _ (mode : Mode) (us : List CodePoint) (start added : ℕ) where
  pub escape_is_other : (place : ℕ) (rest : List CodePoint) (d : Diagnostic) → IsEscapeCause mode us start added place rest d → is_of_negative d ≡ false
  escape_is_other place rest _ (escape.invalid_escape following unicode whole no_value no_limit) = refl
  escape_is_other place rest _ c = refl

  pub property_is_other : (place : ℕ) (rest : List CodePoint) (d : Diagnostic) → IsPropertyCause mode us start added place rest d → is_of_negative d ≡ false
  property_is_other place rest _ (escape.no_property letter following unicode whole is other) = refl
  property_is_other place rest _ c = refl

module _ (mode : Mode) (us : List CodePoint) (start added from : ℕ) (at_class : List CodePoint) where
  abbrev here : Environment
  here = class_environment mode us

  abbrev Cause : ℕ → Diagnostic → Type 0
  Cause = IsClassCause mode us start added from at_class

  abbrev FromStart : ℕ → Diagnostic → Type 0
  FromStart = IsClassCauseFromStart mode us start added from at_class

  abbrev Negative : Bool → ℕ → ℕ → List CodePoint → Type 0
  Negative = IsNegativeWithStrings here from at_class

  -- what is said of it
  abbrev it_says : Bool → ℕ → ℕ → Diagnostic
  it_says nested begin place = of_negative nested (span_between us start added begin (place + 1))

  -- No other refusal holds.
  pub only_negative : (nested : Bool) (begin place : ℕ) (rest : List CodePoint) → Negative nested begin place rest → (f : ℕ) (e : Diagnostic) → Cause f e → (place ≡ f) × (it_says nested begin place ≡ e)
  only_negative nested begin place rest n f e k =
      let x = negative_stuck mode us start added from at_class nested begin place rest n in
      let y = stuck mode us start added from at_class f e k in
      by x f e (subst (λ s. Fault mode us start added from at_class s f e) (sym (same_state mode us start added from at_class x.state y.state x.is_stuck y.is_stuck)) y.fault)
    where
      by : (x : Closing mode us start added from at_class nested begin place) (f : ℕ) (e : Diagnostic) → Fault mode us start added from at_class x.state f e → (place ≡ f) × (it_says nested begin place ≡ e)
      by x _ e (nothing none k) =
          let s = x.state in
          let fits = opened_fits here s.tokens at_class s.at s.rest s.inner s.outer x.is_stuck.row x.is_stuck.accepted in
          absurd (closer_follows mode us start added from at_class s fits x.begins x.closes x.whole none)
      by x f e (said k) =
          let s = x.state in
          let same = one_said mode us start added from at_class s s.place f (it_says nested begin s.place) e (closing nested begin x.opens x.begins x.closes x.whole) k in
          (sym x.place_is ∙ same.0, ap (it_says nested begin) (sym x.place_is) ∙ same.1)

  -- It began at one place.
  one_begin : (nested also : Bool) (begin other place further : ℕ) (rest back : List CodePoint) → Negative nested begin place rest → Negative also other further back → begin ≡ other
  one_begin nested also begin other place further rest back n m =
      let x = negative_stuck mode us start added from at_class nested begin place rest n in
      let y = negative_stuck mode us start added from at_class also other further back m in
      (one_opens mode us start added from at_class y.state.tokens nested also begin other
      (subst (λ s. Opens mode us start added from at_class s.tokens nested begin) (same_state mode us start added from at_class x.state y.state x.is_stuck y.is_stuck) x.opens) y.opens).1

  pub only_from_start : (nested : Bool) (begin place : ℕ) (rest : List CodePoint) → Negative nested begin place rest → (f : ℕ) (e : Diagnostic) → FromStart f e → (begin ≡ f) × (it_says nested begin place ≡ e)
  only_from_start nested begin place rest n _ _ (from_start.negative_strings also other further back m) =
      (one_begin nested also begin other place further rest back n m, (only_negative nested begin place rest n further _ (class_cause.negative_strings also other further back m)).1)
  only_from_start nested begin place rest n _ _ (from_start.other f e c not) =
      absurd (true≢false (sym (says_negative nested _) ∙ ap is_of_negative (only_negative nested begin place rest n f e c).1 ∙ not))

  -- A refusal is that of a negative class, or says something other.
  pub data Sorted : ℕ → Diagnostic → Type 0 where
    of_negatives : (nested : Bool) (begin place : ℕ) (rest : List CodePoint) → Negative nested begin place rest → Sorted place (it_says nested begin place)
    of_others : {place : ℕ} {d : Diagnostic} → is_of_negative d ≡ false → Sorted place d

  pub sorted : (place : ℕ) (d : Diagnostic) → Cause place d → Sorted place d
  sorted _ _ (class_cause.negative_strings nested begin place rest n) = of_negatives nested begin place rest n
  sorted place d (class_cause.escape_in_class _ rest at c) = of_others (escape_is_other mode us start added place rest d c)
  sorted place d (class_cause.property_in_class _ rest at c) = of_others (property_is_other mode us start added place rest d c)
  sorted place _ c = of_others refl

  -- It is the only one at its closer and at its beginning.
  to_start : Carries Cause FromStart
  to_start place d c = by place d (sorted place d c) c
    where
      by : (place : ℕ) (d : Diagnostic) → Sorted place d → Cause place d → FromStart place d ⊎ (IsOnly Cause place d × ((other : ℕ) × IsOnly FromStart other d))
      by _ _ (of_negatives nested begin place rest n) c =
          inr ((c, only_negative nested begin place rest n), (begin, (from_start.negative_strings nested begin place rest n, only_from_start nested begin place rest n)))
      by place d (of_others not) c = inl (from_start.other place d c not)

  to_closer : Carries FromStart Cause
  to_closer _ _ (from_start.negative_strings nested begin place rest n) =
      inr ((from_start.negative_strings nested begin place rest n, only_from_start nested begin place rest n), (place, (class_cause.negative_strings nested begin place rest n, only_negative nested begin place rest n)))
  to_closer _ _ (from_start.other place d c not) = inl c

  pub first_from_start : (d : Diagnostic) → IsFirstInClass mode us start added from at_class d → IsFirstOf FromStart d
  first_from_start = first_by_either Cause FromStart to_start to_closer

  pub first_at_closer : (d : Diagnostic) → IsFirstOf FromStart d → IsFirstInClass mode us start added from at_class d
  first_at_closer = first_by_either FromStart Cause to_closer to_start
