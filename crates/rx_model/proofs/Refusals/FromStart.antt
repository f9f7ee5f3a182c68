-- Of a text too the first refusal is the same where that of a negative class which may contain strings holds at its closer and where it holds where the class begins.
use Rattle.std.proofs.Common.{◌≡◌, ◌⊎◌, refl, sym, subst, ℕ, ◌+◌, Bool, false, List, inl, inr}
use Rattle.rx_base.specs.declared.diagnostic.Diagnostic.{Diagnostic}
use Rattle.rx_units.specs.declared.code_point.CodePoint.{CodePoint}
use Rattle.rx_model.specs.declared.mode.Mode.{Mode}
use Rattle.rx_model.specs.declared.rules.Rules.{Rules}
use Rattle.rx_model.specs.Refusals.Causes as cause
use Rattle.rx_model.specs.Refusals.Causes.{IsCauseAtPlace}
use Rattle.rx_model.specs.Refusals.ClassCauses.{IsClassCause, IsNegativeWithStrings, negative_strings, of_negative}
use Rattle.rx_model.specs.Refusals.Firsts.{IsFirstOf}
use Rattle.rx_model.specs.Refusals.FromStart as from_start
use Rattle.rx_model.specs.Refusals.FromStart.{IsCauseFromStart, IsClassCauseFromStart, elsewhere, in_class, is_of_negative}
use Rattle.rx_model.specs.Refusals.Reached.{IsPlace, class_environment, span_between}
use Rattle.rx_model.proofs.Classes.NegativeClasses.{Sorted, escape_is_other, of_negatives, of_others, only_from_start, only_negative, property_is_other, sorted}
use Rattle.rx_model.proofs.Refusals.Beyond.{ClassLaws}
use Rattle.rx_model.proofs.Refusals.OneCause.{of_this_class, one_class}
use Rattle.rx_model.proofs.Refusals.OnlyFirst.{Carries, IsOnly, first_by_either}

module _ (mode : Mode) (rules : Rules) (us : List CodePoint) (start added : ℕ) (laws : ClassLaws mode rules us start added) where
  abbrev Cause : ℕ → Diagnostic → Type 0
  Cause = IsCauseAtPlace mode rules us start added

  abbrev FromStart : ℕ → Diagnostic → Type 0
  FromStart = IsCauseFromStart mode rules us start added

  abbrev InClass : ℕ → List CodePoint → ℕ → Diagnostic → Type 0
  InClass = IsClassCause mode us start added

  abbrev InClassFromStart : ℕ → List CodePoint → ℕ → Diagnostic → Type 0
  InClassFromStart = IsClassCauseFromStart mode us start added

  -- A refusal is one of a class, or says something other than that of a negative class.
  data Located (place : ℕ) (d : Diagnostic) : Type 0 where
    of_class : (from : ℕ) (at_class : List CodePoint) → IsPlace mode rules us from at_class → InClass from at_class place d → Located place d
    of_text : is_of_negative d ≡ false → Located place d

  located : (place : ℕ) (d : Diagnostic) → Cause place d → Located place d
  located place d (cause.of_class from _ at_class p c) = of_class from at_class p c
  located place d (cause.of_escape _ rest p c) = of_text (escape_is_other mode us start added place rest d c)
  located place d (cause.of_property _ rest p c) = of_text (property_is_other mode us start added place rest d c)
  located place _ c = of_text refl

  -- Where a refusal holds in a class it holds at some place of it.
  at_some_place : (from f : ℕ) (at_class : List CodePoint) (d : Diagnostic) → InClassFromStart from at_class f d → (g : ℕ) × InClass from at_class g d
  at_some_place from _ at_class _ (from_start.negative_strings nested begin place rest n) = (place, negative_strings nested begin place rest n)
  at_some_place from _ at_class _ (from_start.other place d c not) = (place, c)

  -- Where one of a class holds, each that holds is of this class.
  of_it : (from f g : ℕ) (at_class : List CodePoint) (d e : Diagnostic) → IsPlace mode rules us from at_class → InClass from at_class f d → FromStart g e → InClassFromStart from at_class g e
  of_it from f _ at_class d _ p x (in_class other g also e q c) =
      let y = at_some_place other g also e c in
      let same = one_class mode rules us start added laws from other f y.0 at_class also d e p x q y.1 in
      subst (λ from. InClassFromStart from at_class g e) (sym same.0) (subst (λ at_class. InClassFromStart other at_class g e) (sym same.1) c)
  of_it from f _ at_class d _ p x (elsewhere g e c not) = from_start.other g e (of_this_class mode rules us start added laws from f g at_class d e p x c) not

  -- A negative class that may contain strings is refused alone.
  module _ (from : ℕ) (at_class : List CodePoint) (p : IsPlace mode rules us from at_class) (nested : Bool) (begin place : ℕ) (rest : List CodePoint)
      (n : IsNegativeWithStrings (class_environment mode us) from at_class nested begin place rest) where
    abbrev it_says : Diagnostic
    it_says = of_negative nested (span_between us start added begin (place + 1))

    refused : InClass from at_class place it_says
    refused = negative_strings nested begin place rest n

    pub only_at_closer : IsOnly Cause place it_says
    only_at_closer =
        (cause.of_class from place at_class p refused, λ g e k. only_negative mode us start added from at_class nested begin place rest n g e (of_this_class mode rules us start added laws from place g at_class it_says e p refused k))

    only_at_start : IsOnly FromStart begin it_says
    only_at_start = (
      in_class from begin at_class it_says p (from_start.negative_strings nested begin place rest n),
      λ g e k. only_from_start mode us start added from at_class nested begin place rest n g e (of_it from place g at_class it_says e p refused k),
    )

  to_start : Carries Cause FromStart
  to_start place d c = by (located place d c)
    where
      in_this : (from : ℕ) (at_class : List CodePoint) → IsPlace mode rules us from at_class → (place : ℕ) (d : Diagnostic) → Sorted mode us start added from at_class place d → Cause place d →
          FromStart place d ⊎ (IsOnly Cause place d × ((other : ℕ) × IsOnly FromStart other d))
      in_this from at_class p _ _ (of_negatives nested begin place rest n) c =
          inr (only_at_closer from at_class p nested begin place rest n, (begin, only_at_start from at_class p nested begin place rest n))
      in_this from at_class p place d (of_others not) c = inl (elsewhere place d c not)

      by : Located place d → FromStart place d ⊎ (IsOnly Cause place d × ((other : ℕ) × IsOnly FromStart other d))
      by (of_class from at_class p x) = in_this from at_class p place d (sorted mode us start added from at_class place d x) c
      by (of_text not) = inl (elsewhere place d c not)

  to_closer : Carries FromStart Cause
  to_closer _ _ (in_class from f at_class d p c) = by f d c
    where
      by : (f : ℕ) (d : Diagnostic) → InClassFromStart from at_class f d → Cause f d ⊎ (IsOnly FromStart f d × ((other : ℕ) × IsOnly Cause other d))
      by _ _ (from_start.negative_strings nested begin place rest n) = inr (only_at_start from at_class p nested begin place rest n, (place, only_at_closer from at_class p nested begin place rest n))
      by _ _ (from_start.other place d x not) = inl (cause.of_class from place at_class p x)
  to_closer _ _ (elsewhere place d c not) = inl c

  pub first_from_start : (d : Diagnostic) → IsFirstOf Cause d → IsFirstOf FromStart d
  first_from_start = first_by_either Cause FromStart to_start to_closer

  pub first_at_closer : (d : Diagnostic) → IsFirstOf FromStart d → IsFirstOf Cause d
  first_at_closer = first_by_either FromStart Cause to_closer to_start
