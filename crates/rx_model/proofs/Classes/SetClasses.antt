-- With `v`: where a `[` stands, a class stands that is free of early errors, or a refusal holds in it.
use Rattle.std.proofs.Common.{◌≡◌, ◌⊎◌, refl, ap, sym, ◌∙◌, subst, ℕ, ◌≤◌, true, false, not, Some, List, [], ◌∷◌, inl, inr}
use Rattle.std.specs.Prelude.{All}
use Rattle.std.proofs.lemmas.Bool.{cases_Bool, eqb-true, true≢false}
use Rattle.rx_base.specs.declared.diagnostic.kinds.SetOperator.{SetOperator}
use Rattle.rx_base.specs.declared.diagnostic.kinds.SetOperator.TheVariants.{Intersection, Subtraction}
use Rattle.rx_units.specs.declared.code_point.CodePoint.{CodePoint}
use Rattle.rx_units.specs.Units.{values}
use Rattle.rx_model.specs.declared.mode.Mode.TheVariants.{Sets}
use Rattle.rx_model.specs.Classes.ClassRows.{Place, SpellsInClass, after_operator, fresh, may_follow_operator}
use Rattle.rx_model.specs.Classes.ClassRuns.{Held, empty, single, several, pending, joined, is_union, may_follow, operator_of}
use Rattle.rx_model.specs.FirstPass.Marks.{starts}
use Rattle.rx_model.specs.Inputs.Environment.{Environment}
use Rattle.rx_model.specs.Refusals.ClassCauses as class_cause
use Rattle.rx_model.specs.Refusals.ClassCauses.{NothingFollows}
use Rattle.rx_model.specs.Refusals.ClassPlaces.{begins_item}
use Rattle.rx_model.specs.Refusals.Reached.{class_environment}
use Rattle.rx_model.proofs.Classes.ClassValues.{all_small}
use Rattle.rx_model.proofs.Classes.FurtherItems as items
use Rattle.rx_model.proofs.Classes.FurtherItems.{Item, Refused, RefusesNothing, StandsClass, same_place}
use Rattle.rx_model.proofs.Classes.OpenBrackets.{innermost}

module _ (us : List CodePoint) (start added from : ℕ) (at_class : List CodePoint) where
  abbrev here : Environment
  here = class_environment Sets us

  abbrev There : ℕ → List CodePoint → Type 0
  There = Item Sets us start added from at_class

  abbrev Wrong : Type 0
  Wrong = Refused Sets us start added from at_class

  module _ {place : ℕ} {rest : List CodePoint} (i : There place rest) (none : NothingFollows here i.at i.inner.held rest) where
    -- a union, with an operand or at the end of the text
    in_union : is_union i.inner.held ≡ true → (i.inner.held ≡ empty → rest ≡ []) → Wrong
    in_union union ends =
        let b = innermost here from at_class place rest i in
        let held : b.in_bracket.item_place.inner.held ≡ i.inner.held = ap (λ r. r.held) b.inner_is in (
          place,
          _,
          class_cause.unterminated_class b.is_nested b.begin place rest b.in_bracket (ap is_union held ∙ union)
              (λ t w more whole s. ap (λ h. may_follow h t) held ∙ none t w more whole (subst (λ q. SpellsInClass here q t w more) b.at_is s))
              (λ sets none_held. ends (sym held ∙ none_held)) (λ no_sets. absurd (true≢false no_sets)),
        )

    -- an intersection or a subtraction
    refused : (operator : SetOperator) → operator_of i.inner.held ≡ Some operator → (i.at ≡ after_operator operator → may_follow_operator operator (values rest) ≡ true) → Wrong
    refused operator held follows = (place, _, class_cause.no_operator operator place rest i held none follows)

    in_operands : (operator : SetOperator) → operator_of i.inner.held ≡ Some operator → Wrong
    in_operands Subtraction held = refused Subtraction held (λ at. refl)
    in_operands Intersection held = elim (cases_Bool (starts 38 (values rest))) [ inl ampersand ↦ by_place i.at refl i.begins rest refl ampersand | inr other ↦ refused Intersection held (λ at. ap not other) ]
      where
        elsewhere : (q : Place) → i.at ≡ q → (q ≡ after_operator Intersection → ⊥) → Wrong
        elsewhere q at other = refused Intersection held (λ is. absurd (other (sym at ∙ is)))

        by_place : (q : Place) → i.at ≡ q → begins_item q ≡ true → (text : List CodePoint) → rest ≡ text → starts 38 (values text) ≡ true → Wrong
        by_place (after_operator Intersection) at begins [] there ampersand = absurd (true≢false (sym ampersand))
        by_place (after_operator Intersection) at begins (u ∷ text) there ampersand =
            (place, _, class_cause.third_ampersand place u text (same_place Sets us start added from at_class i (u ∷ text) there) at (eqb-true u.value 38 ampersand))
        by_place (after_operator Subtraction) at begins text there ampersand = elsewhere (after_operator Subtraction) at (λ is. cc is)
        by_place fresh at begins text there ampersand = elsewhere fresh at (λ is. cc is)
        by_place q at begins text there ampersand = absurd (true≢false (sym begins))

    -- nothing in the bracket
    in_none : i.inner.held ≡ empty → (text : List CodePoint) → rest ≡ text → Wrong
    in_none held [] there = in_union (ap is_union held) (λ none_held. there)
    in_none held (u ∷ text) there = (place, _, class_cause.no_operand place rest i refl held none (λ ends. let no = sym there ∙ ends in cc no))

    by_held : (held : Held) → i.inner.held ≡ held → Wrong
    by_held empty e = in_none e rest refl
    by_held single e = in_union (ap is_union e) (λ none_held. let no = sym e ∙ none_held in absurd (let f : ⊥ = cc no in f))
    by_held several e = in_union (ap is_union e) (λ none_held. let no = sym e ∙ none_held in absurd (let f : ⊥ = cc no in f))
    by_held (pending o) e = in_operands o (ap operator_of e)
    by_held (joined o) e = in_operands o (ap operator_of e)

  -- Where nothing may follow a refusal says so, by what the bracket holds.
  refuses_nothing : RefusesNothing Sets us start added from at_class
  refuses_nothing place rest i none = by_held i none i.inner.held refl

  pub set_class_or_refusal : (u : CodePoint) (text : List CodePoint) → at_class ≡ u ∷ text → u.value ≡ 91 → All (λ u. u.value ≤ 0x10FFFF) text → StandsClass Sets us start added from at_class ⊎ Refused Sets us start added from at_class
  set_class_or_refusal u text at h small = items.class_or_refusal Sets us start added from at_class refuses_nothing u text at h (all_small text small)
