-- Where a refusal of a class holds no item stands beyond, and no class that is free of early errors.
use Rattle.std.proofs.Common.{◌≡◌, refl, ap, sym, ◌∙◌, subst, ℕ, ◌<◌, ◌≤◌, true, false, Option, Some, None, List, [], ◌∷◌, ◌++◌, length, arith, inl, inr}
use Rattle.rx_base.specs.declared.diagnostic.Diagnostic.{Diagnostic}
use Rattle.rx_ast.specs.ClassTree.{Class}
use Rattle.rx_units.specs.declared.code_point.CodePoint.{CodePoint}
use Rattle.rx_units.specs.Units.{values}
use Rattle.rx_model.specs.declared.mode.Mode.{Mode}
use Rattle.rx_model.specs.Classes.ClassFronts.{class_front}
use Rattle.rx_model.specs.Classes.ClassRows.{ClassTokenRow, IsClass, Place, fresh, outside}
use Rattle.rx_model.specs.Classes.ClassRuns.{Bracket, Brackets, class_run_from_start}
use Rattle.rx_model.specs.Classes.ClassTokens.{ClassToken, bracket, class_tokens}
use Rattle.rx_model.specs.Inputs.Environment.{Environment}
use Rattle.rx_model.specs.declared.rules.Rules.{Rules}
use Rattle.rx_model.specs.Reading.Fronts.{bracket_token, front}
use Rattle.rx_model.specs.Reading.Rows.{Spells}
use Rattle.rx_model.specs.Refusals.ClassPlaces.{IsItemPlace}
use Rattle.rx_model.specs.Refusals.Reached.{class_environment, text_environment, text_groups, text_names}
use Rattle.rx_model.specs.Trees.Early.{IsEarlyClass, Obeys}
use Rattle.rx_model.specs.Trees.Token as token
use Rattle.rx_model.proofs.Classes.ClassFaults.{Stuck}
use Rattle.rx_model.proofs.Classes.ClassFronts.{single}
use Rattle.rx_model.proofs.Classes.ClassStates.{row_shorter}
use Rattle.rx_model.proofs.Classes.ClassStops.{item_between}
use Rattle.rx_model.proofs.Classes.ClassWholes.{class_opened-append, whole_class}
use Rattle.rx_model.proofs.Classes.OneInClass.{fault_after}
use Rattle.rx_model.proofs.Reading.Prefixes.{class_prefixes}
use Rattle.rx_model.proofs.Reading.Fronts.{at_bracket, front_spelled}
use Rattle.rx_model.proofs.Refusals.BlockedPlaces.{IsBlocked, next, same_token}

abbrev opens_as : Brackets → Option Brackets
opens_as brackets = Some brackets

-- A row that leads to an open bracket begins with one.
first_bracket : (e : Environment) (ts : List ClassToken) (us : List CodePoint) (q : Place) (rest : List CodePoint) (open_brackets : Brackets) → class_run_from_start ts ≡ Some open_brackets → ClassTokenRow e ts outside us q rest →
    (u : CodePoint) × (more : List CodePoint) × (us ≡ u ∷ more) × (u.value ≡ 91)
first_bracket e [] us q rest open_brackets h r = absurd (let no : ⊥ = cc h in no)
first_bracket e ((bracket true) ∷ ts) us q rest open_brackets h r = two r.0 r.2 r.3
  where
    two : (w : List CodePoint) → us ≡ w ++ r.1 → values w ≡ 91 ∷ 94 ∷ [] → (u : CodePoint) × (more : List CodePoint) × (us ≡ u ∷ more) × (u.value ≡ 91)
    two [] e k = absurd (let no : ⊥ = cc k in no)
    two (u ∷ w) e k = (u, w ++ r.1, e, cc k)
first_bracket e ((bracket false) ∷ ts) us q rest open_brackets h r = let s = single r.0 91 r.3.0 in (s.0, r.1, r.2 ∙ ap (λ w. w ++ r.1) s.1, s.2)
first_bracket e (t ∷ ts) us q rest open_brackets h r = absurd (let no : ⊥ = cc h in no)

module _ (mode : Mode) (us : List CodePoint) (start added from : ℕ) (at_class : List CodePoint) where
  abbrev here : Environment
  here = class_environment mode us

  abbrev Stops : ℕ → Diagnostic → Type 0
  Stops = Stuck mode us start added from at_class

  pub at_bracket_is : (f : ℕ) (d : Diagnostic) → Stops f d → (u : CodePoint) × (more : List CodePoint) × (at_class ≡ u ∷ more) × (u.value ≡ 91)
  at_bracket_is f d x = let s = x.state in first_bracket here s.tokens at_class s.at s.rest (s.inner ∷ s.outer) x.is_stuck.accepted x.is_stuck.row

  pub after_bracket : (f : ℕ) (d : Diagnostic) → Stops f d → from ≤ f
  after_bracket f d x =
      let s = x.state in
      omega (arith, fault_after mode us start added from at_class s f d x.fault, x.is_stuck.place_is, row_shorter here s.tokens outside at_class s.at s.rest x.is_stuck.row)

  -- No item place stands beyond.
  pub item_beyond : (f : ℕ) (d : Diagnostic) → Stops f d → (further : ℕ) (back : List CodePoint) → IsItemPlace here from at_class further back → f < further → ⊥
  item_beyond f d x further back j less =
      let s = x.state in
      let following = fault_after mode us start added from at_class s f d x.fault in
      elim (class_prefixes here s.tokens j.tokens outside at_class s.at s.rest j.at back x.is_stuck.row j.row) [
        | inl p ↦ go following p.0 p.1 p.2
        | inr p ↦ omega (arith, row_shorter here p.0 j.at back s.at s.rest p.2, x.is_stuck.place_is, j.place_is, following, less)
      ]
    where
      go : x.state.place ≤ f → (xs : List ClassToken) → j.tokens ≡ x.state.tokens ++ xs → ClassTokenRow here xs x.state.at x.state.rest j.at back → ⊥
      go following [] e r = omega (arith, ap length r.1, x.is_stuck.place_is, j.place_is, following, less)
      go following (t ∷ ts) e r =
          x.is_stuck.blocked t ts j.at back (j.inner ∷ j.outer) (item_between j.at j.begins) r
          (sym (class_opened-append x.state.tokens (t ∷ ts) (x.state.inner ∷ x.state.outer) x.is_stuck.accepted) ∙ ap class_run_from_start (sym e) ∙ j.accepted)

  -- No class that is free of early errors stands there.
  pub no_class : (f : ℕ) (d : Diagnostic) → Stops f d → (c : Class) (w rest : List CodePoint) → at_class ≡ w ++ rest → IsClass here c w rest → IsEarlyClass c → ⊥
  no_class f d x c w rest whole is early =
      let s = x.state in
      let row = subst (λ us. ClassTokenRow here (class_tokens c) outside us fresh rest) (sym whole) is.row in
      elim (class_prefixes here s.tokens (class_tokens c) outside at_class s.at s.rest fresh rest x.is_stuck.row row) [ inl p ↦ on p.0 p.1 p.2 | inr p ↦ off p.0 p.1 ]
    where
      closes : class_run_from_start (class_tokens c) ≡ Some []
      closes = whole_class here c w rest is early

      none_open : (inner : Bracket) (outer : Brackets) → opens_as [] ≡ opens_as (inner ∷ outer) → ⊥
      none_open inner outer h = cc h

      on : (xs : List ClassToken) → class_tokens c ≡ x.state.tokens ++ xs → ClassTokenRow here xs x.state.at x.state.rest fresh rest → ⊥
      on [] e r =
          none_open x.state.inner x.state.outer
          (sym closes ∙ ap class_run_from_start e ∙ class_opened-append x.state.tokens [] (x.state.inner ∷ x.state.outer) x.is_stuck.accepted)
      on (t ∷ ts) e r =
          x.is_stuck.blocked t ts fresh rest [] refl r (sym (class_opened-append x.state.tokens (t ∷ ts) (x.state.inner ∷ x.state.outer) x.is_stuck.accepted) ∙ ap class_run_from_start (sym e) ∙ closes)

      off : (xs : List ClassToken) → x.state.tokens ≡ class_tokens c ++ xs → ⊥
      off [] e = none_open x.state.inner x.state.outer (sym (class_opened-append (class_tokens c) [] [] closes) ∙ ap class_run_from_start (sym e) ∙ x.is_stuck.accepted)
      off (t ∷ ts) e =
          let no : None ≡ opens_as (x.state.inner ∷ x.state.outer) = sym (class_opened-append (class_tokens c) (t ∷ ts) [] closes) ∙ ap class_run_from_start (sym e) ∙ x.is_stuck.accepted in cc no

  pub class_blocked : (rules : Rules) (f : ℕ) (d : Diagnostic) → Stops f d → IsBlocked mode rules us at_class
  class_blocked rules f d x t n h o = go (class_front here (b.0 ∷ b.1)) (sym h ∙ ap (front there) b.2 ∙ at_bracket there b.0 b.1 b.3)
    where
      there : Environment
      there = text_environment mode rules us

      b : (u : CodePoint) × (more : List CodePoint) × (at_class ≡ u ∷ more) × (u.value ≡ 91)
      b = at_bracket_is f d x

      go : (r : Option (Class × ℕ)) → next t n ≡ bracket_token r → ⊥
      go None k = cc k
      go (Some c) k =
          let same : t ≡ token.class c.0 = same_token t (token.class c.0) n c.1 k in
          let y = front_spelled there at_class t n h in
          no_class f d x c.0 y.w y.rest y.whole (subst (λ t. Spells there t y.w y.rest) same y.spells) (subst (Obeys (text_groups mode us) (text_names mode us)) same o)
