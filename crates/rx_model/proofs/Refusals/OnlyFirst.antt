-- Where one refusal holds alone, at one place, it is the first; where of two that hold one gives way to the other at most one is the first.
use Rattle.std.proofs.Common.{◌≡◌, ◌≢◌, ◌⊎◌, refl, ap, sym, ◌∙◌, subst, ℕ, ◌<◌, true, false, arith, inl, inr}
use Rattle.std.proofs.lemmas.Bool.{true≢false}
use Rattle.rx_base.specs.declared.diagnostic.Diagnostic.{Diagnostic}
use Rattle.rx_model.specs.Refusals.Firsts.{GivesWay, IsFirstOf, Yielding, no_item, no_escape, many_digits, no_property, of_strings, any_other, yielding_of, yields}

yields_to_none : (k : Yielding) → yields k k ≡ false
yields_to_none no_item = refl
yields_to_none no_escape = refl
yields_to_none many_digits = refl
yields_to_none no_property = refl
yields_to_none of_strings = refl
yields_to_none any_other = refl

pub only_is_first : (Holds : ℕ → Diagnostic → Type 0) (place : ℕ) (d : Diagnostic) → Holds place d → ((further : ℕ) (e : Diagnostic) → Holds further e → (place ≡ further) × (d ≡ e)) → IsFirstOf Holds d
only_is_first Holds place d h only = record {
  place = place;
  holds = h;
  none_later = λ further e k less. let same = (only further e k).0 in omega (arith, same, less);
  none_over = λ e k. ap (λ e. yields (yielding_of d) (yielding_of e)) (sym (only place e k).1) ∙ yields_to_none (yielding_of d);
}

-- A refusal holds, and no other does.
abbrev pub IsOnly : (ℕ → Diagnostic → Type 0) → ℕ → Diagnostic → Type 0
IsOnly Holds place d = Holds place d × ((further : ℕ) (e : Diagnostic) → Holds further e → (place ≡ further) × (d ≡ e))

-- What holds by one relation holds by the other at the same place, or is the only one that holds by either.
abbrev pub Carries : (ℕ → Diagnostic → Type 0) → (ℕ → Diagnostic → Type 0) → Type 0
Carries Holds Also = (place : ℕ) (d : Diagnostic) → Holds place d → Also place d ⊎ (IsOnly Holds place d × ((other : ℕ) × IsOnly Also other d))

-- So the first by one is the first by the other, where each carries what holds over to the other.
pub first_by_either : (Holds Also : ℕ → Diagnostic → Type 0) → Carries Holds Also → Carries Also Holds → (d : Diagnostic) → IsFirstOf Holds d → IsFirstOf Also d
first_by_either Holds Also over back d x = by (over x.place d x.holds)
  where
    by : Also x.place d ⊎ (IsOnly Holds x.place d × ((other : ℕ) × IsOnly Also other d)) → IsFirstOf Also d
    by (inr only) = let o = only.1 in only_is_first Also o.0 d o.1.0 o.1.1
    by (inl holds) = record {
      place = x.place;
      holds = holds;
      none_later = λ further e k less. later further e (back further e k) less;
      none_over = λ e k. over_none e (back x.place e k);
    }
      where
        later : (further : ℕ) (e : Diagnostic) → Holds further e ⊎ (IsOnly Also further e × ((other : ℕ) × IsOnly Holds other e)) → x.place < further → ⊥
        later further e (inl h) less = x.none_later further e h less
        later further e (inr only) less = let same = (only.0.1 x.place d holds).0 in omega (arith, same, less)

        over_none : (e : Diagnostic) → Holds x.place e ⊎ (IsOnly Also x.place e × ((other : ℕ) × IsOnly Holds other e)) → yields (yielding_of d) (yielding_of e) ≡ false
        over_none e (inl h) = x.none_over e h
        over_none e (inr only) = ap (λ e. yields (yielding_of d) (yielding_of e)) (only.0.1 x.place d holds).1 ∙ yields_to_none (yielding_of d)

-- What gives way yields.
gives_way_yields : (f g : ℕ) (d e : Diagnostic) → GivesWay f d g e → yields (yielding_of d) (yielding_of e) ≡ true
gives_way_yields f g d e w = by (yielding_of e) w.says_more (λ k. ap (λ other. yields other k) w.says_less)
  where
    by : (k : Yielding) → (k ≡ no_item → ⊥) → ((k : Yielding) → yields (yielding_of d) k ≡ yields no_item k) → yields (yielding_of d) k ≡ true
    by no_item more at = absurd (more refl)
    by no_escape more at = at no_escape
    by many_digits more at = at many_digits
    by no_property more at = at no_property
    by of_strings more at = at of_strings
    by any_other more at = at any_other

-- None yields to one that says nothing.
none_yields : (k : Yielding) → yields k no_item ≡ false
none_yields no_item = refl
none_yields no_escape = refl
none_yields many_digits = refl
none_yields no_property = refl
none_yields of_strings = refl
none_yields any_other = refl

-- Of two that hold the first is the second, or one gives way to the other.
abbrev pub AreCompared : ℕ → Diagnostic → ℕ → Diagnostic → Type 0
AreCompared f d g e = ((f ≡ g) × (d ≡ e)) ⊎ (GivesWay f d g e ⊎ GivesWay g e f d)

module _ (Holds : ℕ → Diagnostic → Type 0) where
  -- A refusal that says more is the first, where each other is that one or gives way.
  pub most_is_first : (place : ℕ) (d : Diagnostic) → Holds place d → ((further : ℕ) (e : Diagnostic) → Holds further e → AreCompared place d further e) → yielding_of d ≢ no_item → IsFirstOf Holds d
  most_is_first place d h all says = record {
    place = place;
    holds = h;
    none_later = λ further e k less. later further e (all further e k) less;
    none_over = λ e k. over e (all place e k);
  }
    where
      later : (further : ℕ) (e : Diagnostic) → AreCompared place d further e → place < further → ⊥
      later further e (inl same) less = omega (arith, same.0, less)
      later further e (inr (inl w)) less = says w.says_less
      later further e (inr (inr w)) less = omega (arith, w.no_earlier, less)

      over : (e : Diagnostic) → AreCompared place d place e → yields (yielding_of d) (yielding_of e) ≡ false
      over e (inl same) = ap (λ e. yields (yielding_of d) (yielding_of e)) (sym same.1) ∙ yields_to_none (yielding_of d)
      over e (inr (inl w)) = absurd (says w.says_less)
      over e (inr (inr w)) = ap (yields (yielding_of d)) w.says_less ∙ none_yields (yielding_of d)

  -- A first refusal does not give way.
  stays : (d e : Diagnostic) (x : IsFirstOf Holds d) (y : IsFirstOf Holds e) → GivesWay x.place d y.place e → ⊥
  stays d e x y w = by (λ less. x.none_later y.place e y.holds less) (λ same. x.none_over e (subst (λ place. Holds place e) (sym same) y.holds))
    where
      by : (x.place < y.place → ⊥) → (x.place ≡ y.place → yields (yielding_of d) (yielding_of e) ≡ false) → ⊥
      by none over =
          let same : x.place ≡ y.place = omega (arith, w.no_earlier, none) in
          true≢false (sym (gives_way_yields x.place y.place d e w) ∙ over same)

  pub one_first_of : (d e : Diagnostic) → IsFirstOf Holds d → IsFirstOf Holds e → ((f g : ℕ) (d e : Diagnostic) → Holds f d → Holds g e → AreCompared f d g e) → d ≡ e
  one_first_of d e x y all = by (all x.place y.place d e x.holds y.holds)
    where
      by : AreCompared x.place d y.place e → d ≡ e
      by (inl same) = same.1
      by (inr (inl w)) = absurd (stays d e x y w)
      by (inr (inr w)) = absurd (stays e d y x w)
