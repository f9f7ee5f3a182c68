-- Units that are equal.
use Rattle.std.proofs.Common.{◌≡◌, refl, ap, sym, ◌∙◌, subst, ℕ, ◌-◌, Bool, true, false, ◌==◌, ◌&&◌, if◌then◌else◌, List, [], ◌∷◌}
use lib.Pointwise.{pointwise}
use Rattle.std.specs.Prelude.{nat_eq}
use Rattle.std.proofs.lemmas.Bool.{eqb-true, eq-eqb, false≢true}
use Rattle.rx_trace.specs.Groups.{same_units}

pub pointwise_is : (a b : List ℕ) → pointwise nat_eq a b ≡ same_units a b
pointwise_is [] [] = refl
pointwise_is [] (d ∷ ds) = refl
pointwise_is (c ∷ cs) [] = refl
pointwise_is (c ∷ cs) (d ∷ ds) = by_test (c == d) (pointwise_is cs ds)
  where
    by_test : (b : Bool) → pointwise nat_eq cs ds ≡ same_units cs ds → (b && pointwise nat_eq cs ds) ≡ (if b then same_units cs ds else false)
    by_test true same = same
    by_test false same = refl

same_refl : (a : List ℕ) → same_units a a ≡ true
same_refl [] = refl
same_refl (c ∷ cs) = ap (λ b. if b then same_units cs cs else false) (eq-eqb c c refl) ∙ same_refl cs

same_true : (a b : List ℕ) → same_units a b ≡ true → a ≡ b
same_true [] [] same = refl
same_true [] (d ∷ ds) same = absurd (false≢true same)
same_true (c ∷ cs) [] same = absurd (false≢true same)
same_true (c ∷ cs) (d ∷ ds) same = by_test (c == d) refl (same_true cs ds) same
  where
    by_test : (b : Bool) → (c == d) ≡ b → (same_units cs ds ≡ true → cs ≡ ds) → (if b then same_units cs ds else false) ≡ true → c ∷ cs ≡ d ∷ ds
    by_test true is rest same = ap (λ x. x ∷ cs) (eqb-true c d is) ∙ ap (λ xs. d ∷ xs) (rest same)
    by_test false is rest same = absurd (false≢true same)

pub same_is : (r : Bool) (a b : List ℕ) → ((r ≡ true) → a ≡ b) → (a ≡ b → r ≡ true) → r ≡ same_units a b
same_is r a b holds back = by_test r refl (same_units a b) refl
  where
    by_test : (q : Bool) → r ≡ q → (t : Bool) → same_units a b ≡ t → q ≡ t
    by_test true is true same = refl
    by_test true is false same = absurd (false≢true (sym same ∙ subst (λ x. same_units a x ≡ true) (holds is) (same_refl a)))
    by_test false is true same = absurd (false≢true (sym is ∙ back (same_true a b same)))
    by_test false is false same = refl
