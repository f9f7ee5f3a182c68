-- A search among names finds those that are there.
use Rattle.std.proofs.Common.{◌≡◌, ℕ, true, false, Contains, Decides, List, refl}
use Rattle.std.specs.Prelude.{eqb}
use Rattle.std.specs.List.{list_any}
use Rattle.std.proofs.lemmas.Bool.{false_from_ne_true}
use Rattle.std.proofs.lemmas.Bool.Decides.{Decides-by_or}
use Rattle.std.proofs.lemmas.List.Elements.{Decides-contains}
use Rattle.std.proofs.lemmas.Slice.Eq.{bytes_eq-Decides}
use lib.Pointwise.{pointwise}
use Rattle.rx_base.specs.Texts.{is_among}

among_decides : (names : List (List ℕ)) (name : List ℕ) → Decides (is_among names name) (Contains names name)
among_decides names name =
    Decides-contains names name _ (Decides-by_or (λ w. pointwise eqb w name) (λ w. w ≡ name) (list_any (λ w. pointwise eqb w name)) (λ w. bytes_eq-Decides w name) refl (λ _ _. refl) names)

pub among : (names : List (List ℕ)) (name : List ℕ) → Contains names name → is_among names name ≡ true
among names name h = (among_decides names name).1 h

pub found_among : (names : List (List ℕ)) (name : List ℕ) → is_among names name ≡ true → Contains names name
found_among names name h = (among_decides names name).0 h

pub not_among : (names : List (List ℕ)) (name : List ℕ) → (Contains names name → ⊥) → is_among names name ≡ false
not_among names name h = false_from_ne_true _ (λ t. h (found_among names name t))
