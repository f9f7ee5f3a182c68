-- What is left of units at a place.
use Rattle.std.proofs.Common.{◌≡◌, ◌∙◌, ap, sym, ℕ, ◌+◌, ◌<◌, List, ◌∷◌, length, drop, get_or}
use Rattle.rx_parser.proofs.Common.{CodePoint, values, values_drop}
use Rattle.rx_units.specs.Stored.{values_of}
use Rattle.rx_scan.proofs.MarkSteps.{value_at}

-- a unit and those after it, by the items that they are
pub unit_at : {Item : Type 0} (value : Item → ℕ) (us : List CodePoint) {u : ℕ} (xs : List Item) (i : ℕ) (d : Item) → values us ≡ values_of value xs → i < length xs → u ≡ value (get_or xs i d)
    → values (drop i us) ≡ u ∷ values (drop (i + 1) us)
unit_at value us {u} xs i d e h is = values_drop i us ∙ value_at value xs i d e h is ∙ ap (λ w. u ∷ w) (sym (values_drop (i + 1) us))

-- the units after the first
pub after_first : (us vs : List CodePoint) (c : ℕ) → values us ≡ c ∷ values vs → values vs ≡ values (drop 1 us)
after_first us vs c whole = sym (ap (drop 1) whole) ∙ sym (values_drop 1 us)
