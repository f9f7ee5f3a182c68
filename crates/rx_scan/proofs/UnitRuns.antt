-- The longest run of units at the front, as a loop over the items that they are stored as counts it.
use Rattle.std.proofs.Common.{◌≡◌, ℕ, ◌+◌, Bool, cond, List, [], ◌∷◌, map, refl, ap, sym, ◌∙◌}
use Rattle.std.specs.List.{prefix_len}
use Rattle.rx_units.specs.declared.code_point.CodePoint.{CodePoint}
use Rattle.rx_units.specs.Stored.{values_of}
use Rattle.rx_units.specs.Units.{values}

prefix_of_values : {Item : Type 0} (value : Item → ℕ) (set : ℕ → Bool) (xs : List Item) → prefix_len (λ x. set (value x)) xs ≡ prefix_len set (map value xs)
prefix_of_values value set [] = refl
prefix_of_values value set (x ∷ xs) = ap (λ n. cond (set (value x)) (1 + n) 0) (prefix_of_values value set xs)

pub run_of_units : {Item : Type 0} (value : Item → ℕ) (set : ℕ → Bool) (us : List CodePoint) (xs : List Item) → values us ≡ values_of value xs
    → prefix_len (λ (u : CodePoint). set u.value) us ≡ prefix_len (λ x. set (value x)) xs
run_of_units value set us xs are = prefix_of_values (λ (u : CodePoint). u.value) set us ∙ ap (prefix_len set) are ∙ sym (prefix_of_values value set xs)
