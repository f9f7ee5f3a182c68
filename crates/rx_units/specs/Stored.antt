-- Units as they are stored.
use Rattle.std.specs.Prelude.{ℕ, ◌+◌, List, [], ◌∷◌, map}
use Rattle.rx_units.specs.declared.code_point.CodePoint.{CodePoint}

-- the units that some items are, of which the first is at a place
abbrev pub units_of : {Item : Type 0} → (ℕ → Item → CodePoint) → ℕ → List Item → List CodePoint
units_of unit place [] = []
units_of unit place (x ∷ xs) = unit place x ∷ units_of unit (place + 1) xs

-- the values of some items
abbrev pub values_of : {Item : Type 0} → (Item → ℕ) → List Item → List ℕ
values_of value xs = map value xs
