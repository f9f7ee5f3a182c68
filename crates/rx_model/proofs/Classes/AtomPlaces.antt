-- Where an atom of a class may stand, so much of the text is left as its place says.
use Rattle.std.proofs.Common.{◌≡◌, ℕ, ◌+◌, List, ◌∷◌, length, arith, inl, inr}
use Rattle.std.proofs.lemmas.List.{length-append}
use Rattle.rx_units.specs.declared.code_point.CodePoint.{CodePoint}
use Rattle.rx_model.specs.Refusals.ClassPlaces.{IsAtomPlace, IsSecondPlace}
use Rattle.rx_model.specs.Inputs.Environment.{Environment}

second_counted : (e : Environment) (from : ℕ) (at_class : List CodePoint) (place : ℕ) (rest : List CodePoint) → IsSecondPlace e from at_class place rest → from + length at_class ≡ place + length rest
second_counted e from at_class place rest s =
    omega (arith, s.item_place.place_is, s.place_is, length-append s.w (s.hyphen ∷ rest))

pub place_counted : (e : Environment) (from : ℕ) (at_class : List CodePoint) (place : ℕ) (rest : List CodePoint) → IsAtomPlace e from at_class place rest → from + length at_class ≡ place + length rest
place_counted e from at_class place rest (inl s) = s.item_place.place_is
place_counted e from at_class place rest (inr (inl s)) = second_counted e from at_class place rest s
place_counted e from at_class place rest (inr (inr s)) = s.1.place_is
