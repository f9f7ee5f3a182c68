-- The values of the units of a text.
use Rattle.std.specs.Prelude.{ℕ, Bool, ◌||◌, List, [], ◌∷◌, ◌++◌, nat_lt, if◌then◌else◌}
use Rattle.rx_units.specs.Units.{lead_of, trail_of}

-- A character is one unit; but where units are not joined, a character past FFFF is two, a lead and a trail.
abbrev pub character_values : Bool → ℕ → List ℕ
character_values joined c = if joined || nat_lt c 0x10000 then c ∷ [] else lead_of c ∷ trail_of c ∷ []

abbrev pub text_values : Bool → List ℕ → List ℕ
text_values joined [] = []
text_values joined (c ∷ cs) = character_values joined c ++ text_values joined cs
