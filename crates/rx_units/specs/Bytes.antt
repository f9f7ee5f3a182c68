-- The units of ASCII text, byte by byte.
use Rattle.std.specs.Prelude.{ℕ, ◌+◌, ◌%◌, ◌^◌, List, [], ◌∷◌}
use Rattle.rx_units.specs.declared.code_point.CodePoint.{CodePoint}
use Rattle.rx_units.specs.declared.code_point.EscapeKind.TheVariants as kind
use Rattle.rx_units.specs.Units.{unit}

-- those of some bytes, of which the first is at a place
abbrev pub byte_units : ℕ → List ℕ → List CodePoint
byte_units at [] = []
byte_units at (b ∷ bs) = unit at ((at + 1) % 2 ^ 32) b kind.None ∷ byte_units (at + 1) bs
