-- What the functions that look for modifiers answer.
use Rattle.std.specs.Prelude.{ℕ, ◌==◌, Option, Some, None, if◌then◌else◌}
use Rattle.rx_base.specs.Ascii as ascii
use Rattle.rx_units.specs.Units.{values}
use Rattle.rx_model.specs.Groups.GroupFronts.{SidesRead, sides}
use Rattle.rx_parser.specs.declared.modifiers.Sides.{Sides}

-- the bit of a letter (RegularExpressionModifier, 22.2.1)
abbrev pub modifier_bit : ℕ → Option ℕ
modifier_bit c = if c == ascii.i then Some 1 else (if c == ascii.m then Some 2 else (if c == ascii.s then Some 4 else None))

-- an answer, as what the definitions read there
abbrev pub seen_sides : {U : Type 0} → Sides U → SidesRead
seen_sides s = sides (values s.enabling) (values s.disabling) s.length
