-- The kinds of characters that are one unit.
use Rattle.rx_ast.specs.declared.leaf.CharacterKind.{CharacterKind}
use Rattle.rx_ast.specs.declared.leaf.CharacterKind.TheVariants.{Symbol, UnicodeEscape, HexadecimalEscape}
use Rattle.rx_units.specs.declared.code_point.EscapeKind.{EscapeKind}
use Rattle.rx_units.specs.declared.code_point.EscapeKind.TheVariants as escape

-- the kind of a character that is one unit, by how the unit was written
abbrev pub unit_kind : EscapeKind → CharacterKind
unit_kind escape.None = Symbol
unit_kind escape.Unicode = UnicodeEscape
unit_kind escape.Hexadecimal = HexadecimalEscape
