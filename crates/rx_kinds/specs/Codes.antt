-- The numbers of kinds.
use Rattle.std.specs.Prelude.{ℕ}
use Rattle.rx_ast.specs.declared.leaf.BoundaryAssertionKind.{BoundaryAssertionKind}
use Rattle.rx_ast.specs.declared.leaf.BoundaryAssertionKind.TheVariants as boundary
use Rattle.rx_ast.specs.declared.leaf.LookAroundAssertionKind.{LookAroundAssertionKind}
use Rattle.rx_ast.specs.declared.leaf.LookAroundAssertionKind.TheVariants as look
use Rattle.rx_ast.specs.declared.leaf.CharacterKind.{CharacterKind}
use Rattle.rx_ast.specs.declared.leaf.CharacterKind.TheVariants as spelled
use Rattle.rx_ast.specs.declared.leaf.CharacterClassEscapeKind.{CharacterClassEscapeKind}
use Rattle.rx_ast.specs.declared.leaf.CharacterClassEscapeKind.TheVariants.{D, NegativeD, S, NegativeS, W, NegativeW}
use Rattle.rx_ast.specs.declared.class.CharacterClassContentsKind.{CharacterClassContentsKind}
use Rattle.rx_ast.specs.declared.class.CharacterClassContentsKind.TheVariants.{Union, Intersection, Subtraction}

-- Each kind has a number of its own, whatever it is a kind of.
abbrev pub boundary_code : BoundaryAssertionKind → ℕ
boundary_code boundary.Start = 1
boundary_code boundary.End = 2
boundary_code boundary.Boundary = 3
boundary_code boundary.NegativeBoundary = 4
boundary_code boundary.StartBuffer = 5
boundary_code boundary.EndBuffer = 6
boundary_code boundary.EndBufferOptionalNewline = 7

abbrev pub look_code : LookAroundAssertionKind → ℕ
look_code look.Lookahead = 8
look_code look.NegativeLookahead = 9
look_code look.Lookbehind = 10
look_code look.NegativeLookbehind = 11

abbrev pub character_code : CharacterKind → ℕ
character_code spelled.ControlLetter = 12
character_code spelled.HexadecimalEscape = 13
character_code spelled.Identifier = 14
character_code spelled.Null = 15
character_code spelled.Octal1 = 16
character_code spelled.Octal2 = 17
character_code spelled.Octal3 = 18
character_code spelled.SingleEscape = 19
character_code spelled.Symbol = 20
character_code spelled.UnicodeEscape = 21

abbrev pub class_escape_code : CharacterClassEscapeKind → ℕ
class_escape_code D = 22
class_escape_code NegativeD = 23
class_escape_code S = 24
class_escape_code NegativeS = 25
class_escape_code W = 26
class_escape_code NegativeW = 27

abbrev pub contents_code : CharacterClassContentsKind → ℕ
contents_code Union = 28
contents_code Intersection = 29
contents_code Subtraction = 30
