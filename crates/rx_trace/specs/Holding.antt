-- Which units a term holds, and where a boundary holds.
use Rattle.std.specs.Prelude.{ℕ, zero, suc, ◌+◌, Bool, true, false, not, ◌==◌, ◌&&◌, ◌||◌, Option, Some, None, List, length, slice_get}
use Rattle.rx_base.specs.Ascii as ascii
use Rattle.rx_base.specs.Characters.{is_within}
use Rattle.rx_ast.specs.declared.leaf.BoundaryAssertionKind.{BoundaryAssertionKind}
use Rattle.rx_ast.specs.declared.leaf.BoundaryAssertionKind.TheVariants as at
use Rattle.rx_ast.specs.declared.leaf.CharacterClassEscapeKind.{CharacterClassEscapeKind}
use Rattle.rx_ast.specs.declared.leaf.CharacterClassEscapeKind.TheVariants as escape
use Rattle.rx_ast.specs.declared.class.CharacterClassContentsKind.TheVariants as made
use Rattle.rx_ast.specs.ClassTree.{Member, Members, Class, no_member, member}
use Rattle.rx_ast.specs.ClassTree as in_class

-- LineTerminator (12.3)
abbrev pub is_line_terminator : ℕ → Bool
is_line_terminator c = c == ascii.line_feed || c == ascii.carriage_return || c == 0x2028 || c == 0x2029

abbrev pub is_digit : ℕ → Bool
is_digit c = is_within ascii.zero ascii.nine c

-- WordCharacters (22.2.2.9.3)
abbrev pub is_word : ℕ → Bool
is_word c = is_within ascii.A ascii.Z c || is_within ascii.a ascii.z c || is_within ascii.zero ascii.nine c || c == ascii.underscore

-- WhiteSpace and LineTerminator (12.2, 12.3)
abbrev pub is_space : ℕ → Bool
is_space c = is_within ascii.tab ascii.carriage_return c || c == 32 || c == 0xA0 || c == 0x1680 || is_within 0x2000 0x200A c || c == 0x2028 || c == 0x2029 || c == 0x202F || c == 0x205F || c == 0x3000 || c == 0xFEFF

-- CompileToCharSet (22.2.2.9) of a CharacterClassEscape
abbrev pub escape_holds : CharacterClassEscapeKind → ℕ → Bool
escape_holds escape.D c = is_digit c
escape_holds escape.NegativeD c = not (is_digit c)
escape_holds escape.S c = is_space c
escape_holds escape.NegativeS c = not (is_space c)
escape_holds escape.W c = is_word c
escape_holds escape.NegativeW c = not (is_word c)

-- a negative class holds what its items do not
abbrev pub negate_if : Bool → Bool → Bool
negate_if true holds = not holds
negate_if false holds = holds

abbrev mutual
  -- CompileToCharSet (22.2.2.9) of what stands in a class. Property escapes and strings were refused before (Supported.antt).
  pub member_holds : Member → ℕ → Bool
  member_holds (in_class.range r) c = is_within r.min.value r.max.value c
  member_holds (in_class.escape e) c = escape_holds e.kind c
  member_holds (in_class.property p) c = false
  member_holds (in_class.character it) c = c == it.value
  member_holds (in_class.nested k) c = class_holds k c
  member_holds (in_class.strings d) c = false

  pub any_holds : Members → ℕ → Bool
  any_holds no_member c = false
  any_holds (member m ms) c = member_holds m c || any_holds ms c

  pub all_hold : Members → ℕ → Bool
  all_hold no_member c = true
  all_hold (member m ms) c = member_holds m c && all_hold ms c

  pub first_holds : Members → ℕ → Bool
  first_holds no_member c = false
  first_holds (member m ms) c = member_holds m c && not (any_holds ms c)

  -- CompileCharacterClass (22.2.2.8)
  pub class_holds : Class → ℕ → Bool
  class_holds (in_class.class s negative strings made.Union ms) c = negate_if negative (any_holds ms c)
  class_holds (in_class.class s negative strings made.Intersection ms) c = negate_if negative (all_hold ms c)
  class_holds (in_class.class s negative strings made.Subtraction ms) c = negate_if negative (first_holds ms c)

-- what a test says of a unit, if there is one
abbrev pub holds_at : (ℕ → Bool) → Option ℕ → Bool
holds_at holds None = false
holds_at holds (Some c) = holds c

-- the unit at a place
abbrev pub ahead : List ℕ → ℕ → Option ℕ
ahead input p = slice_get input p

-- the unit before a place
abbrev pub unit_before : List ℕ → ℕ → Option ℕ
unit_before input zero = None
unit_before input (suc p) = slice_get input p

-- At place 0 no unit stands before, and at the end none at the place.
abbrev pub is_nothing : Option ℕ → Bool
is_nothing None = true
is_nothing (Some c) = false

abbrev pub differ : Bool → Bool → Bool
differ a b = (a && not b) || (not a && b)

-- IsWordChar (22.2.2.4.1) on both sides
abbrev pub is_word_end : List ℕ → ℕ → Bool
is_word_end input p = differ (holds_at is_word (unit_before input p)) (holds_at is_word (ahead input p))

-- whether the rest of the input is one line terminator, or CR LF, or nothing
abbrev pub is_last_line : List ℕ → ℕ → Bool
is_last_line input p = is_nothing (ahead input p)
    || ((p + 1 == length input) && holds_at is_line_terminator (ahead input p))
    || ((p + 2 == length input) && holds_at (λ c. c == ascii.carriage_return) (ahead input p) && holds_at (λ c. c == ascii.line_feed) (ahead input (p + 1)))

-- CompileAssertion (22.2.2.4), and the proposal on buffer boundaries
abbrev pub boundary_holds : Bool → List ℕ → BoundaryAssertionKind → ℕ → Bool
boundary_holds multiline input at.Start p = is_nothing (unit_before input p) || (multiline && holds_at is_line_terminator (unit_before input p))
boundary_holds multiline input at.End p = is_nothing (ahead input p) || (multiline && holds_at is_line_terminator (ahead input p))
boundary_holds multiline input at.Boundary p = is_word_end input p
boundary_holds multiline input at.NegativeBoundary p = not (is_word_end input p)
boundary_holds multiline input at.StartBuffer p = is_nothing (unit_before input p)
boundary_holds multiline input at.EndBuffer p = is_nothing (ahead input p)
boundary_holds multiline input at.EndBufferOptionalNewline p = is_last_line input p
