-- The tokens of a pattern in the order of its text. They have no spans.
use Rattle.std.specs.Prelude.{ℕ, ◌%◌, Bool, Option, Some, None, List}
use Rattle.rx_ast.specs.declared.leaf.BoundaryAssertionKind.{BoundaryAssertionKind}
use Rattle.rx_ast.specs.declared.leaf.LookAroundAssertionKind.{LookAroundAssertionKind}
use Rattle.rx_ast.specs.declared.leaf.CharacterClassEscapeKind.{CharacterClassEscapeKind}
use Rattle.rx_ast.specs.declared.leaf.CharacterKind.{CharacterKind}
use Rattle.rx_ast.specs.declared.leaf.Modifiers.{Modifiers}
use Rattle.rx_ast.specs.ClassTree.{Class}
use Rattle.rx_ast.specs.Forget.{forget_class, same_kind}
use Rattle.rx_ast.specs.Tree as tree

-- What a group begins with: `(` or `(?<`, a name and `>`; `(?:`, or `(?`, letters and `:`; a look-around's.
pub data Opener : Type 0 where
  capturing : Option (List ℕ) → Opener
  ignoring : Option (ℕ × ℕ) → Opener
  looking : LookAroundAssertionKind → Opener

-- A quantifier stands right after the last token of its body. A class is one token, and has no spans.
pub data Token : Type 0 where
  boundary : BoundaryAssertionKind → Token
  character : CharacterKind → ℕ → Token
  dot : Token
  class_escape : CharacterClassEscapeKind → Token
  -- negative, of strings, name, value
  property : Bool → Bool → List ℕ → Option (List ℕ) → Token
  class : Class → Token
  indexed : ℕ → Token
  named : List ℕ → Token
  opener : Opener → Token
  closer : Token
  bar : Token
  -- least, greatest, greedy
  quantifier : ℕ → Option ℕ → Bool → Token

-- the three bits that count of the enabling and of the disabling letters
abbrev pub letter_bits : Modifiers → ℕ × ℕ
letter_bits m = (m.enabling.0 % 8, m.disabling.0 % 8)

abbrev pub bits : Option Modifiers → Option (ℕ × ℕ)
bits None = None
bits (Some m) = Some (letter_bits m)

abbrev pub opener_of : tree.Opener → Opener
opener_of (tree.capturing name) = capturing name
opener_of (tree.ignoring modifiers) = ignoring (bits modifiers)
opener_of (tree.looking kind) = looking kind

abbrev pub leaf_token : tree.Leaf → Token
leaf_token (tree.boundary b) = boundary b.kind
leaf_token (tree.character c) = character c.kind c.value
leaf_token (tree.dot d) = dot
leaf_token (tree.class_escape e) = class_escape e.kind
leaf_token (tree.property p) = property p.negative p.strings p.name p.value
leaf_token (tree.class c) = class (forget_class same_kind c)
leaf_token (tree.indexed r) = indexed r.index
leaf_token (tree.named r) = named r.name
