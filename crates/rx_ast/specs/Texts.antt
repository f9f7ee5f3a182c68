-- The texts of those parts of a pattern that every printer writes alike. Characters, which printers write differently, stand where the printers are defined.
-- Why: docs/DECISIONS.md, 53.
use Rattle.std.specs.Prelude.{ℕ, ◌%◌, Bool, true, false, ◌==◌, ◌&&◌, List, [], ◌∷◌, ◌++◌, Option, Some, None, codes, if◌then◌else◌}
use Rattle.std.specs.Fmt.{decimal}
use Rattle.rx_base.specs.Ascii as ascii
use Rattle.rx_base.specs.Texts.{are_same}
use Rattle.rx_ast.specs.declared.leaf.BoundaryAssertionKind.{BoundaryAssertionKind}
use Rattle.rx_ast.specs.declared.leaf.BoundaryAssertionKind.TheVariants as boundary
use Rattle.rx_ast.specs.declared.leaf.LookAroundAssertionKind.{LookAroundAssertionKind}
use Rattle.rx_ast.specs.declared.leaf.LookAroundAssertionKind.TheVariants as look
use Rattle.rx_ast.specs.declared.leaf.CharacterClassEscapeKind.{CharacterClassEscapeKind}
use Rattle.rx_ast.specs.declared.leaf.CharacterClassEscapeKind.TheVariants.{D, NegativeD, S, NegativeS, W, NegativeW}
use Rattle.rx_ast.specs.declared.leaf.Modifiers.{Modifiers}
use Rattle.rx_ast.specs.declared.class.CharacterClassContentsKind.{CharacterClassContentsKind}
use Rattle.rx_ast.specs.declared.class.CharacterClassContentsKind.TheVariants.{Union, Intersection, Subtraction}
use Rattle.rx_ast.specs.Tree as tree
use Rattle.rx_ast.specs.Tree.{Opener}

-- the assertions that hold nothing (Assertion, 22.2.1), and the buffer boundaries of their proposal
abbrev pub boundary_text : BoundaryAssertionKind → List ℕ
boundary_text boundary.Start = codes "^"
boundary_text boundary.End = codes "$"
boundary_text boundary.Boundary = codes "\\b"
boundary_text boundary.NegativeBoundary = codes "\\B"
boundary_text boundary.StartBuffer = codes "\\A"
boundary_text boundary.EndBuffer = codes "\\z"
boundary_text boundary.EndBufferOptionalNewline = codes "\\Z"

-- what a look-around begins with after its parenthesis
abbrev pub look_sign : LookAroundAssertionKind → List ℕ
look_sign look.Lookahead = codes "?="
look_sign look.NegativeLookahead = codes "?!"
look_sign look.Lookbehind = codes "?<="
look_sign look.NegativeLookbehind = codes "?<!"

abbrev pub look_text : LookAroundAssertionKind → List ℕ
look_text kind = codes "(" ++ look_sign kind

-- the letters of three bits, in the order i, m, s
abbrev pub three_letters : ℕ → List ℕ
three_letters n =
    if n == 0 then []
    else (if n == 1 then codes "i"
    else (if n == 2 then codes "m"
    else (if n == 3 then codes "im"
    else (if n == 4 then codes "s"
    else (if n == 5 then codes "is"
    else (if n == 6 then codes "ms"
    else codes "ims"))))))

unfoldable pub letters : ℕ → List ℕ
letters bits = three_letters (bits % 8)

abbrev pub dash : ℕ → List ℕ
dash bits = if bits % 8 == 0 then [] else codes "-"

abbrev pub modifiers_text : Modifiers → List ℕ
modifiers_text m = letters m.enabling.0 ++ (dash m.disabling.0 ++ letters m.disabling.0)

abbrev pub opener_text : Opener → List ℕ
opener_text (tree.capturing None) = codes "("
opener_text (tree.capturing (Some name)) = codes "(?<" ++ (name ++ codes ">")
opener_text (tree.ignoring None) = codes "(?:"
opener_text (tree.ignoring (Some m)) = codes "(?" ++ (modifiers_text m ++ codes ":")
opener_text (tree.looking kind) = look_text kind

-- the first that fits of `*`, `+`, `?`, `{n}`, `{n,m}`, `{n,}`
abbrev pub counts_text : ℕ → Option ℕ → List ℕ
counts_text min None = if min == 0 then codes "*" else (if min == 1 then codes "+" else codes "{" ++ (decimal min ++ codes ",}"))
counts_text min (Some max) =
    if min == 0 && max == 1 then codes "?"
    else (if min == max then codes "{" ++ (decimal min ++ codes "}")
    else codes "{" ++ (decimal min ++ (codes "," ++ (decimal max ++ codes "}"))))

abbrev pub lazy_text : Bool → List ℕ
lazy_text true = []
lazy_text false = codes "?"

abbrev pub quantifier_text : ℕ → Option ℕ → Bool → List ℕ
quantifier_text min max greedy = counts_text min max ++ lazy_text greedy

abbrev pub indexed_text : ℕ → List ℕ
indexed_text index = codes "\\" ++ decimal index

abbrev pub named_text : List ℕ → List ℕ
named_text name = codes "\\k<" ++ (name ++ codes ">")

abbrev pub class_escape_text : CharacterClassEscapeKind → List ℕ
class_escape_text D = codes "\\d"
class_escape_text NegativeD = codes "\\D"
class_escape_text S = codes "\\s"
class_escape_text NegativeS = codes "\\S"
class_escape_text W = codes "\\w"
class_escape_text NegativeW = codes "\\W"

-- a value of `General_Category` stands alone
abbrev pub property_body : List ℕ → Option (List ℕ) → List ℕ
property_body name None = name
property_body name (Some value) = if are_same name (codes "General_Category") then value else name ++ (ascii.equals ∷ value)

abbrev pub property_opener : Bool → List ℕ
property_opener true = codes "\\P{"
property_opener false = codes "\\p{"

abbrev pub property_text : Bool → List ℕ → Option (List ℕ) → List ℕ
property_text negative name value = property_opener negative ++ (property_body name value ++ codes "}")

abbrev pub class_opener : Bool → List ℕ
class_opener true = codes "[^"
class_opener false = codes "["

-- what stands between the operands
abbrev pub operator_text : CharacterClassContentsKind → List ℕ
operator_text Union = []
operator_text Intersection = codes "&&"
operator_text Subtraction = codes "--"
