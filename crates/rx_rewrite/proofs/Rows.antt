-- Worked rows, by computation of the definitions alone.
use Rattle.std.proofs.Common.{◌≡◌, refl, ℕ, Bool, true, false, Option, Some, None, List, [], ◌∷◌, codes}
use Rattle.rx_ast.specs.declared.leaf.BoundaryAssertionKind.{BoundaryAssertionKind}
use Rattle.rx_ast.specs.declared.leaf.BoundaryAssertionKind.TheVariants.{Start, End}
use Rattle.rx_ast.specs.declared.leaf.CharacterKind.TheVariants.{Symbol}
use Rattle.rx_ast.specs.declared.leaf.LookAroundAssertionKind.TheVariants.{NegativeLookahead, NegativeLookbehind}
use Rattle.rx_ast.specs.declared.leaf.Modifiers.{Modifiers}
use Rattle.rx_ast.specs.Forget.{nowhere}
use Rattle.rx_ast.specs.Tree as tree
use Rattle.rx_ast.specs.Tree.{Node, Nodes, Whole, leaf, group, no_node, node, no_alternative, alternative, capturing, ignoring}
use Rattle.rx_model.specs.declared.mode.Mode.{Mode}
use Rattle.rx_model.specs.declared.mode.Mode.TheVariants.{Legacy, Unicode, Sets}
use Rattle.rx_model.specs.Spelling.CharacterText.{character_text, four_digits}
use Rattle.rx_model.specs.Spelling.ClassText.{class_text}
use Rattle.rx_trace.specs.declared.answer.MatchFlags.{MatchFlags}
use Rattle.rx_rewrite.specs.declared.rewrites.Rewrites.{Rewrites}
use Rattle.rx_rewrite.specs.Rewriting.{any_unit, no_line_terminator, look_for, rewritten}

abbrev all : Rewrites
all = record { named_capture_groups = true; dot_all = true; multiline = true; pattern_modifiers = true }

abbrev modifiers_alone : Rewrites
modifiers_alone = record { named_capture_groups = false; dot_all = false; multiline = false; pattern_modifiers = true }

-- multiline, and dot_all
abbrev under : Bool → Bool → MatchFlags
under m s = record { ignore_case = false; multiline = m; dot_all = s; unicode_mode = false }

abbrev of : Nodes → Whole
of ns = (nowhere, (nowhere, alternative nowhere ns no_alternative))

abbrev dot : Node
dot = leaf (tree.dot (record { span = nowhere }))

abbrev end : BoundaryAssertionKind → Node
end k = leaf (tree.boundary (record { span = nowhere; kind = k }))

abbrev char : ℕ → Node
char c = leaf (tree.character (record { span = nowhere; kind = Symbol; value = c }))

abbrev in_capturing : Option (List ℕ) → Node → Node
in_capturing name n = group nowhere (capturing name) nowhere (alternative nowhere (node n no_node) no_alternative)

abbrev letters : ℕ → ℕ → Option Modifiers
letters on off = Some (record { span = nowhere; enabling = record { 0 = on }; disabling = record { 0 = off } })

abbrev in_ignoring : Option Modifiers → Node → Node
in_ignoring m n = group nowhere (ignoring m) nowhere (alternative nowhere (node n no_node) no_alternative)

abbrev reference : ℕ → Node
reference k = leaf (tree.indexed (record { span = nowhere; index = k }))

abbrev reference_to : List ℕ → Node
reference_to name = leaf (tree.named (record { span = nowhere; name = name }))

-- `(?<y>.)\k<y>2` with `s`: `([^])\1` and a `2`
row_1 : rewritten all (under false true) (of (node (in_capturing (Some (121 ∷ [])) dot) (node (reference_to (121 ∷ [])) (node (char 50) no_node))))
    ≡ of (node (in_capturing None (leaf (tree.class (any_unit nowhere)))) (node (reference 1) (node (char 50) no_node)))
row_1 = refl

-- `^a$` with `m`: `(?<![^\n\r\u2028\u2029])a(?![^\n\r\u2028\u2029])`
row_2 : rewritten all (under true false) (of (node (end Start) (node (char 97) (node (end End) no_node))))
    ≡ of (node (look_for nowhere NegativeLookbehind (no_line_terminator nowhere)) (node (char 97) (node (look_for nowhere NegativeLookahead (no_line_terminator nowhere)) no_node)))
row_2 = refl

-- `(?-s:.)` with `s`: `(?:.)`
row_3 : rewritten all (under false true) (of (node (in_ignoring (letters 0 4) dot) no_node)) ≡ of (node (in_ignoring None dot) no_node)
row_3 = refl

-- `(?ims:.)`: `(?i:[^])`
row_4 : rewritten all (under false false) (of (node (in_ignoring (letters 7 0) dot) no_node)) ≡ of (node (in_ignoring (letters 1 0) (leaf (tree.class (any_unit nowhere)))) no_node)
row_4 = refl

-- `(?<a>x)(?<b>y)\k<b>`: `(x)(y)\2`
row_5 : rewritten all (under false false) (of (node (in_capturing (Some (97 ∷ [])) (char 120)) (node (in_capturing (Some (98 ∷ [])) (char 121)) (node (reference_to (98 ∷ [])) no_node))))
    ≡ of (node (in_capturing None (char 120)) (node (in_capturing None (char 121)) (node (reference 2) no_node)))
row_5 = refl

-- Where modifiers alone are rewritten, what their settings held is written out: `(?-s:.).` with `s` is `(?:[^\n\r\u2028\u2029]).`,
row_6 : rewritten modifiers_alone (under false true) (of (node (in_ignoring (letters 0 4) dot) (node dot no_node)))
    ≡ of (node (in_ignoring None (leaf (tree.class (no_line_terminator nowhere)))) (node dot no_node))
row_6 = refl

-- and `(?-m:^(?m:$))$` with `m` is `(?:(?<![^])(?:$))$`.
row_7 : rewritten modifiers_alone (under true false)
    (of (node (group nowhere (ignoring (letters 0 2)) nowhere (alternative nowhere (node (end Start) (node (in_ignoring (letters 2 0) (end End)) no_node)) no_alternative)) (node (end End) no_node)))
    ≡ of (node (group nowhere (ignoring None) nowhere (alternative nowhere (node (look_for nowhere NegativeLookbehind (any_unit nowhere)) (node (in_ignoring None (end End)) no_node)) no_alternative)) (node (end End) no_node))
row_7 = refl

-- The class of what is no line terminator has one spelling in each mode.
class_row : (mode : Mode) → class_text mode (no_line_terminator nowhere) ≡ codes "[^\\n\\r\\u2028\\u2029]"
unfolding character_text four_digits
class_row Legacy = refl
class_row Unicode = refl
class_row Sets = refl

any_row : (mode : Mode) → class_text mode (any_unit nowhere) ≡ codes "[^]"
any_row mode = refl
