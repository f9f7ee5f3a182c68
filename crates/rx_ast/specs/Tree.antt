-- The tree of a pattern as plain data: no pointers, all else kept. Every definition on trees recurses on it.
use Rattle.std.specs.Prelude.{ℕ, Bool, Option, List, [], ◌∷◌}
use Rattle.rx_base.specs.declared.span.Span.{Span}
use Rattle.rx_ast.specs.declared.leaf.LookAroundAssertionKind.{LookAroundAssertionKind}
use Rattle.rx_ast.specs.declared.leaf.Modifiers.{Modifiers}
use Rattle.rx_ast.specs.declared.leaf.Dot.{Dot}
use Rattle.rx_ast.specs.declared.leaf.BoundaryAssertion.{BoundaryAssertion}
use Rattle.rx_ast.specs.declared.leaf.Character.{Character}
use Rattle.rx_ast.specs.declared.leaf.CharacterClassEscape.{CharacterClassEscape}
use Rattle.rx_ast.specs.declared.leaf.UnicodePropertyEscape.{UnicodePropertyEscape}
use Rattle.rx_ast.specs.declared.leaf.IndexedReference.{IndexedReference}
use Rattle.rx_ast.specs.declared.leaf.NamedReference.{NamedReference}
use Rattle.rx_ast.specs.declared.term.Term.{Term}
use Rattle.rx_ast.specs.declared.term.Alternative.{Alternative}
use Rattle.rx_ast.specs.declared.term.Disjunction.{Disjunction}
use Rattle.rx_ast.specs.declared.term.Quantifier.{Quantifier}
use Rattle.rx_ast.specs.declared.term.CapturingGroup.{CapturingGroup}
use Rattle.rx_ast.specs.declared.term.IgnoreGroup.{IgnoreGroup}
use Rattle.rx_ast.specs.declared.term.LookAroundAssertion.{LookAroundAssertion}
use Rattle.rx_ast.specs.declared.term.Pattern.{Pattern}
use Rattle.rx_ast.specs.declared.term.Term.TheOpen as layer
use Rattle.rx_ast.specs.declared.term.Term.TheOpen.{Term-F, Alternative-F, CapturingGroup-F, Disjunction-F, IgnoreGroup-F, LookAroundAssertion-F, Quantifier-F}
use Rattle.rx_ast.specs.declared.term.Term.TheFolds.{fold-Term, fold-Alternative, fold-CapturingGroup, fold-Disjunction, fold-IgnoreGroup, fold-LookAroundAssertion, fold-Quantifier}
use Rattle.rx_ast.specs.ClassTree.{Class, mirror_class}

-- a term with no term in it
pub data Leaf : Type 0 where
  boundary : BoundaryAssertion → Leaf
  character : Character → Leaf
  dot : Dot → Leaf
  class_escape : CharacterClassEscape → Leaf
  property : UnicodePropertyEscape → Leaf
  class : Class → Leaf
  indexed : IndexedReference → Leaf
  named : NamedReference → Leaf

-- what a group or a look-around begins with: its name, its modifiers, its kind
pub data Opener : Type 0 where
  capturing : Option (List ℕ) → Opener
  ignoring : Option Modifiers → Opener
  looking : LookAroundAssertionKind → Opener

-- A quantified node has its span, its least and its greatest number and whether it is greedy.
-- A group has its span, and the span of the disjunction in it.
mutual
  pub data Node : Type 0 where
    leaf : Leaf → Node
    quantified : Span → ℕ → Option ℕ → Bool → Node → Node
    group : Span → Opener → Span → Alternatives → Node

  pub data Nodes : Type 0 where
    no_node : Nodes
    node : Node → Nodes → Nodes

  pub data Alternatives : Type 0 where
    no_alternative : Alternatives
    alternative : Span → Nodes → Alternatives → Alternatives

-- an alternative, and a disjunction, with their own spans
abbrev pub SpannedNodes : Type 0
SpannedNodes = Span × Nodes

abbrev pub SpannedAlternatives : Type 0
SpannedAlternatives = Span × Alternatives

abbrev pub nodes : List Node → Nodes
nodes [] = no_node
nodes (n ∷ ns) = node n (nodes ns)

abbrev pub alternatives : List SpannedNodes → Alternatives
alternatives [] = no_alternative
alternatives (a ∷ rest) = alternative a.0 a.1 (alternatives rest)

abbrev pub term_step : Term-F Node SpannedNodes Node SpannedAlternatives Node Node Node → Node
term_step (layer.BoundaryAssertion b) = leaf (boundary b)
term_step (layer.LookAroundAssertion b) = b.value
term_step (layer.Quantifier b) = b.value
term_step (layer.Character b) = leaf (character b)
term_step (layer.Dot d) = leaf (dot d)
term_step (layer.CharacterClassEscape b) = leaf (class_escape b)
term_step (layer.UnicodePropertyEscape b) = leaf (property b.value)
term_step (layer.CharacterClass b) = leaf (class (mirror_class b.value))
term_step (layer.CapturingGroup b) = b.value
term_step (layer.IgnoreGroup b) = b.value
term_step (layer.IndexedReference b) = leaf (indexed b)
term_step (layer.NamedReference b) = leaf (named b.value)

abbrev pub alternative_step : Alternative-F Node SpannedNodes Node SpannedAlternatives Node Node Node → SpannedNodes
alternative_step a = (a.span, nodes a.body)

abbrev pub capturing_step : CapturingGroup-F Node SpannedNodes Node SpannedAlternatives Node Node Node → Node
capturing_step g = group g.span (capturing g.name) g.body.0 g.body.1

abbrev pub disjunction_step : Disjunction-F Node SpannedNodes Node SpannedAlternatives Node Node Node → SpannedAlternatives
disjunction_step d = (d.span, alternatives d.body)

abbrev pub ignore_step : IgnoreGroup-F Node SpannedNodes Node SpannedAlternatives Node Node Node → Node
ignore_step g = group g.span (ignoring g.modifiers) g.body.0 g.body.1

abbrev pub look_step : LookAroundAssertion-F Node SpannedNodes Node SpannedAlternatives Node Node Node → Node
look_step g = group g.span (looking g.kind) g.body.0 g.body.1

abbrev pub quantifier_step : Quantifier-F Node SpannedNodes Node SpannedAlternatives Node Node Node → Node
quantifier_step q = quantified q.span q.min q.max q.greedy q.body

unfoldable pub mirror_term : Term → Node
mirror_term = fold-Term Node SpannedNodes Node SpannedAlternatives Node Node Node term_step alternative_step capturing_step disjunction_step ignore_step look_step quantifier_step

unfoldable pub mirror_alternative : Alternative → SpannedNodes
mirror_alternative = fold-Alternative Node SpannedNodes Node SpannedAlternatives Node Node Node term_step alternative_step capturing_step disjunction_step ignore_step look_step quantifier_step

unfoldable pub mirror_capturing : CapturingGroup → Node
mirror_capturing = fold-CapturingGroup Node SpannedNodes Node SpannedAlternatives Node Node Node term_step alternative_step capturing_step disjunction_step ignore_step look_step quantifier_step

unfoldable pub mirror_disjunction : Disjunction → SpannedAlternatives
mirror_disjunction = fold-Disjunction Node SpannedNodes Node SpannedAlternatives Node Node Node term_step alternative_step capturing_step disjunction_step ignore_step look_step quantifier_step

unfoldable pub mirror_ignore : IgnoreGroup → Node
mirror_ignore = fold-IgnoreGroup Node SpannedNodes Node SpannedAlternatives Node Node Node term_step alternative_step capturing_step disjunction_step ignore_step look_step quantifier_step

unfoldable pub mirror_look : LookAroundAssertion → Node
mirror_look = fold-LookAroundAssertion Node SpannedNodes Node SpannedAlternatives Node Node Node term_step alternative_step capturing_step disjunction_step ignore_step look_step quantifier_step

unfoldable pub mirror_quantifier : Quantifier → Node
mirror_quantifier = fold-Quantifier Node SpannedNodes Node SpannedAlternatives Node Node Node term_step alternative_step capturing_step disjunction_step ignore_step look_step quantifier_step

-- a whole pattern: its span, and its disjunction
abbrev pub Whole : Type 0
Whole = Span × SpannedAlternatives

abbrev pub mirror : Pattern → Whole
mirror p = (p.span, mirror_disjunction p.body)
