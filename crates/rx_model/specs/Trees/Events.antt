-- A tree, flattened in the order of its text: its tokens, and between them where each node begins and ends.
use Rattle.std.specs.Prelude.{ℕ, List, [], ◌∷◌, ◌++◌, Some, None}
use Rattle.rx_base.specs.declared.span.Span.{Span}
use Rattle.rx_ast.specs.declared.leaf.Modifiers.{Modifiers}
use Rattle.rx_ast.specs.declared.term.Alternative.{Alternative}
use Rattle.rx_ast.specs.declared.term.Disjunction.{Disjunction}
use Rattle.rx_ast.specs.declared.term.Pattern.{Pattern}
use Rattle.rx_ast.specs.declared.term.Term.{Term}
use Rattle.rx_ast.specs.ClassTree.{Class}
use Rattle.rx_ast.specs.Forget.{forget_class, same_kind}
use Rattle.rx_ast.specs.Spans.{leaf_span}
use Rattle.rx_ast.specs.Tree as tree
use Rattle.rx_ast.specs.Tree.{Leaf, Node, Nodes, Alternatives, leaf, quantified, group, no_node, node, no_alternative, alternative, mirror_term, mirror_alternative, mirror_disjunction}
use Rattle.rx_model.specs.Trees.Token.{Token, opener, closer, bar, quantifier, ignoring, opener_of, leaf_token, letter_bits}
use Rattle.rx_model.specs.Trees.Token as kind

-- A node begins or ends at a byte; a token stands here; a whole class with the spans in it; the opener `(?`, modifiers, `:`.
pub data Event : Type 0 where
  enter : ℕ → Event
  leave : ℕ → Event
  token : Token → Event
  -- Why: docs/DECISIONS.md, 4.
  inside : Class → Event
  modified : Modifiers → Event

abbrev pub Events : Type 0
Events = List Event

abbrev pub tokens_of : Events → List Token
tokens_of [] = []
tokens_of ((enter n) ∷ es) = tokens_of es
tokens_of ((leave n) ∷ es) = tokens_of es
tokens_of ((token t) ∷ es) = t ∷ tokens_of es
tokens_of ((inside c) ∷ es) = kind.class (forget_class same_kind c) ∷ tokens_of es
tokens_of ((modified m) ∷ es) = opener (ignoring (Some (letter_bits m))) ∷ tokens_of es

-- a node with this span, and what is in it
abbrev pub within : Span → Events → Events
within s es = enter s.start ∷ (es ++ (leave s.end ∷ []))

abbrev pub leaf_event : Leaf → Event
leaf_event (tree.class c) = inside c
leaf_event (tree.boundary b) = token (leaf_token (tree.boundary b))
leaf_event (tree.character c) = token (leaf_token (tree.character c))
leaf_event (tree.dot d) = token (leaf_token (tree.dot d))
leaf_event (tree.class_escape e) = token (leaf_token (tree.class_escape e))
leaf_event (tree.property p) = token (leaf_token (tree.property p))
leaf_event (tree.indexed r) = token (leaf_token (tree.indexed r))
leaf_event (tree.named r) = token (leaf_token (tree.named r))

abbrev pub opener_event : tree.Opener → Event
opener_event (tree.ignoring (Some m)) = modified m
opener_event (tree.ignoring None) = token (opener (opener_of (tree.ignoring None)))
opener_event (tree.capturing name) = token (opener (opener_of (tree.capturing name)))
opener_event (tree.looking look) = token (opener (opener_of (tree.looking look)))

abbrev mutual
  pub node_events : Node → Events
  node_events (leaf l) = within (leaf_span l) (leaf_event l ∷ [])
  node_events (quantified s min max greedy n) = within s (node_events n ++ (token (quantifier min max greedy) ∷ []))
  node_events (group s o d more) = within s (opener_event o ∷ (within d (alternatives_events more) ++ (token closer ∷ [])))

  pub nodes_events : Nodes → Events
  nodes_events no_node = []
  nodes_events (node n ns) = node_events n ++ nodes_events ns

  pub alternatives_events : Alternatives → Events
  alternatives_events no_alternative = []
  alternatives_events (alternative s ns more) = within s (nodes_events ns) ++ barred_events more

  -- each after a bar
  pub barred_events : Alternatives → Events
  barred_events no_alternative = []
  barred_events (alternative s ns more) = token bar ∷ (within s (nodes_events ns) ++ barred_events more)

unfoldable pub term_events : Term → Events
term_events t = node_events (mirror_term t)

unfoldable pub alternative_events : Alternative → Events
alternative_events a = let it = mirror_alternative a in within it.0 (nodes_events it.1)

unfoldable pub disjunction_events : Disjunction → Events
disjunction_events d = let it = mirror_disjunction d in within it.0 (alternatives_events it.1)

abbrev pub events : Pattern → Events
events p = within p.span (disjunction_events p.body)

abbrev pub tokens : Pattern → List Token
tokens p = tokens_of (events p)
