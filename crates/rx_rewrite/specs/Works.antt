-- What is still to be rewritten, and what comes out of it.
use Rattle.std.specs.Prelude.{ℕ, ◌+◌, Bool, Option, Some, None, List, [], ◌∷◌, ◌++◌}
use Rattle.rx_base.specs.declared.span.Span.{Span}
use Rattle.rx_ast.specs.Tree as tree
use Rattle.rx_ast.specs.Tree.{Opener, Node, Nodes, Alternatives, SpannedNodes, leaf, quantified, group, no_node, node, no_alternative, alternative}
use Rattle.rx_trace.specs.Groups.{Names}
use Rattle.rx_trace.specs.declared.settings.Settings.{Settings}
use Rattle.rx_rewrite.specs.declared.rewrites.Rewrites.{Rewrites}
use Rattle.rx_rewrite.specs.Rewriting.{node_rewritten, nodes_rewritten, alternatives_rewritten}

-- The settings are those before the rewriting and those after it.
pub data Work : Type 0 where
  alternatives : Settings → Settings → Alternatives → Work
  terms : Settings → Settings → Nodes → Work
  term : Settings → Settings → Node → Work
  -- a group or a look-around whose beginning is rewritten already
  opening : Settings → Settings → Span → Opener → Span → Alternatives → Work
  -- the end of an alternative; the group that it is in stands after these terms
  ending_alternative : Span → List Node → Work
  -- the end of a group or a look-around; the alternative that it is in stands after these alternatives
  ending_group : Span → Opener → Span → List SpannedNodes → Work
  -- the end of what a quantifier repeats
  ending_quantifier : Span → ℕ → Option ℕ → Bool → Work

-- the terms of the innermost alternative that has not ended, and the alternatives before it
pub record Made : Type 0 where
  pub terms : List Node
  pub alternatives : List SpannedNodes

abbrev pub listed : Nodes → List Node
listed no_node = []
listed (node n ns) = n ∷ listed ns

abbrev pub listed_alternatives : Alternatives → List SpannedNodes
listed_alternatives no_alternative = []
listed_alternatives (alternative s ns more) = (s, ns) ∷ listed_alternatives more

abbrev pub with_node : Made → Node → Made
with_node m n = record m { terms = m.terms ++ (n ∷ []) }

-- The last term is changed; where there is no term, nothing comes out.
abbrev pub on_last : (Node → Node) → List Node → (List Node → Option Made) → Option Made
on_last f [] rest = None
on_last f (n ∷ []) rest = rest (f n ∷ [])
on_last f (n ∷ m ∷ ns) rest = on_last f (m ∷ ns) (λ ms. rest (n ∷ ms))

module _ (what : Rewrites) (names : Names) where
  -- what comes out of a piece of work, and then of the rest
  abbrev pub worked : Work → (Made → Option Made) → Made → Option Made
  worked (alternatives old new more) rest m = rest (record m { alternatives = m.alternatives ++ listed_alternatives (alternatives_rewritten what names old new more) })
  worked (terms old new ns) rest m = rest (record m { terms = m.terms ++ listed (nodes_rewritten what names old new ns) })
  worked (term old new n) rest m = rest (with_node m (node_rewritten what names old new n))
  worked (opening old new s o d more) rest m = rest (with_node m (group s o d (alternatives_rewritten what names old new more)))
  worked (ending_alternative s outer) rest m = rest (record { terms = outer; alternatives = m.alternatives ++ ((s, tree.nodes m.terms) ∷ []) })
  worked (ending_group s o d outer) rest m = rest (record { terms = m.terms ++ (group s o d (tree.alternatives m.alternatives) ∷ []); alternatives = outer })
  worked (ending_quantifier s min max greedy) rest m = on_last (quantified s min max greedy) m.terms (λ ns. rest (record m { terms = ns }))

  abbrev pub all_worked : List Work → Made → Option Made
  all_worked [] m = Some m
  all_worked (w ∷ ws) m = worked w (all_worked ws) m

-- the most pieces of work that are made of a tree
abbrev mutual
  pub node_weight : Node → ℕ
  node_weight (leaf l) = 1
  node_weight (quantified s min max greedy n) = 2 + node_weight n
  node_weight (group s o d more) = 3 + each_weight more

  pub nodes_weight : Nodes → ℕ
  nodes_weight no_node = 0
  nodes_weight (node n ns) = 1 + node_weight n + nodes_weight ns

  pub each_weight : Alternatives → ℕ
  each_weight no_alternative = 0
  each_weight (alternative s ns more) = 3 + nodes_weight ns + each_weight more

abbrev pub weight : Work → ℕ
weight (alternatives old new more) = 1 + each_weight more
weight (terms old new ns) = 1 + nodes_weight ns
weight (term old new n) = node_weight n
weight (opening old new s o d more) = 3 + each_weight more
weight (ending_alternative s outer) = 1
weight (ending_group s o d outer) = 1
weight (ending_quantifier s min max greedy) = 1

abbrev pub weights : List Work → ℕ
weights [] = 0
weights (w ∷ ws) = weight w + weights ws
