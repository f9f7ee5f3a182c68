-- The groups of a tree and their names.
use Rattle.std.specs.Prelude.{ℕ, ◌+◌, Some, None, List, [], ◌∷◌, ◌++◌, Contains, Bool, true, false, if◌then◌else◌}
use Rattle.rx_base.specs.Texts.{is_among}
use Rattle.rx_ast.specs.declared.term.Pattern.{Pattern}
use Rattle.rx_ast.specs.Tree as tree
use Rattle.rx_ast.specs.Tree.{Opener, Node, Nodes, Alternatives, leaf, quantified, group, no_node, node, no_alternative, alternative, mirror_disjunction}

-- the groups that an opener adds, and the names
abbrev pub opener_groups : Opener → ℕ
opener_groups (tree.capturing name) = 1
opener_groups (tree.ignoring modifiers) = 0
opener_groups (tree.looking kind) = 0

abbrev pub opener_names : Opener → List (List ℕ)
opener_names (tree.capturing None) = []
opener_names (tree.capturing (Some name)) = name ∷ []
opener_names (tree.ignoring modifiers) = []
opener_names (tree.looking kind) = []

-- CountLeftCapturingParensWithin (22.2.1.2) of a tree
abbrev mutual
  pub node_groups : Node → ℕ
  node_groups (leaf l) = 0
  node_groups (quantified s min max greedy n) = node_groups n
  node_groups (group s o d more) = opener_groups o + alternatives_groups more

  pub nodes_groups : Nodes → ℕ
  nodes_groups no_node = 0
  nodes_groups (node n ns) = node_groups n + nodes_groups ns

  pub alternatives_groups : Alternatives → ℕ
  alternatives_groups no_alternative = 0
  alternatives_groups (alternative s ns more) = nodes_groups ns + alternatives_groups more

-- the names of the groups in the order in which they begin, one for each group that has one
abbrev mutual
  pub node_names : Node → List (List ℕ)
  node_names (leaf l) = []
  node_names (quantified s min max greedy n) = node_names n
  node_names (group s o d more) = opener_names o ++ alternatives_names more

  pub nodes_names : Nodes → List (List ℕ)
  nodes_names no_node = []
  nodes_names (node n ns) = node_names n ++ nodes_names ns

  pub alternatives_names : Alternatives → List (List ℕ)
  alternatives_names no_alternative = []
  alternatives_names (alternative s ns more) = nodes_names ns ++ alternatives_names more

-- each once, where it comes first; `seen` came before
abbrev pub once_after : List (List ℕ) → List (List ℕ) → List (List ℕ)
once_after seen [] = []
once_after seen (name ∷ names) =
    if is_among seen name then once_after seen names else name ∷ once_after (name ∷ seen) names

abbrev pub groups : Pattern → ℕ
groups p = alternatives_groups (mirror_disjunction p.body).1

-- the names in order of first opening, each once
abbrev pub names : Pattern → List (List ℕ)
names p = once_after [] (alternatives_names (mirror_disjunction p.body).1)

-- no name is among both
abbrev pub AreApart : List (List ℕ) → List (List ℕ) → Type 0
AreApart some others = (name : List ℕ) → Contains some name → Contains others name → ⊥

-- Two groups of one name never both take part (22.2.1.1, 22.2.1.4 MightBothParticipate): in each alternative the names held by
-- its terms are apart, and no group's name occurs in the group.
abbrev mutual
  pub IsNodeApart : Node → Type 0
  IsNodeApart (leaf l) = Unit {0}
  IsNodeApart (quantified s min max greedy n) = IsNodeApart n
  IsNodeApart (group s o d more) = AreApart (opener_names o) (alternatives_names more) × AreAlternativesApart more

  pub AreNodesApart : Nodes → Type 0
  AreNodesApart no_node = Unit {0}
  AreNodesApart (node n ns) = AreApart (node_names n) (nodes_names ns) × IsNodeApart n × AreNodesApart ns

  pub AreAlternativesApart : Alternatives → Type 0
  AreAlternativesApart no_alternative = Unit {0}
  AreAlternativesApart (alternative s ns more) = AreNodesApart ns × AreAlternativesApart more

-- no name is there twice
abbrev pub AreDistinct : List (List ℕ) → Type 0
AreDistinct [] = Unit {0}
AreDistinct (name ∷ names) = (Contains names name → ⊥) × AreDistinct names

-- The early rule on the names of a tree's groups: where two groups may have one name, no two of one name ever both take part; else all names differ.
abbrev pub AreNamesEarly : Bool → Alternatives → Type 0
AreNamesEarly true all = AreAlternativesApart all
AreNamesEarly false all = AreDistinct (alternatives_names all)
