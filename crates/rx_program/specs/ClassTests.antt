-- What the classes of a tree hold, from the last class to the first: those of a part come before those of what stands before it.
use Rattle.std.specs.Prelude.{ℕ, Bool, List, ◌∷◌, map}
use Rattle.rx_ast.specs.Tree as tree
use Rattle.rx_ast.specs.Tree.{Leaf, Node, Nodes, Alternatives, leaf, quantified, group, no_node, node, no_alternative, alternative}
use Rattle.rx_program.specs.declared.checks.ClassRow.{ClassRow}
use Rattle.rx_program.specs.Checks.{row_holds}
use Rattle.rx_trace.specs.Holding.{class_holds}

abbrev pub Tests : Type 0
Tests = List (ℕ → Bool)

-- what rows hold
abbrev pub row_tests : List ClassRow → Tests
row_tests rows = map row_holds rows

abbrev pub leaf_tests : Leaf → Tests → Tests
leaf_tests (tree.boundary b) before = before
leaf_tests (tree.character c) before = before
leaf_tests (tree.dot d) before = before
leaf_tests (tree.class_escape e) before = before
leaf_tests (tree.property p) before = before
leaf_tests (tree.class k) before = class_holds k ∷ before
leaf_tests (tree.indexed r) before = before
leaf_tests (tree.named r) before = before

abbrev mutual
  pub node_tests : Node → Tests → Tests
  node_tests (leaf l) before = leaf_tests l before
  node_tests (quantified s min max greedy n) before = node_tests n before
  node_tests (group s o d more) before = each_tests more before

  pub nodes_tests : Nodes → Tests → Tests
  nodes_tests no_node before = before
  nodes_tests (node n ns) before = nodes_tests ns (node_tests n before)

  pub each_tests : Alternatives → Tests → Tests
  each_tests no_alternative before = before
  each_tests (alternative s ns more) before = each_tests more (nodes_tests ns before)
