-- How many nodes a tree has. An alternative counts too, since it may be empty.
use Rattle.std.specs.Prelude.{ℕ, ◌+◌, List, [], ◌∷◌, map}
use Rattle.rx_ast.specs.declared.class.CharacterClassContents.{CharacterClassContents}
use Rattle.rx_ast.specs.declared.term.Alternative.{Alternative}
use Rattle.rx_ast.specs.declared.term.Disjunction.{Disjunction}
use Rattle.rx_ast.specs.declared.term.Term.{Term}
use Rattle.rx_ast.specs.ClassTree.{Member, Members, Class, range, escape, property, character, nested, strings, no_member, member, members, class, mirror_contents}
use Rattle.rx_ast.specs.Tree.{Node, Nodes, Alternatives, leaf, quantified, group, no_node, node, nodes, no_alternative, alternative, alternatives, mirror_term, mirror_alternative, mirror_disjunction}

abbrev mutual
  pub node_size : Node → ℕ
  node_size (leaf l) = 1
  node_size (quantified s min max greedy n) = 1 + node_size n
  node_size (group s o d more) = 1 + alternatives_size more

  pub nodes_size : Nodes → ℕ
  nodes_size no_node = 0
  nodes_size (node n ns) = node_size n + nodes_size ns

  pub alternatives_size : Alternatives → ℕ
  alternatives_size no_alternative = 0
  alternatives_size (alternative s ns more) = 1 + nodes_size ns + alternatives_size more

abbrev mutual
  pub member_size : Member → ℕ
  member_size (range r) = 1
  member_size (escape e) = 1
  member_size (property p) = 1
  member_size (character c) = 1
  member_size (nested c) = 1 + class_size c
  member_size (strings d) = 1

  pub members_size : Members → ℕ
  members_size no_member = 0
  members_size (member m ms) = member_size m + members_size ms

  pub class_size : Class → ℕ
  class_size (class s negative may_have_strings kind ms) = members_size ms

-- the same of what the code holds
unfoldable pub term_size : Term → ℕ
term_size t = node_size (mirror_term t)

unfoldable pub terms_size : List Term → ℕ
terms_size ts = nodes_size (nodes (map mirror_term ts))

unfoldable pub all_alternatives_size : List Alternative → ℕ
all_alternatives_size as' = alternatives_size (alternatives (map mirror_alternative as'))

unfoldable pub disjunction_size : Disjunction → ℕ
disjunction_size d = alternatives_size (mirror_disjunction d).1

-- The size of some disjunctions: each counts one more than it holds, for the group that it stands in.
unfoldable pub disjunctions_size : List Disjunction → ℕ
disjunctions_size [] = 0
disjunctions_size (d ∷ ds) = 1 + disjunction_size d + disjunctions_size ds

unfoldable pub contents_size : CharacterClassContents → ℕ
contents_size c = member_size (mirror_contents c)

unfoldable pub all_contents_size : List CharacterClassContents → ℕ
all_contents_size cs = members_size (members (map mirror_contents cs))
