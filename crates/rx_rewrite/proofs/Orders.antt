-- The groups of a tree, by the order of its nodes.
use Rattle.std.proofs.Common.{◌≡◌, refl, ap, ap₂, sym, ◌∙◌, ◌+◌, List, [], ◌∷◌, ◌++◌, append_assoc, map, arith}
use Rattle.rx_ast.specs.declared.class.ClassString.{ClassString}
use Rattle.rx_ast.specs.declared.leaf.Character.{Character}
use Rattle.rx_ast.specs.ClassTree as in_class
use Rattle.rx_ast.specs.ClassTree.{Member, Members, Class, no_member, member}
use Rattle.rx_ast.specs.Kinds.{Kind, pattern, character, strings_order, member_order, members_order, class_order, node_order, nodes_order, alternatives_order, order}
use Rattle.rx_ast.specs.Tree as tree
use Rattle.rx_ast.specs.Tree.{Node, Nodes, Alternatives, Whole, leaf, quantified, group, no_node, node, no_alternative, alternative}
use Rattle.rx_model.specs.Trees.Names.{node_groups, nodes_groups, alternatives_groups}
use Rattle.rx_trace.specs.Groups.{groups_in, groups_in_all, groups_in_each, names_in, names_in_all, names_in_each}
use Rattle.rx_rewrite.specs.NamedGroups.{group_names, group_name}

pub names-append : (ks js : List Kind) → group_names (ks ++ js) ≡ group_names ks ++ group_names js
names-append [] js = refl
names-append (k ∷ ks) js = ap (λ ns. group_name k ++ ns) (names-append ks js) ∙ sym (append_assoc (group_name k) (group_names ks) (group_names js))

both_none : (ks js : List Kind) → group_names ks ≡ [] → group_names js ≡ [] → group_names (ks ++ js) ≡ []
both_none ks js a b = names-append ks js ∙ ap (λ ns. ns ++ group_names js) a ∙ b

characters_none : (cs : List Character) → group_names (map character cs) ≡ []
characters_none [] = refl
characters_none (c ∷ cs) = characters_none cs

strings_none : (ss : List ClassString) → group_names (strings_order ss) ≡ []
strings_none [] = refl
strings_none (s ∷ ss) = both_none (map character s.body) (strings_order ss) (characters_none s.body) (strings_none ss)

mutual
  member_none : (m : Member) → group_names (member_order m) ≡ []
  member_none (in_class.range r) = refl
  member_none (in_class.escape e) = refl
  member_none (in_class.property p) = refl
  member_none (in_class.character c) = refl
  member_none (in_class.nested c) = class_none c
  member_none (in_class.strings d) = strings_none d.body

  members_none : (ms : Members) → group_names (members_order ms) ≡ []
  members_none no_member = refl
  members_none (member m ms) = both_none (member_order m) (members_order ms) (member_none m) (members_none ms)

  class_none : (c : Class) → group_names (class_order c) ≡ []
  class_none (in_class.class s negative may_have_strings kind ms) = members_none ms

mutual
  of_node : (n : Node) → group_names (node_order n) ≡ names_in n
  of_node (leaf (tree.boundary b)) = refl
  of_node (leaf (tree.character c)) = refl
  of_node (leaf (tree.dot d)) = refl
  of_node (leaf (tree.class_escape e)) = refl
  of_node (leaf (tree.property p)) = refl
  of_node (leaf (tree.class c)) = class_none c
  of_node (leaf (tree.indexed r)) = refl
  of_node (leaf (tree.named r)) = refl
  of_node (quantified s min max greedy n) = of_node n
  of_node (group s (tree.capturing name) d more) = ap (λ ns. name ∷ ns) (of_each more)
  of_node (group s (tree.ignoring m) d more) = of_each more
  of_node (group s (tree.looking kind) d more) = of_each more

  of_nodes : (ns : Nodes) → group_names (nodes_order ns) ≡ names_in_all ns
  of_nodes no_node = refl
  of_nodes (node n ns) = names-append (node_order n) (nodes_order ns) ∙ ap (λ ks. ks ++ group_names (nodes_order ns)) (of_node n) ∙ ap (λ ks. names_in n ++ ks) (of_nodes ns)

  of_each : (more : Alternatives) → group_names (alternatives_order more) ≡ names_in_each more
  of_each no_alternative = refl
  of_each (alternative s ns more) =
      names-append (nodes_order ns) (alternatives_order more) ∙ ap (λ ks. ks ++ group_names (alternatives_order more)) (of_nodes ns) ∙ ap (λ ks. names_in_all ns ++ ks) (of_each more)

-- The names of the groups among the nodes are those of the tree.
pub names_of_order : (p : Whole) → group_names (order (pattern p)) ≡ names_in_each p.1.1
unfolding order
names_of_order p = of_each p.1.1

-- The number of groups is counted in one way only.
mutual
  count-node : (n : Node) → node_groups n ≡ groups_in n
  count-node (leaf l) = refl
  count-node (quantified s min max greedy n) = count-node n
  count-node (group s (tree.capturing name) d more) = ap (λ k. 1 + k) (count-each more)
  count-node (group s (tree.ignoring m) d more) = let e = count-each more in omega arith
  count-node (group s (tree.looking kind) d more) = let e = count-each more in omega arith

  count-all : (ns : Nodes) → nodes_groups ns ≡ groups_in_all ns
  count-all no_node = refl
  count-all (node n ns) = ap₂ (λ a b. a + b) (count-node n) (count-all ns)

  pub count-each : (more : Alternatives) → alternatives_groups more ≡ groups_in_each more
  count-each no_alternative = refl
  count-each (alternative s ns more) = ap₂ (λ a b. a + b) (count-all ns) (count-each more)
