-- The nodes of a tree, of any type, as a forest: in each node its `children`, and all of them in their `order`. That they are this is said of their places, by two laws of `laws`.
use Rattle.std.specs.Prelude.{List, [], ◌∷◌}
use Rattle.rx_ast.specs.declared.leaf.Character.{Character}
use Rattle.rx_ast.specs.declared.class.ClassString.{ClassString}
use Rattle.rx_ast.specs.ClassTree as in_class
use Rattle.rx_ast.specs.ClassTree.{Member, Members, Class, no_member, member}
use Rattle.rx_ast.specs.Tree as ast
use Rattle.rx_ast.specs.Tree.{Leaf, Node, Nodes, Alternatives, leaf, quantified, group, no_node, node, no_alternative}
use Rattle.rx_ast.specs.Kinds as kinds
use Rattle.rx_ast.specs.Kinds.{Kind, group_as_kind}
use Rattle.rx_ast.specs.Forest.{Forest, nothing, tree}

-- characters, and strings of a class
abbrev pub characters : List Character → Forest Kind
characters [] = nothing
characters (c ∷ cs) = tree (kinds.character c) nothing (characters cs)

abbrev pub strings : List ClassString → Forest Kind
strings [] = nothing
strings (s ∷ ss) = tree (kinds.class_string s) (characters s.body) (strings ss)

-- the node that contents of a class are; the contents of a class; a class
abbrev mutual
  pub in_contents : Member → Forest Kind
  in_contents (in_class.range r) = tree (kinds.class_range r) (tree (kinds.character r.min) nothing (tree (kinds.character r.max) nothing nothing)) nothing
  in_contents (in_class.escape e) = tree (kinds.class_escape e) nothing nothing
  in_contents (in_class.property p) = tree (kinds.property_escape p) nothing nothing
  in_contents (in_class.character c) = tree (kinds.character c) nothing nothing
  in_contents (in_class.nested c) = class c
  in_contents (in_class.strings d) = tree (kinds.string_disjunction d) (strings d.body) nothing

  pub contents : Members → Forest Kind
  contents no_member = nothing
  contents (member m ms) = tree (kinds.class_contents m) (in_contents m) (contents ms)

  pub class : Class → Forest Kind
  class (in_class.class s negative may_have_strings kind ms) = tree (kinds.class (in_class.class s negative may_have_strings kind ms)) (contents ms) nothing

-- a term that holds no other
abbrev pub in_leaf : Leaf → Forest Kind
in_leaf (ast.boundary b) = tree (kinds.boundary_assertion b) nothing nothing
in_leaf (ast.character c) = tree (kinds.character c) nothing nothing
in_leaf (ast.dot d) = tree (kinds.dot d) nothing nothing
in_leaf (ast.class_escape e) = tree (kinds.class_escape e) nothing nothing
in_leaf (ast.property p) = tree (kinds.property_escape p) nothing nothing
in_leaf (ast.class c) = class c
in_leaf (ast.indexed r) = tree (kinds.indexed_reference r) nothing nothing
in_leaf (ast.named r) = tree (kinds.named_reference r) nothing nothing

-- the node that a term is; terms; alternatives
abbrev mutual
  pub in_term : Node → Forest Kind
  in_term (leaf l) = in_leaf l
  in_term (quantified s min max greedy n) = tree (kinds.quantifier s min max greedy n) (tree (kinds.term n) (in_term n) nothing) nothing
  in_term (group s o d more) = tree (group_as_kind s o (d, more)) (tree (kinds.disjunction (d, more)) (alternatives more) nothing) nothing

  pub terms : Nodes → Forest Kind
  terms no_node = nothing
  terms (node n ns) = tree (kinds.term n) (in_term n) (terms ns)

  pub alternatives : Alternatives → Forest Kind
  alternatives no_alternative = nothing
  alternatives (ast.alternative s ns more) = tree (kinds.alternative (s, ns)) (terms ns) (alternatives more)

-- what stands in a node
unfoldable pub inside : Kind → Forest Kind
inside (kinds.pattern p) = tree (kinds.disjunction p.1) (alternatives p.1.1) nothing
inside (kinds.disjunction d) = alternatives d.1
inside (kinds.alternative a) = terms a.1
inside (kinds.term n) = in_term n
inside (kinds.look_around s kind d) = tree (kinds.disjunction d) (alternatives d.1) nothing
inside (kinds.quantifier s min max greedy n) = tree (kinds.term n) (in_term n) nothing
inside (kinds.capturing_group s name d) = tree (kinds.disjunction d) (alternatives d.1) nothing
inside (kinds.ignore_group s modifiers d) = tree (kinds.disjunction d) (alternatives d.1) nothing
inside (kinds.boundary_assertion b) = nothing
inside (kinds.character c) = nothing
inside (kinds.dot d) = nothing
inside (kinds.class_escape e) = nothing
inside (kinds.property_escape p) = nothing
inside (kinds.class (in_class.class s negative may_have_strings kind ms)) = contents ms
inside (kinds.class_contents m) = in_contents m
inside (kinds.class_range r) = tree (kinds.character r.min) nothing (tree (kinds.character r.max) nothing nothing)
inside (kinds.string_disjunction d) = strings d.body
inside (kinds.class_string s) = characters s.body
inside (kinds.indexed_reference r) = nothing
inside (kinds.named_reference r) = nothing

-- a node with what stands in it, one after another
abbrev pub trees : List Kind → Forest Kind
trees [] = nothing
trees (k ∷ ks) = tree k (inside k) (trees ks)
