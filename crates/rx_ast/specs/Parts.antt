-- The nodes of a tree as a forest: terms and contents of classes count as the nodes in them, and modifiers as a node before the body of their group.
use Rattle.std.specs.Prelude.{Option, Some, None, List, [], ◌∷◌}
use Rattle.rx_base.specs.declared.span.Span.{Span}
use Rattle.rx_ast.specs.declared.leaf.Modifiers.{Modifiers}
use Rattle.rx_ast.specs.declared.leaf.Character.{Character}
use Rattle.rx_ast.specs.declared.class.ClassString.{ClassString}
use Rattle.rx_ast.specs.ClassTree as in_class
use Rattle.rx_ast.specs.ClassTree.{Member, Members, Class, no_member, member}
use Rattle.rx_ast.specs.Tree as ast
use Rattle.rx_ast.specs.Tree.{Leaf, Opener, Node, Nodes, Alternatives, SpannedAlternatives, Whole, leaf, quantified, group, no_node, node, no_alternative}
use Rattle.rx_ast.specs.Kinds as kinds
use Rattle.rx_ast.specs.Kinds.{Kind, kind_span}
use Rattle.rx_ast.specs.Forest.{Forest, nothing, tree, IsNested}

-- what a node of the forest is: a node of the tree, which is no term and no contents of a class, or modifiers
pub data Part : Type 0 where
  node_part : Kind → Part
  modifiers_part : Modifiers → Part

-- the span of a part
abbrev pub part_span : Part → Span
part_span (node_part k) = kind_span k
part_span (modifiers_part m) = m.span

-- In all of these `label` gives each part its label, and `after` is the forest that stands after it.
-- a character
abbrev pub character_forest : {L : Type 0} → (Part → L) → Character → Forest L → Forest L
character_forest label c after = tree (label (node_part (kinds.character c))) nothing after

-- characters one after another
abbrev pub characters_forest : {L : Type 0} → (Part → L) → List Character → Forest L
characters_forest label [] = nothing
characters_forest label (c ∷ cs) = character_forest label c (characters_forest label cs)

-- strings of a class one after another
abbrev pub strings_forest : {L : Type 0} → (Part → L) → List ClassString → Forest L
strings_forest label [] = nothing
strings_forest label (s ∷ ss) = tree (label (node_part (kinds.class_string s))) (characters_forest label s.body) (strings_forest label ss)

-- a class and what stands in it
abbrev mutual
  pub member_forest : {L : Type 0} → (Part → L) → Member → Forest L → Forest L
  member_forest label (in_class.range r) after = tree (label (node_part (kinds.class_range r))) (character_forest label r.min (character_forest label r.max nothing)) after
  member_forest label (in_class.escape e) after = tree (label (node_part (kinds.class_escape e))) nothing after
  member_forest label (in_class.property p) after = tree (label (node_part (kinds.property_escape p))) nothing after
  member_forest label (in_class.character c) after = character_forest label c after
  member_forest label (in_class.nested c) after = class_forest label c after
  member_forest label (in_class.strings d) after = tree (label (node_part (kinds.string_disjunction d))) (strings_forest label d.body) after

  pub members_forest : {L : Type 0} → (Part → L) → Members → Forest L
  members_forest label no_member = nothing
  members_forest label (member m ms) = member_forest label m (members_forest label ms)

  pub class_forest : {L : Type 0} → (Part → L) → Class → Forest L → Forest L
  class_forest label (in_class.class s negative may_have_strings kind ms) after = tree (label (node_part (kinds.class (in_class.class s negative may_have_strings kind ms)))) (members_forest label ms) after

-- a term that holds no other
abbrev pub leaf_forest : {L : Type 0} → (Part → L) → Leaf → Forest L → Forest L
leaf_forest label (ast.boundary b) after = tree (label (node_part (kinds.boundary_assertion b))) nothing after
leaf_forest label (ast.character c) after = character_forest label c after
leaf_forest label (ast.dot d) after = tree (label (node_part (kinds.dot d))) nothing after
leaf_forest label (ast.class_escape e) after = tree (label (node_part (kinds.class_escape e))) nothing after
leaf_forest label (ast.property p) after = tree (label (node_part (kinds.property_escape p))) nothing after
leaf_forest label (ast.class c) after = class_forest label c after
leaf_forest label (ast.indexed r) after = tree (label (node_part (kinds.indexed_reference r))) nothing after
leaf_forest label (ast.named r) after = tree (label (node_part (kinds.named_reference r))) nothing after

-- the modifiers of a group, where it has some
abbrev pub modifiers_forest : {L : Type 0} → (Part → L) → Option Modifiers → Forest L → Forest L
modifiers_forest label None after = after
modifiers_forest label (Some m) after = tree (label (modifiers_part m)) nothing after

-- terms, and alternatives of a disjunction
abbrev mutual
  pub node_forest : {L : Type 0} → (Part → L) → Node → Forest L → Forest L
  node_forest label (leaf l) after = leaf_forest label l after
  node_forest label (quantified s min max greedy n) after = tree (label (node_part (kinds.quantifier s min max greedy n))) (node_forest label n nothing) after
  node_forest label (group s (ast.capturing name) d more) after =
      tree (label (node_part (kinds.capturing_group s name (d, more)))) (tree (label (node_part (kinds.disjunction (d, more)))) (alternatives_forest label more) nothing) after
  node_forest label (group s (ast.ignoring m) d more) after =
      tree (label (node_part (kinds.ignore_group s m (d, more)))) (modifiers_forest label m (tree (label (node_part (kinds.disjunction (d, more)))) (alternatives_forest label more) nothing)) after
  node_forest label (group s (ast.looking kind) d more) after =
      tree (label (node_part (kinds.look_around s kind (d, more)))) (tree (label (node_part (kinds.disjunction (d, more)))) (alternatives_forest label more) nothing) after

  pub nodes_forest : {L : Type 0} → (Part → L) → Nodes → Forest L
  nodes_forest label no_node = nothing
  nodes_forest label (node n ns) = node_forest label n (nodes_forest label ns)

  pub alternatives_forest : {L : Type 0} → (Part → L) → Alternatives → Forest L
  alternatives_forest label no_alternative = nothing
  alternatives_forest label (ast.alternative s ns more) = tree (label (node_part (kinds.alternative (s, ns)))) (nodes_forest label ns) (alternatives_forest label more)

-- a disjunction
abbrev pub disjunction_forest : {L : Type 0} → (Part → L) → SpannedAlternatives → Forest L → Forest L
disjunction_forest label d after = tree (label (node_part (kinds.disjunction d))) (alternatives_forest label d.1) after

-- any node
unfoldable pub forest : {L : Type 0} → (Part → L) → Kind → Forest L → Forest L
forest label (kinds.pattern p) after = tree (label (node_part (kinds.pattern p))) (disjunction_forest label p.1 nothing) after
forest label (kinds.disjunction d) after = disjunction_forest label d after
forest label (kinds.alternative a) after = tree (label (node_part (kinds.alternative a))) (nodes_forest label a.1) after
forest label (kinds.term n) after = node_forest label n after
forest label (kinds.look_around s kind d) after = tree (label (node_part (kinds.look_around s kind d))) (disjunction_forest label d nothing) after
forest label (kinds.quantifier s min max greedy n) after = tree (label (node_part (kinds.quantifier s min max greedy n))) (node_forest label n nothing) after
forest label (kinds.capturing_group s name d) after = tree (label (node_part (kinds.capturing_group s name d))) (disjunction_forest label d nothing) after
forest label (kinds.ignore_group s m d) after = tree (label (node_part (kinds.ignore_group s m d))) (modifiers_forest label m (disjunction_forest label d nothing)) after
forest label (kinds.boundary_assertion b) after = tree (label (node_part (kinds.boundary_assertion b))) nothing after
forest label (kinds.character c) after = character_forest label c after
forest label (kinds.dot d) after = tree (label (node_part (kinds.dot d))) nothing after
forest label (kinds.class_escape e) after = tree (label (node_part (kinds.class_escape e))) nothing after
forest label (kinds.property_escape p) after = tree (label (node_part (kinds.property_escape p))) nothing after
forest label (kinds.class c) after = class_forest label c after
forest label (kinds.class_contents m) after = member_forest label m after
forest label (kinds.class_range r) after = tree (label (node_part (kinds.class_range r))) (character_forest label r.min (character_forest label r.max nothing)) after
forest label (kinds.string_disjunction d) after = tree (label (node_part (kinds.string_disjunction d))) (strings_forest label d.body) after
forest label (kinds.class_string s) after = tree (label (node_part (kinds.class_string s))) (characters_forest label s.body) after
forest label (kinds.indexed_reference r) after = tree (label (node_part (kinds.indexed_reference r))) nothing after
forest label (kinds.named_reference r) after = tree (label (node_part (kinds.named_reference r))) nothing after

-- nodes one after another
abbrev pub forest_of_all : {L : Type 0} → (Part → L) → List Kind → Forest L → Forest L
forest_of_all label [] after = after
forest_of_all label (k ∷ ks) after = forest label k (forest_of_all label ks after)

-- the modifiers of a node, where it has some
abbrev pub modifiers_in : Kind → Option Modifiers
modifiers_in (kinds.ignore_group s m d) = m
modifiers_in _ = None

-- what stands in a pattern
abbrev pub in_pattern : {L : Type 0} → (Part → L) → Whole → Forest L
in_pattern label p = forest label (kinds.disjunction p.1) nothing

-- a pattern and what stands in it
abbrev pub pattern_forest : {L : Type 0} → (Part → L) → Whole → Forest L
pattern_forest label p = tree (label (node_part (kinds.pattern p))) (in_pattern label p) nothing

-- The nodes of a pattern are nested.
abbrev pub IsNestedPattern : Whole → Type 0
IsNestedPattern p = IsNested (λ (s : Span). s) p.0.start p.0.end (in_pattern part_span p)
