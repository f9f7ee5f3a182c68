-- Any node of a tree as plain data: which nodes stand directly in it, and which at any depth.
use Rattle.std.specs.Prelude.{ℕ, Bool, Option, List, [], ◌∷◌, ◌++◌, map}
use Rattle.rx_base.specs.declared.span.Span.{Span}
use Rattle.rx_ast.specs.declared.leaf.LookAroundAssertionKind.{LookAroundAssertionKind}
use Rattle.rx_ast.specs.declared.leaf.Modifiers.{Modifiers}
use Rattle.rx_ast.specs.declared.leaf.Dot.{Dot}
use Rattle.rx_ast.specs.declared.leaf.BoundaryAssertion.{BoundaryAssertion}
use Rattle.rx_ast.specs.declared.leaf.Character.{Character}
use Rattle.rx_ast.specs.declared.leaf.CharacterClassEscape.{CharacterClassEscape}
use Rattle.rx_ast.specs.declared.leaf.UnicodePropertyEscape.{UnicodePropertyEscape}
use Rattle.rx_ast.specs.declared.leaf.IndexedReference.{IndexedReference}
use Rattle.rx_ast.specs.declared.leaf.NamedReference.{NamedReference}
use Rattle.rx_ast.specs.declared.class.CharacterClassRange.{CharacterClassRange}
use Rattle.rx_ast.specs.declared.class.ClassStringDisjunction.{ClassStringDisjunction}
use Rattle.rx_ast.specs.declared.class.ClassString.{ClassString}
use Rattle.rx_ast.specs.ClassTree as in_class
use Rattle.rx_ast.specs.ClassTree.{Member, Members, Class, no_member, member}
use Rattle.rx_ast.specs.Tree as tree
use Rattle.rx_ast.specs.Tree.{Opener, Node, Nodes, Alternatives, SpannedNodes, SpannedAlternatives, Whole, leaf, quantified, group, no_node, node, no_alternative}
use Rattle.rx_ast.specs.Spans.{class_span, member_span, node_span}

-- a node with all that it holds
pub data Kind : Type 0 where
  pattern : Whole → Kind
  disjunction : SpannedAlternatives → Kind
  alternative : SpannedNodes → Kind
  term : Node → Kind
  look_around : Span → LookAroundAssertionKind → SpannedAlternatives → Kind
  quantifier : Span → ℕ → Option ℕ → Bool → Node → Kind
  capturing_group : Span → Option (List ℕ) → SpannedAlternatives → Kind
  ignore_group : Span → Option Modifiers → SpannedAlternatives → Kind
  boundary_assertion : BoundaryAssertion → Kind
  character : Character → Kind
  dot : Dot → Kind
  class_escape : CharacterClassEscape → Kind
  property_escape : UnicodePropertyEscape → Kind
  class : Class → Kind
  class_contents : Member → Kind
  class_range : CharacterClassRange → Kind
  string_disjunction : ClassStringDisjunction → Kind
  class_string : ClassString → Kind
  indexed_reference : IndexedReference → Kind
  named_reference : NamedReference → Kind

-- a group or a look-around: its span, what it begins with, its disjunction
abbrev pub group_as_kind : Span → Opener → SpannedAlternatives → Kind
group_as_kind s (tree.capturing name) d = capturing_group s name d
group_as_kind s (tree.ignoring modifiers) d = ignore_group s modifiers d
group_as_kind s (tree.looking kind) d = look_around s kind d

-- the node that a term is
abbrev pub in_term : Node → Kind
in_term (leaf (tree.boundary b)) = boundary_assertion b
in_term (leaf (tree.character c)) = character c
in_term (leaf (tree.dot d)) = dot d
in_term (leaf (tree.class_escape e)) = class_escape e
in_term (leaf (tree.property p)) = property_escape p
in_term (leaf (tree.class c)) = class c
in_term (leaf (tree.indexed r)) = indexed_reference r
in_term (leaf (tree.named r)) = named_reference r
in_term (quantified s min max greedy n) = quantifier s min max greedy n
in_term (group s o d more) = group_as_kind s o (d, more)

-- the node that the contents of a class are
abbrev pub in_contents : Member → Kind
in_contents (in_class.range r) = class_range r
in_contents (in_class.escape e) = class_escape e
in_contents (in_class.property p) = property_escape p
in_contents (in_class.character c) = character c
in_contents (in_class.nested c) = class c
in_contents (in_class.strings d) = string_disjunction d

abbrev pub each_term : Nodes → List Kind
each_term no_node = []
each_term (node n ns) = term n ∷ each_term ns

abbrev pub each_alternative : Alternatives → List Kind
each_alternative no_alternative = []
each_alternative (tree.alternative s ns more) = alternative (s, ns) ∷ each_alternative more

abbrev pub each_contents : Members → List Kind
each_contents no_member = []
each_contents (member m ms) = class_contents m ∷ each_contents ms

-- The nodes directly in a node, in the order of the text. Modifiers are no nodes.
abbrev pub children : Kind → List Kind
children (pattern p) = disjunction p.1 ∷ []
children (disjunction d) = each_alternative d.1
children (alternative a) = each_term a.1
children (term n) = in_term n ∷ []
children (look_around s kind d) = disjunction d ∷ []
children (quantifier s min max greedy n) = term n ∷ []
children (capturing_group s name d) = disjunction d ∷ []
children (ignore_group s modifiers d) = disjunction d ∷ []
children (boundary_assertion b) = []
children (character c) = []
children (dot d) = []
children (class_escape e) = []
children (property_escape p) = []
children (class (in_class.class s negative may_have_strings kind ms)) = each_contents ms
children (class_contents m) = in_contents m ∷ []
children (class_range r) = character r.min ∷ character r.max ∷ []
children (string_disjunction d) = map class_string d.body
children (class_string s) = map character s.body
children (indexed_reference r) = []
children (named_reference r) = []

-- a string and its characters; a disjunction of strings, and what stands in it
abbrev pub strings_order : List ClassString → List Kind
strings_order [] = []
strings_order (s ∷ ss) = class_string s ∷ (map character s.body ++ strings_order ss)

-- in a class: what is in its contents, and the contents of each
abbrev mutual
  pub member_order : Member → List Kind
  member_order (in_class.range r) = class_range r ∷ character r.min ∷ character r.max ∷ []
  member_order (in_class.escape e) = class_escape e ∷ []
  member_order (in_class.property p) = property_escape p ∷ []
  member_order (in_class.character c) = character c ∷ []
  member_order (in_class.nested c) = class_order c
  member_order (in_class.strings d) = string_disjunction d ∷ strings_order d.body

  pub members_order : Members → List Kind
  members_order no_member = []
  members_order (member m ms) = class_contents m ∷ (member_order m ++ members_order ms)

  pub class_order : Class → List Kind
  class_order (in_class.class s negative may_have_strings kind ms) = class (in_class.class s negative may_have_strings kind ms) ∷ members_order ms

-- the node that a term is, and all that is in it
abbrev mutual
  pub node_order : Node → List Kind
  node_order (leaf (tree.boundary b)) = boundary_assertion b ∷ []
  node_order (leaf (tree.character c)) = character c ∷ []
  node_order (leaf (tree.dot d)) = dot d ∷ []
  node_order (leaf (tree.class_escape e)) = class_escape e ∷ []
  node_order (leaf (tree.property p)) = property_escape p ∷ []
  node_order (leaf (tree.class c)) = class_order c
  node_order (leaf (tree.indexed r)) = indexed_reference r ∷ []
  node_order (leaf (tree.named r)) = named_reference r ∷ []
  node_order (quantified s min max greedy n) = quantifier s min max greedy n ∷ term n ∷ node_order n
  node_order (group s o d more) = group_as_kind s o (d, more) ∷ disjunction (d, more) ∷ alternatives_order more

  pub nodes_order : Nodes → List Kind
  nodes_order no_node = []
  nodes_order (node n ns) = term n ∷ (node_order n ++ nodes_order ns)

  pub alternatives_order : Alternatives → List Kind
  alternatives_order no_alternative = []
  alternatives_order (tree.alternative s ns more) = alternative (s, ns) ∷ (nodes_order ns ++ alternatives_order more)

-- A node, and then all that stand in it, in the order of the text: `order_is` of `proofs/Orders.antt` says that it is the node and the order of each of its children.
unfoldable pub order : Kind → List Kind
order (pattern p) = pattern p ∷ disjunction p.1 ∷ alternatives_order p.1.1
order (disjunction d) = disjunction d ∷ alternatives_order d.1
order (alternative a) = alternative a ∷ nodes_order a.1
order (term n) = term n ∷ node_order n
order (look_around s kind d) = look_around s kind d ∷ disjunction d ∷ alternatives_order d.1
order (quantifier s min max greedy n) = quantifier s min max greedy n ∷ term n ∷ node_order n
order (capturing_group s name d) = capturing_group s name d ∷ disjunction d ∷ alternatives_order d.1
order (ignore_group s modifiers d) = ignore_group s modifiers d ∷ disjunction d ∷ alternatives_order d.1
order (boundary_assertion b) = boundary_assertion b ∷ []
order (character c) = character c ∷ []
order (dot d) = dot d ∷ []
order (class_escape e) = class_escape e ∷ []
order (property_escape p) = property_escape p ∷ []
order (class c) = class_order c
order (class_contents m) = class_contents m ∷ member_order m
order (class_range r) = class_range r ∷ character r.min ∷ character r.max ∷ []
order (string_disjunction d) = string_disjunction d ∷ strings_order d.body
order (class_string s) = class_string s ∷ map character s.body
order (indexed_reference r) = indexed_reference r ∷ []
order (named_reference r) = named_reference r ∷ []

abbrev pub kind_span : Kind → Span
kind_span (pattern p) = p.0
kind_span (disjunction d) = d.0
kind_span (alternative a) = a.0
kind_span (term n) = node_span n
kind_span (look_around s kind d) = s
kind_span (quantifier s min max greedy n) = s
kind_span (capturing_group s name d) = s
kind_span (ignore_group s modifiers d) = s
kind_span (boundary_assertion b) = b.span
kind_span (character c) = c.span
kind_span (dot d) = d.span
kind_span (class_escape e) = e.span
kind_span (property_escape p) = p.span
kind_span (class c) = class_span c
kind_span (class_contents m) = member_span m
kind_span (class_range r) = r.span
kind_span (string_disjunction d) = d.span
kind_span (class_string s) = s.span
kind_span (indexed_reference r) = r.span
kind_span (named_reference r) = r.span
