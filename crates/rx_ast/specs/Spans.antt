-- The span of each node of the mirror.
use Rattle.rx_base.specs.declared.span.Span.{Span}
use Rattle.rx_ast.specs.ClassTree.{Member, Class, range, escape, property, character, nested, strings, class}
use Rattle.rx_ast.specs.Tree as tree
use Rattle.rx_ast.specs.Tree.{Leaf, Node, leaf, quantified, group}

abbrev pub class_span : Class → Span
class_span (class s negative may_have_strings kind ms) = s

abbrev pub member_span : Member → Span
member_span (range r) = r.span
member_span (escape e) = e.span
member_span (property p) = p.span
member_span (character c) = c.span
member_span (nested c) = class_span c
member_span (strings d) = d.span

abbrev pub leaf_span : Leaf → Span
leaf_span (tree.boundary b) = b.span
leaf_span (tree.character c) = c.span
leaf_span (tree.dot d) = d.span
leaf_span (tree.class_escape e) = e.span
leaf_span (tree.property p) = p.span
leaf_span (tree.class c) = class_span c
leaf_span (tree.indexed r) = r.span
leaf_span (tree.named r) = r.span

abbrev pub node_span : Node → Span
node_span (leaf l) = leaf_span l
node_span (quantified s min max greedy n) = s
node_span (group s o d more) = s
