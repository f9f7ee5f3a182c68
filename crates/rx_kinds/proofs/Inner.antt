-- The nodes that terms and items of classes are.
use Rattle.std.proofs.Common.{◌≡◌, refl, true, false, List, ◌∷◌}
use Rattle.rx_ast.specs.ClassTree as in_class
use Rattle.rx_ast.specs.ClassTree.{Member}
use Rattle.rx_ast.specs.Tree as tree
use Rattle.rx_ast.specs.Tree.{Node, leaf, quantified, group}
use Rattle.rx_ast.specs.Kinds.{Kind, term, class_contents, children, in_term, in_contents}
use Rattle.rx_kinds.specs.Inner.{is_node, node_of}

term_is_node : (n : Node) → is_node (in_term n) ≡ true
term_is_node (leaf (tree.boundary b)) = refl
term_is_node (leaf (tree.character c)) = refl
term_is_node (leaf (tree.dot d)) = refl
term_is_node (leaf (tree.class_escape e)) = refl
term_is_node (leaf (tree.property p)) = refl
term_is_node (leaf (tree.class c)) = refl
term_is_node (leaf (tree.indexed r)) = refl
term_is_node (leaf (tree.named r)) = refl
term_is_node (quantified s min max greedy n) = refl
term_is_node (group s (tree.capturing name) d more) = refl
term_is_node (group s (tree.ignoring modifiers) d more) = refl
term_is_node (group s (tree.looking kind) d more) = refl

contents_are_node : (m : Member) → is_node (in_contents m) ≡ true
contents_are_node (in_class.range r) = refl
contents_are_node (in_class.escape e) = refl
contents_are_node (in_class.property p) = refl
contents_are_node (in_class.character c) = refl
contents_are_node (in_class.nested c) = refl
contents_are_node (in_class.strings d) = refl

pub node_is : (k : Kind) → is_node (node_of k) ≡ true
node_is (term n) = term_is_node n
node_is (class_contents m) = contents_are_node m
node_is k = refl

-- what stands in a term or an item of a class
pub only_in : (k inner : Kind) (ks : List Kind) → is_node k ≡ false → children k ≡ inner ∷ ks → inner ≡ node_of k
only_in (term n) inner ks outer e = cc
only_in (class_contents m) inner ks outer e = cc
only_in k inner ks outer e = cc
