-- The order of nodes, node by node.
use Rattle.std.proofs.Common.{◌≡◌, refl, ap, sym, ◌∙◌, List, [], ◌∷◌, ◌++◌, map}
use Rattle.std.specs.List.{flat_map}
use Rattle.rx_ast.specs.declared.class.ClassString.{ClassString}
use Rattle.rx_ast.specs.declared.leaf.Character.{Character}
use Rattle.rx_ast.specs.ClassTree as in_class
use Rattle.rx_ast.specs.ClassTree.{Member, Members, no_member, member}
use Rattle.rx_ast.specs.Tree as tree
use Rattle.rx_ast.specs.Tree.{Node, Nodes, Alternatives, leaf, quantified, group, no_node, node, no_alternative}
use Rattle.rx_ast.specs.Kinds.{Kind, pattern, disjunction, alternative, term, look_around, quantifier, capturing_group, ignore_group, boundary_assertion, character, dot, class_escape, property_escape, class, class_contents, class_range, string_disjunction, class_string, indexed_reference, named_reference, in_term, in_contents, each_term, each_alternative, each_contents, children, strings_order, member_order, members_order, node_order, nodes_order, alternatives_order, order}

abbrev orders : List Kind → List Kind
orders ks = flat_map order ks

alone : (ks : List Kind) → ks ++ [] ≡ ks
alone [] = refl
alone (k ∷ ks) = ap (λ more. k ∷ more) (alone ks)

of_term : (n : Node) → node_order n ≡ order (in_term n)
unfolding order
of_term (leaf (tree.boundary b)) = refl
of_term (leaf (tree.character c)) = refl
of_term (leaf (tree.dot d)) = refl
of_term (leaf (tree.class_escape e)) = refl
of_term (leaf (tree.property p)) = refl
of_term (leaf (tree.class c)) = refl
of_term (leaf (tree.indexed r)) = refl
of_term (leaf (tree.named r)) = refl
of_term (quantified s min max greedy n) = refl
of_term (group s (tree.capturing name) d more) = refl
of_term (group s (tree.ignoring modifiers) d more) = refl
of_term (group s (tree.looking kind) d more) = refl

of_contents : (m : Member) → member_order m ≡ order (in_contents m)
unfolding order
of_contents (in_class.range r) = refl
of_contents (in_class.escape e) = refl
of_contents (in_class.property p) = refl
of_contents (in_class.character c) = refl
of_contents (in_class.nested c) = refl
of_contents (in_class.strings d) = refl

of_terms : (ns : Nodes) → nodes_order ns ≡ orders (each_term ns)
unfolding order
of_terms no_node = refl
of_terms (node n ns) = ap (λ ks. term n ∷ (node_order n ++ ks)) (of_terms ns)

of_alternatives : (more : Alternatives) → alternatives_order more ≡ orders (each_alternative more)
unfolding order
of_alternatives no_alternative = refl
of_alternatives (tree.alternative s ns more) = ap (λ ks. alternative (s, ns) ∷ (nodes_order ns ++ ks)) (of_alternatives more)

of_members : (ms : Members) → members_order ms ≡ orders (each_contents ms)
unfolding order
of_members no_member = refl
of_members (member m ms) = ap (λ ks. class_contents m ∷ (member_order m ++ ks)) (of_members ms)

of_characters : (cs : List Character) → map character cs ≡ orders (map character cs)
unfolding order
of_characters [] = refl
of_characters (c ∷ cs) = ap (λ ks. character c ∷ ks) (of_characters cs)

of_strings : (ss : List ClassString) → strings_order ss ≡ orders (map class_string ss)
unfolding order
of_strings [] = refl
of_strings (s ∷ ss) = ap (λ ks. class_string s ∷ (map character s.body ++ ks)) (of_strings ss)

-- A node's order is the node, and then the order of each of its children.
pub order_is : (k : Kind) → order k ≡ k ∷ flat_map order (children k)
unfolding order
order_is (pattern p) = ap (λ ks. pattern p ∷ ks) (sym (alone _))
order_is (disjunction d) = ap (λ ks. disjunction d ∷ ks) (of_alternatives d.1)
order_is (alternative a) = ap (λ ks. alternative a ∷ ks) (of_terms a.1)
order_is (term n) = ap (λ ks. term n ∷ ks) (of_term n ∙ sym (alone _))
order_is (look_around s kind d) = ap (λ ks. look_around s kind d ∷ ks) (sym (alone _))
order_is (quantifier s min max greedy n) = ap (λ ks. quantifier s min max greedy n ∷ ks) (sym (alone _))
order_is (capturing_group s name d) = ap (λ ks. capturing_group s name d ∷ ks) (sym (alone _))
order_is (ignore_group s modifiers d) = ap (λ ks. ignore_group s modifiers d ∷ ks) (sym (alone _))
order_is (boundary_assertion b) = refl
order_is (character c) = refl
order_is (dot d) = refl
order_is (class_escape e) = refl
order_is (property_escape p) = refl
order_is (class (in_class.class s negative may_have_strings kind ms)) = ap (λ ks. class (in_class.class s negative may_have_strings kind ms) ∷ ks) (of_members ms)
order_is (class_contents m) = ap (λ ks. class_contents m ∷ ks) (of_contents m ∙ sym (alone _))
order_is (class_range r) = refl
order_is (string_disjunction d) = ap (λ ks. string_disjunction d ∷ ks) (of_strings d.body)
order_is (class_string s) = ap (λ ks. class_string s ∷ ks) (of_characters s.body)
order_is (indexed_reference r) = refl
order_is (named_reference r) = refl
