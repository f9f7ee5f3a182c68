-- What stands in a node are its children, and its nodes in a row are its order.
use Rattle.std.proofs.Common.{◌≡◌, refl, ap, sym, ◌∙◌, List, [], ◌∷◌, ◌++◌, append-nil, map}
use Rattle.rx_base.specs.declared.span.Span.{Span}
use Rattle.rx_ast.specs.declared.leaf.Character.{Character}
use Rattle.rx_ast.specs.declared.class.ClassString.{ClassString}
use Rattle.rx_ast.specs.ClassTree as in_class
use Rattle.rx_ast.specs.ClassTree.{Member, Members, Class, no_member, member}
use Rattle.rx_ast.specs.Tree as ast
use Rattle.rx_ast.specs.Tree.{Leaf, Node, Nodes, Alternatives, leaf, quantified, group, no_node, node, no_alternative}
use Rattle.rx_ast.specs.Kinds as kinds
use Rattle.rx_ast.specs.Kinds.{Kind, children, order, each_term, each_alternative, each_contents, strings_order, member_order, members_order, class_order, node_order, nodes_order, alternatives_order}
use Rattle.rx_ast.specs.Forest.{Forest, nothing, tree, roots}
use Rattle.rx_lint.specs.Nodes.{characters, strings, in_contents, contents, class, in_leaf, in_term, terms, alternatives, inside, trees}

-- What stands in a node are its children, each with what stands in it.
trees_of_characters : (cs : List Character) → characters cs ≡ trees (map kinds.character cs)
unfolding inside
trees_of_characters [] = refl
trees_of_characters (c ∷ cs) = ap (tree (kinds.character c) nothing) (trees_of_characters cs)

trees_of_strings : (ss : List ClassString) → strings ss ≡ trees (map kinds.class_string ss)
unfolding inside
trees_of_strings [] = refl
trees_of_strings (s ∷ ss) = ap (tree (kinds.class_string s) (characters s.body)) (trees_of_strings ss)

trees_of_contents : (ms : Members) → contents ms ≡ trees (each_contents ms)
unfolding inside
trees_of_contents no_member = refl
trees_of_contents (member m ms) = ap (tree (kinds.class_contents m) (in_contents m)) (trees_of_contents ms)

trees_of_terms : (ns : Nodes) → terms ns ≡ trees (each_term ns)
unfolding inside
trees_of_terms no_node = refl
trees_of_terms (node n ns) = ap (tree (kinds.term n) (in_term n)) (trees_of_terms ns)

trees_of_alternatives : (more : Alternatives) → alternatives more ≡ trees (each_alternative more)
unfolding inside
trees_of_alternatives no_alternative = refl
trees_of_alternatives (ast.alternative s ns more) = ap (tree (kinds.alternative (s, ns)) (terms ns)) (trees_of_alternatives more)

tree_in_contents : (m : Member) → in_contents m ≡ trees (kinds.in_contents m ∷ [])
unfolding inside
tree_in_contents (in_class.range r) = refl
tree_in_contents (in_class.escape r) = refl
tree_in_contents (in_class.property r) = refl
tree_in_contents (in_class.character r) = refl
tree_in_contents (in_class.nested (in_class.class s negative may_have_strings kind ms)) = refl
tree_in_contents (in_class.strings r) = refl

tree_in_term : (n : Node) → in_term n ≡ trees (kinds.in_term n ∷ [])
unfolding inside
tree_in_term (leaf (ast.boundary b)) = refl
tree_in_term (leaf (ast.character b)) = refl
tree_in_term (leaf (ast.dot b)) = refl
tree_in_term (leaf (ast.class_escape b)) = refl
tree_in_term (leaf (ast.property b)) = refl
tree_in_term (leaf (ast.class (in_class.class s negative may_have_strings kind ms))) = refl
tree_in_term (leaf (ast.indexed b)) = refl
tree_in_term (leaf (ast.named b)) = refl
tree_in_term (quantified s min max greedy n) = refl
tree_in_term (group s (ast.capturing name) d more) = refl
tree_in_term (group s (ast.ignoring modifiers) d more) = refl
tree_in_term (group s (ast.looking kind) d more) = refl

pub inside_is : (k : Kind) → inside k ≡ trees (children k)
unfolding inside
inside_is (kinds.pattern p) = refl
inside_is (kinds.disjunction d) = trees_of_alternatives d.1
inside_is (kinds.alternative a) = trees_of_terms a.1
inside_is (kinds.term n) = tree_in_term n
inside_is (kinds.look_around s kind d) = refl
inside_is (kinds.quantifier s min max greedy n) = refl
inside_is (kinds.capturing_group s name d) = refl
inside_is (kinds.ignore_group s modifiers d) = refl
inside_is (kinds.boundary_assertion b) = refl
inside_is (kinds.character c) = refl
inside_is (kinds.dot d) = refl
inside_is (kinds.class_escape e) = refl
inside_is (kinds.property_escape p) = refl
inside_is (kinds.class (in_class.class s negative may_have_strings kind ms)) = trees_of_contents ms
inside_is (kinds.class_contents m) = tree_in_contents m
inside_is (kinds.class_range r) = refl
inside_is (kinds.string_disjunction d) = trees_of_strings d.body
inside_is (kinds.class_string s) = trees_of_characters s.body
inside_is (kinds.indexed_reference r) = refl
inside_is (kinds.named_reference r) = refl

pub roots_of_trees : (ks : List Kind) → roots (trees ks) ≡ ks
roots_of_trees [] = refl
roots_of_trees (k ∷ ks) = ap (λ more. k ∷ more) (roots_of_trees ks)

-- All nodes of a forest, each before those in it.
abbrev pub labels : {L : Type 0} → Forest L → List L
labels nothing = []
labels (tree l inner after) = l ∷ (labels inner ++ labels after)

-- in each node stand its children
abbrev pub HaveChildren : Forest Kind → Type 0
HaveChildren nothing = Unit {0}
HaveChildren (tree k inner after) = (roots inner ≡ children k) × HaveChildren inner × HaveChildren after

-- A forest whose nodes have their children, and whose nodes in a row are a list.
pub record IsGrown (f : Forest Kind) (ks : List Kind) : Type 0 where
  pub children : HaveChildren f
  pub in_order : labels f ≡ ks

grown_characters : (cs : List Character) → IsGrown (characters cs) (map kinds.character cs)
grown_characters [] = record { children = tt; in_order = refl }
grown_characters (c ∷ cs) =
    let after = grown_characters cs in
    record { children = (refl, tt, after.children); in_order = ap (λ ks. kinds.character c ∷ ks) after.in_order }

root_characters : (cs : List Character) → roots (characters cs) ≡ map kinds.character cs
root_characters cs = ap roots (trees_of_characters cs) ∙ roots_of_trees _

grown_strings : (ss : List ClassString) → IsGrown (strings ss) (strings_order ss)
grown_strings [] = record { children = tt; in_order = refl }
grown_strings (s ∷ ss) =
    let inner = grown_characters s.body in
    let after = grown_strings ss in
    record {
      children = (root_characters s.body, inner.children, after.children);
      in_order = ap (λ ks. kinds.class_string s ∷ (ks ++ labels (strings ss))) inner.in_order ∙ ap (λ ks. kinds.class_string s ∷ (map kinds.character s.body ++ ks)) after.in_order;
    }

-- a node alone
alone : (k : Kind) (inner : Forest Kind) (ks : List Kind) → roots inner ≡ children k → IsGrown inner ks → IsGrown (tree k inner nothing) (k ∷ ks)
alone k inner ks in_it grown = record { children = (in_it, grown.children, tt); in_order = ap (λ ls. k ∷ ls) (append-nil (labels inner) ∙ grown.in_order) }

none : IsGrown nothing []
none = record { children = tt; in_order = refl }

root_inside : (k : Kind) → roots (inside k) ≡ children k
root_inside k = ap roots (inside_is k) ∙ roots_of_trees _

root_contents : (m : Member) → roots (in_contents m) ≡ kinds.in_contents m ∷ []
root_contents m = ap roots (tree_in_contents m) ∙ roots_of_trees _

root_term : (n : Node) → roots (in_term n) ≡ kinds.in_term n ∷ []
root_term n = ap roots (tree_in_term n) ∙ roots_of_trees _

mutual
  grown_in_contents : (m : Member) → IsGrown (in_contents m) (member_order m)
  grown_in_contents (in_class.range r) = record { children = (refl, (refl, tt, (refl, tt, tt)), tt); in_order = refl }
  grown_in_contents (in_class.escape r) = alone _ _ _ refl none
  grown_in_contents (in_class.property r) = alone _ _ _ refl none
  grown_in_contents (in_class.character r) = alone _ _ _ refl none
  grown_in_contents (in_class.nested c) = grown_class c
  grown_in_contents (in_class.strings d) = alone _ _ _ (ap roots (trees_of_strings d.body) ∙ roots_of_trees _) (grown_strings d.body)

  grown_contents : (ms : Members) → IsGrown (contents ms) (members_order ms)
  grown_contents no_member = record { children = tt; in_order = refl }
  grown_contents (member m ms) =
      let inner = grown_in_contents m in
      let after = grown_contents ms in
      record {
        children = (root_contents m, inner.children, after.children);
        in_order = ap (λ ks. kinds.class_contents m ∷ (ks ++ labels (contents ms))) inner.in_order ∙ ap (λ ks. kinds.class_contents m ∷ (member_order m ++ ks)) after.in_order;
      }

  grown_class : (c : Class) → IsGrown (class c) (class_order c)
  grown_class (in_class.class s negative may_have_strings kind ms) = alone _ _ _ (ap roots (trees_of_contents ms) ∙ roots_of_trees _) (grown_contents ms)

grown_leaf : (l : Leaf) → IsGrown (in_leaf l) (node_order (leaf l))
grown_leaf (ast.boundary b) = alone _ _ _ refl none
grown_leaf (ast.character b) = alone _ _ _ refl none
grown_leaf (ast.dot b) = alone _ _ _ refl none
grown_leaf (ast.class_escape b) = alone _ _ _ refl none
grown_leaf (ast.property b) = alone _ _ _ refl none
grown_leaf (ast.class c) = grown_class c
grown_leaf (ast.indexed b) = alone _ _ _ refl none
grown_leaf (ast.named b) = alone _ _ _ refl none

root_alternatives : (s : Span) (more : Alternatives) → roots (alternatives more) ≡ children (kinds.disjunction (s, more))
root_alternatives s more = ap roots (trees_of_alternatives more) ∙ roots_of_trees _

mutual
  grown_in_term : (n : Node) → IsGrown (in_term n) (node_order n)
  grown_in_term (leaf l) = grown_leaf l
  grown_in_term (quantified s min max greedy n) = alone _ _ _ refl (alone _ _ _ (root_term n) (grown_in_term n))
  grown_in_term (group s (ast.capturing name) d more) = alone _ _ _ refl (alone (kinds.disjunction (d, more)) _ _ (root_alternatives d more) (grown_alternatives more))
  grown_in_term (group s (ast.ignoring modifiers) d more) = alone _ _ _ refl (alone (kinds.disjunction (d, more)) _ _ (root_alternatives d more) (grown_alternatives more))
  grown_in_term (group s (ast.looking kind) d more) = alone _ _ _ refl (alone (kinds.disjunction (d, more)) _ _ (root_alternatives d more) (grown_alternatives more))

  grown_terms : (ns : Nodes) → IsGrown (terms ns) (nodes_order ns)
  grown_terms no_node = record { children = tt; in_order = refl }
  grown_terms (node n ns) =
      let inner = grown_in_term n in
      let after = grown_terms ns in
      record {
        children = (root_term n, inner.children, after.children);
        in_order = ap (λ ks. kinds.term n ∷ (ks ++ labels (terms ns))) inner.in_order ∙ ap (λ ks. kinds.term n ∷ (node_order n ++ ks)) after.in_order;
      }

  grown_alternatives : (more : Alternatives) → IsGrown (alternatives more) (alternatives_order more)
  grown_alternatives no_alternative = record { children = tt; in_order = refl }
  grown_alternatives (ast.alternative s ns more) =
      let inner = grown_terms ns in
      let after = grown_alternatives more in
      record {
        children = (ap roots (trees_of_terms ns) ∙ roots_of_trees _, inner.children, after.children);
        in_order = ap (λ ks. kinds.alternative (s, ns) ∷ (ks ++ labels (alternatives more))) inner.in_order ∙ ap (λ ks. kinds.alternative (s, ns) ∷ (nodes_order ns ++ ks)) after.in_order;
      }

grown_inside : (k : Kind) → (ks : List Kind) × (order k ≡ k ∷ ks) × IsGrown (inside k) ks
unfolding inside order
grown_inside (kinds.pattern p) = (_, refl, alone (kinds.disjunction p.1) _ _ (root_alternatives p.1.0 p.1.1) (grown_alternatives p.1.1))
grown_inside (kinds.disjunction d) = (_, refl, grown_alternatives d.1)
grown_inside (kinds.alternative a) = (_, refl, grown_terms a.1)
grown_inside (kinds.term n) = (_, refl, grown_in_term n)
grown_inside (kinds.look_around s kind d) = (_, refl, alone (kinds.disjunction d) _ _ (root_alternatives d.0 d.1) (grown_alternatives d.1))
grown_inside (kinds.quantifier s min max greedy n) = (_, refl, alone (kinds.term n) _ _ (root_term n) (grown_in_term n))
grown_inside (kinds.capturing_group s name d) = (_, refl, alone (kinds.disjunction d) _ _ (root_alternatives d.0 d.1) (grown_alternatives d.1))
grown_inside (kinds.ignore_group s modifiers d) = (_, refl, alone (kinds.disjunction d) _ _ (root_alternatives d.0 d.1) (grown_alternatives d.1))
grown_inside (kinds.boundary_assertion b) = (_, refl, none)
grown_inside (kinds.character c) = (_, refl, none)
grown_inside (kinds.dot d) = (_, refl, none)
grown_inside (kinds.class_escape e) = (_, refl, none)
grown_inside (kinds.property_escape p) = (_, refl, none)
grown_inside (kinds.class (in_class.class s negative may_have_strings kind ms)) = (_, refl, grown_contents ms)
grown_inside (kinds.class_contents m) = (_, refl, grown_in_contents m)
grown_inside (kinds.class_range r) = (_, refl, grown_characters (r.min ∷ r.max ∷ []))
grown_inside (kinds.string_disjunction d) = (_, refl, grown_strings d.body)
grown_inside (kinds.class_string s) = (_, refl, grown_characters s.body)
grown_inside (kinds.indexed_reference r) = (_, refl, none)
grown_inside (kinds.named_reference r) = (_, refl, none)

-- A node with all in it has its children, and its order.
pub grown : (k : Kind) → IsGrown (trees (k ∷ [])) (order k)
grown k =
    let it = grown_inside k in
    let one = alone k (inside k) it.0 (root_inside k) it.2 in
    record { children = one.children; in_order = one.in_order ∙ sym it.1 }
