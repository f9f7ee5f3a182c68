-- The nodes of a tree without its terms and the items of its classes.
use Rattle.std.proofs.Common.{◌≡◌, refl, ap, sym, ◌∙◌, true, false, cond, List, [], ◌∷◌, ◌++◌, append-nil}
use Rattle.std.specs.List.{filter, flat_map}
use Rattle.std.proofs.lemmas.List.Elements.{filter-append}
use Rattle.rx_ast.specs.Kinds.{Kind, term, class_contents, children, in_term, in_contents, order}
use Rattle.rx_ast.proofs.Orders.{order_is}
use Rattle.rx_kinds.specs.Inner.{is_node, node_of}
use Rattle.rx_records.specs.Records.{all_nodes, nodes_of}

filtered : (ks : List Kind) → filter is_node (flat_map order ks) ≡ all_nodes ks
filtered [] = refl
filtered (k ∷ ks) = filter-append is_node (order k) (flat_map order ks) ∙ ap (λ js. nodes_of k ++ js) (filtered ks)

either_way : (k : Kind) → nodes_of k ≡ cond (is_node k) (k ∷ all_nodes (children k)) (all_nodes (children k))
either_way k = ap (filter is_node) (order_is k) ∙ ap (λ ks. cond (is_node k) (k ∷ ks) ks) (filtered (children k))

-- A node comes before those that stand in it.
pub nodes_are : (k : Kind) → is_node k ≡ true → nodes_of k ≡ k ∷ all_nodes (children k)
nodes_are k node = either_way k ∙ ap (λ b. cond b (k ∷ all_nodes (children k)) (all_nodes (children k))) node

nodes_within : (k : Kind) → is_node k ≡ false → nodes_of k ≡ all_nodes (children k)
nodes_within k outer = either_way k ∙ ap (λ b. cond b (k ∷ all_nodes (children k)) (all_nodes (children k))) outer

-- a node in which none stands
pub nodes_alone : (k : Kind) → is_node k ≡ true → children k ≡ [] → nodes_of k ≡ k ∷ []
nodes_alone k node none = nodes_are k node ∙ ap (λ ks. k ∷ all_nodes ks) none

pub same_nodes : (k : Kind) → nodes_of (node_of k) ≡ nodes_of k
same_nodes (term n) = sym (nodes_within (term n) refl ∙ append-nil (nodes_of (in_term n)))
same_nodes (class_contents m) = sym (nodes_within (class_contents m) refl ∙ append-nil (nodes_of (in_contents m)))
same_nodes k = refl
