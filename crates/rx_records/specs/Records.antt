-- The records of a tree.
use Rattle.std.specs.Prelude.{◌≡◌, ℕ, ◌+◌, List, [], ◌∷◌, ◌++◌, length}
use Rattle.std.specs.List.{filter, flat_map}
use Rattle.rx_ast.specs.Kinds.{Kind, pattern, children, order}
use Rattle.rx_kinds.specs.Inner.{is_node}
use Rattle.rx_ast.specs.Tree.{Whole}
use Rattle.rx_records.specs.declared.node.Node.{Node}
use Rattle.rx_records.specs.Nodes.{Before, own, own_index, own_text}

-- a node and all that stand in it, in the order of the text, each before those that stand in it
abbrev pub nodes_of : Kind → List Kind
nodes_of k = filter is_node (order k)

-- the same of nodes one after the other
abbrev pub all_nodes : List Kind → List Kind
all_nodes ks = flat_map nodes_of ks

-- before all nodes
abbrev pub before_all : Before
before_all = record { nodes = 0; groups = 0; bytes = 0 }

-- after a node, those in it not counted
abbrev pub past : Before → Kind → Before
past before k = record { nodes = before.nodes + 1; groups = before.groups + length (own_index before k); bytes = before.bytes + length (own_text k) }

-- how many nodes stand in a node, and the index of the node after it and all that stand in it
abbrev pub with_links : ℕ → ℕ → Node → Node
with_links children next node = record node { children = children; next = next }

-- the records of nodes that come one after the other, where others were recorded before
abbrev pub records : Before → List Kind → List Node
records before [] = []
records before (k ∷ ks) = with_links (length (children k)) (before.nodes + length (nodes_of k)) (own before k) ∷ records (past before k) ks

-- the indices of the capturing groups among them
abbrev pub group_indices : Before → List Kind → List ℕ
group_indices before [] = []
group_indices before (k ∷ ks) = own_index before k ++ group_indices (past before k) ks

-- the bytes of their names and values
abbrev pub all_text : List Kind → List ℕ
all_text ks = flat_map own_text ks

-- These are the records of the tree: each node has one, in the order of the text; the groups are the indices of the capturing groups, by their numbers; and the texts are
-- all names and values, in which the ranges of the records lie.
pub record AreRecords (tree : Whole) (nodes : List Node) (groups texts : List ℕ) : Type 0 where
  pub nodes_are : nodes ≡ records before_all (nodes_of (pattern tree))
  pub groups_are : groups ≡ group_indices before_all (nodes_of (pattern tree))
  pub texts_are : texts ≡ all_text (nodes_of (pattern tree))
