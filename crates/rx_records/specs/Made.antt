-- How the records of a tree are made, node by node.
use Rattle.std.specs.Prelude.{◌≡◌, ℕ, zero, suc, ◌+◌, ◌*◌, List, [], ◌∷◌, ◌++◌, length}
use Rattle.std.specs.String.{string_bytes}
use Rattle.rx_ast.specs.Kinds.{Kind}
use Rattle.rx_visit.specs.Siblings.{in_order}
use Rattle.rx_records.specs.declared.node.Node.{Node}
use Rattle.rx_records.specs.declared.records.Records.{Records}
use Rattle.rx_records.specs.declared.walk.Task.{Task}
use Rattle.rx_records.specs.Nodes.{Before, own, own_index, own_text}
use Rattle.rx_records.specs.Records.{all_nodes, all_text, group_indices, records, with_links}

-- what was recorded so far
abbrev pub so_far : Records → Before
so_far made = record { nodes = length made.nodes.items; groups = length made.groups.items; bytes = length (string_bytes made.texts) }

-- The record of this node was added, with so many children and this for `next`; and its names, and its index if it is a capturing group.
pub record AddsNode (old new : Records) (k : Kind) (count next : ℕ) : Type 0 where
  pub nodes : new.nodes.items ≡ old.nodes.items ++ with_links count next (own (so_far old) k) ∷ []
  pub groups : new.groups.items ≡ old.groups.items ++ own_index (so_far old) k
  pub texts : string_bytes new.texts ≡ string_bytes old.texts ++ own_text k

abbrev pub with_next : ℕ → Node → Node
with_next next node = record node { next = next }

-- the same records, but that the one at an index has this for `next`
unfoldable pub with_end : ℕ → ℕ → List Node → List Node
with_end at next [] = []
with_end zero next (node ∷ nodes) = with_next next node ∷ nodes
with_end (suc at) next (node ∷ nodes) = node ∷ with_end at next nodes

-- The groups among these nodes and their names and values were added.
pub record AddsNames (old new : Records) (ks : List Kind) : Type 0 where
  pub groups : new.groups.items ≡ old.groups.items ++ group_indices (so_far old) ks
  pub texts : string_bytes new.texts ≡ string_bytes old.texts ++ all_text ks

-- The records of these nodes were added.
pub record Adds (old new : Records) (ks : List Kind) : Type 0 where
  pub nodes : new.nodes.items ≡ old.nodes.items ++ records (so_far old) ks
  pub names : AddsNames old new ks

-- The records of these nodes were added, and then the node at an index was ended.
pub record Finishes (old new : Records) (at : ℕ) (ks : List Kind) : Type 0 where
  pub nodes : new.nodes.items ≡ with_end at (length old.nodes.items + length ks) (old.nodes.items ++ records (so_far old) ks)
  pub names : AddsNames old new ks

-- Some of the nodes that come first were added: whatever finishes a node from the new records on with those that are left, finishes it from the old ones on with all.
pub record Shortens (old new : Records) (all left : List Kind) : Type 0 where
  pub on : (at : ℕ) (last : Records) → Finishes new last at left → Finishes old last at all

-- the nodes that a task adds
abbrev pub task_nodes : Task → List Kind
task_nodes task = all_nodes (in_order task.rest)

abbrev pub finishes : Task → Records → Records → Type 0
finishes task old new = Finishes old new task.of (task_nodes task)

abbrev pub task_weight : Task → ℕ
task_weight task = 1 + 2 * length (task_nodes task)
