-- What the records of a tree are to who reads them.
use Rattle.std.specs.Prelude.{◌≡◌, ℕ, zero, suc, ◌+◌, ◌-◌, ◌<◌, ◌≤◌, List, [], ◌∷◌, Option, Some, None, is_some, length, map, take, drop, slice_get}
use Rattle.rx_ast.specs.Kinds.{Kind, capturing_group, property_escape, named_reference, children}
use Rattle.rx_kinds.specs.Inner.{node_of}
use Rattle.rx_records.specs.declared.node.Node.{Node}
use Rattle.rx_records.specs.declared.node.Range.{Range}
use Rattle.rx_records.specs.Nodes.{bytes_of, capturing_group_type}
use Rattle.rx_records.specs.Records.{nodes_of}

-- `next` of the record at an index
abbrev pub next_of : Option Node → ℕ
next_of None = 0
next_of (Some node) = node.next

abbrev pub next_at : List Node → ℕ → ℕ
next_at nodes at = next_of (slice_get nodes at)

-- Of so many steps from an index, each from a record to its `next`: where each begins, and where the last one leads.
abbrev pub stops : List Node → ℕ → ℕ → List ℕ
stops nodes zero at = []
stops nodes (suc count) at = at ∷ stops nodes count (next_at nodes at)

abbrev pub after_steps : List Node → ℕ → ℕ → ℕ
after_steps nodes zero at = at
after_steps nodes (suc count) at = after_steps nodes count (next_at nodes at)

-- Records of these nodes, one for each. The one at an index is of the node k: it leads to the nodes that stand directly in k, in their order. The first of them comes right after it, each other at the
-- `next` of the one before, and the last one's `next` is its own. All from it to before its `next` are k and what stands in k at any depth.
pub record IsLinked (ks : List Kind) (nodes : List Node) (at : ℕ) (node : Node) (k : Kind) : Type 0 where
  pub children_are : map (λ i. slice_get ks i) (stops nodes node.children (at + 1)) ≡ map (λ inner. Some (node_of inner)) (children k)
  pub after_children : after_steps nodes node.children (at + 1) ≡ node.next
  pub onward : at < node.next
  pub within : node.next ≤ length nodes
  pub all_in_it : take (node.next - at) (drop at ks) ≡ nodes_of k

-- the name of a node, if it has one
abbrev pub name_in : Kind → Option (List ℕ)
name_in (capturing_group s name d) = name
name_in (property_escape p) = Some p.name
name_in (named_reference r) = Some r.name
name_in _ = None

-- the value of a property, if it has one
abbrev pub value_in : Kind → Option (List ℕ)
value_in (property_escape p) = p.value
value_in _ = None

-- The range lies within the texts, and these bytes stand there.
pub record Holds (texts : List ℕ) (range : Range) (bytes : List ℕ) : Type 0 where
  pub forward : range.start ≤ range.end
  pub within : range.end ≤ length texts
  pub bytes_are : take (range.end - range.start) (drop range.start texts) ≡ bytes

-- The record tells the name of the node k and its value, where it has them.
pub record HasNames (texts : List ℕ) (node : Node) (k : Kind) : Type 0 where
  pub has_name : node.has_name ≡ is_some (name_in k)
  pub name : Holds texts node.name (bytes_of (name_in k))
  pub has_value : node.has_property_value ≡ is_some (value_in k)
  pub value : Holds texts node.property_value (bytes_of (value_in k))

-- At this index is the record of a capturing group with this number.
pub record IsGroup (nodes : List Node) (at number : ℕ) : Type 0 where
  pub node : Node
  pub here : slice_get nodes at ≡ Some node
  pub group : node.node_type ≡ capturing_group_type
  pub numbered : node.number ≡ number
