-- Where each node of a tree stands: in which node, and after which others.
use Rattle.std.specs.Prelude.{◌≡◌, Option, Some, None, List, [], ◌∷◌, ◌++◌}
use Rattle.rx_ast.specs.Kinds.{Kind, pattern, children}
use Rattle.rx_ast.specs.Forest.{Forest, nothing, tree}
use Rattle.rx_ast.specs.Tree.{Whole}
use Rattle.rx_lint.specs.Nodes.{trees}

-- A node, the node that it stands directly in (the pattern stands in none), and the nodes that stand there before it.
pub record Place : Type 0 where
  pub node : Kind
  pub parent : Option Kind
  pub before : List Kind

-- the places of nodes one after another that stand in `parent` after `before`, and of all nodes in them
abbrev pub places_in : Option Kind → List Kind → Forest Kind → List Place
places_in parent before nothing = []
places_in parent before (tree k inner after) = record { node = k; parent = parent; before = before } ∷ (places_in (Some k) [] inner ++ places_in parent (before ++ (k ∷ [])) after)

-- the places of all nodes of a pattern, in the order of the text: `places_are_in_order` of `laws` says that the nodes are those of `order`
abbrev pub places : Whole → List Place
places p = places_in None [] (trees (pattern p ∷ []))

-- A node that stands in another is the child of it that comes after `before`: `places_are_of_children` of `laws` says that each place is such.
abbrev pub IsChild : Place → Type 0
IsChild at = (parent : Kind) → at.parent ≡ Some parent → (after : List Kind) × (children parent ≡ at.before ++ (at.node ∷ after))

-- Only the pattern stands in no node.
abbrev pub IsRooted : Whole → Place → Type 0
IsRooted p at = at.parent ≡ None → at.node ≡ pattern p
