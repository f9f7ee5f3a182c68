-- Nodes in nodes as plain data, each with a label: what is left of a tree where the types of its nodes do not matter.
use Rattle.std.specs.Prelude.{◌≡◌, ℕ, ◌+◌, ◌≤◌, List, [], ◌∷◌}
use Rattle.rx_base.specs.declared.span.Span.{Span}

-- nothing; or a node with its label, then the nodes in it, then the nodes after it
pub data Forest (L : Type 0) : Type 0 where
  nothing : Forest L
  tree : L → Forest L → Forest L → Forest L

-- the same nodes with other labels
abbrev pub relabel : {L M : Type 0} → (L → M) → Forest L → Forest M
relabel g nothing = nothing
relabel g (tree l inner after) = tree (g l) (relabel g inner) (relabel g after)

-- Each node ends no earlier than it begins, lies within the node that it stands in, and begins no earlier than the node before it ends; all lie from `low` to `high`.
abbrev pub IsNested : {L : Type 0} → (L → Span) → ℕ → ℕ → Forest L → Type 0
IsNested span low high nothing = low ≤ high
IsNested span low high (tree l inner after) = (low ≤ (span l).start) × IsNested span (span l).start (span l).end inner × IsNested span (span l).end high after

-- the labels of the nodes that stand in no other
abbrev pub roots : {L : Type 0} → Forest L → List L
roots nothing = []
roots (tree l inner after) = l ∷ roots after

-- the first of some nodes, where there is one, begins no earlier than `low`
abbrev pub BeginFrom : {L : Type 0} → (L → Span) → ℕ → List L → Type 0
BeginFrom span low [] = Unit {0}
BeginFrom span low (l ∷ ls) = low ≤ (span l).start

-- each node ends no later than the next one begins
abbrev pub AreApart : {L : Type 0} → (L → Span) → List L → Type 0
AreApart span [] = Unit {0}
AreApart span (l ∷ ls) = BeginFrom span (span l).end ls × AreApart span ls

-- each node lies within a span
abbrev pub AreWithin : {L : Type 0} → (L → Span) → Span → List L → Type 0
AreWithin span parent [] = Unit {0}
AreWithin span parent (l ∷ ls) = (parent.start ≤ (span l).start) × ((span l).end ≤ parent.end) × AreWithin span parent ls

-- A node ends no earlier than it begins, its children lie within it, and each child ends no later than the next one begins.
pub record IsParent {L : Type 0} (span : L → Span) (parent : L) (children : List L) : Type 0 where
  pub forward : (span parent).start ≤ (span parent).end
  pub within : AreWithin span (span parent) children
  pub apart : AreApart span children

-- the same of each node of a forest with its children
abbrev pub AreParents : {L : Type 0} → (L → Span) → Forest L → Type 0
AreParents span nothing = Unit {0}
AreParents span (tree l inner after) = IsParent span l (roots inner) × AreParents span inner × AreParents span after

-- the way to a node: it is the first one, or it is in the first one, or after the first one
pub data Path : Type 0 where
  here : Path
  inside : Path → Path
  onward : Path → Path

-- A path leads to a node with this label at this depth, where nodes that stand in no other have the depth `top`.
abbrev pub LeadsTo : {L : Type 0} → Path → ℕ → ℕ → L → Forest L → Type 0
LeadsTo path top depth l nothing = ⊥
LeadsTo here top depth l (tree m inner after) = (depth ≡ top) × (l ≡ m)
LeadsTo (inside path) top depth l (tree m inner after) = LeadsTo path (top + 1) depth l inner
LeadsTo (onward path) top depth l (tree m inner after) = LeadsTo path top depth l after
