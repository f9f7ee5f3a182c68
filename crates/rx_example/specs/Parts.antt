-- What parts of a tree hold.
use Rattle.std.specs.Prelude.{ℕ, ◌+◌, ◌*◌, List, [], ◌∷◌, map}
use Rattle.rx_ast.specs.Size.{node_size, nodes_size, alternatives_size}
use Rattle.rx_ast.specs.Tree.{nodes, alternatives, mirror_term, mirror_alternative}
use Rattle.rx_model.specs.Trees.Names.{node_groups, nodes_groups, alternatives_groups}
use Rattle.rx_example.specs.declared.groups.Part.{Part}
use Rattle.rx_example.specs.declared.groups.Part.TheVariants as part

-- how many groups capture in a part
abbrev pub part_groups : Part → ℕ
part_groups (part.Alternatives as') = alternatives_groups (alternatives (map mirror_alternative as'.now))
part_groups (part.Terms ts) = nodes_groups (nodes (map mirror_term ts.now))
part_groups (part.Body t) = node_groups (mirror_term t.now)

-- More than what the part leaves to later turns has.
abbrev pub part_size : Part → ℕ
part_size (part.Alternatives as') = 1 + 2 * alternatives_size (alternatives (map mirror_alternative as'.now))
part_size (part.Terms ts) = 1 + 2 * nodes_size (nodes (map mirror_term ts.now))
part_size (part.Body t) = 1 + 2 * node_size (mirror_term t.now)

-- the same of all parts that wait
unfoldable pub waiting_groups : List Part → ℕ
waiting_groups [] = 0
waiting_groups (p ∷ ps) = part_groups p + waiting_groups ps

unfoldable pub waiting_size : List Part → ℕ
waiting_size [] = 0
waiting_size (p ∷ ps) = part_size p + waiting_size ps
