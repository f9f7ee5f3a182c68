-- The tokens of a tree in the order in which tasks write them.
use Rattle.std.specs.Prelude.{ℕ, ◌+◌, ◌*◌, List, [], ◌++◌, length}
use Rattle.std.specs.List.{flat_map}
use Rattle.json.specs.Token.{Token}
use Rattle.json.specs.Tree.{json_tokens}
use Rattle.json.specs.Written.{Written}
use Rattle.rx_base.specs.declared.span.Span.{Span}
use Rattle.rx_ast.specs.Kinds.{Kind, class_range, children, order}
use Rattle.rx_ast.specs.MirrorKinds.{mirror_kind}
use Rattle.rx_visit.specs.Siblings.{in_order}
use Rattle.rx_json.specs.declared.tree.Left.{Left}
use Rattle.rx_json.specs.declared.tree.Left.TheVariants.{Node, Rest}
use Rattle.rx_json.specs.declared.tree.Task.{Task}
use Rattle.rx_json.specs.Adding.{Adds}
use Rattle.rx_json.specs.Located.{located}
use Rattle.rx_json.specs.Openings.{closing}
use Rattle.rx_json.specs.Trees.{tree_json}
use Rattle.rx_json.specs.Values.{Field}

abbrev pub writes : Written → List Token → Written → Type 0
writes old ts new = Adds old new ts

-- the nodes in a node that are written after what it begins with: the characters of a range are written with it
abbrev pub inner : Kind → List Kind
inner (class_range r) = []
inner k = children k

-- the tokens of nodes one after another
abbrev pub tree_tokens : (Span → List Field) → List Kind → List Token
tree_tokens place ks = flat_map (λ k. json_tokens (tree_json place k)) ks

abbrev pub left_tokens : (Span → List Field) → Left → List Token
left_tokens place (Node node) = json_tokens (tree_json place (mirror_kind node))
left_tokens place (Rest nodes close) = tree_tokens place (in_order nodes) ++ closing close

abbrev pub task_tokens : Task → List Token
task_tokens task = left_tokens (located task.places.now) task.left

-- how many nodes there are, at any depth
abbrev pub count : List Kind → ℕ
count ks = length (flat_map order ks)

abbrev pub left_weight : Left → ℕ
left_weight (Node node) = 2 + 3 * count (children (mirror_kind node))
left_weight (Rest nodes close) = 1 + 3 * count (in_order nodes)

abbrev pub task_weight : Task → ℕ
task_weight task = left_weight task.left
