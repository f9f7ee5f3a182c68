-- The edges that are still to come, by the steps that are left.
use Rattle.std.specs.Prelude.{ℕ, ◌+◌, ◌*◌, length, List, [], ◌∷◌, reverse}
use Rattle.std.specs.List.{flat_map, sum_by}
use Rattle.rx_ast.specs.Kinds.{order}
use Rattle.rx_visit.specs.Siblings.{in_order}
use Rattle.rx_paint.specs.declared.step.Step.{Step}
use Rattle.rx_paint.specs.declared.step.Step.TheVariants as steps
use Rattle.rx_ast.specs.Forest.{nothing}
use Rattle.rx_paint.specs.Paints.{token_forest_of_all}
use Rattle.rx_paint.specs.Edges.{Edge, edges}

-- the edges that a step comes to
abbrev pub step_edges : Step → List Edge
step_edges (steps.Turn at own) = (at, own) ∷ []
step_edges (steps.Visit siblings own) = edges own (token_forest_of_all (in_order siblings) nothing)

-- of steps, of which the last is taken first
unfoldable pub edges_to_come : List Step → List Edge
edges_to_come steps = flat_map step_edges (reverse steps)

-- a number that falls with each step
abbrev pub step_weight : Step → ℕ
step_weight (steps.Turn at own) = 1
step_weight (steps.Visit siblings own) = 1 + 7 * length (flat_map order (in_order siblings))

unfoldable pub weight : List Step → ℕ
weight steps = sum_by step_weight steps
