-- What the steps of a walk do, and a number that is more than those of the steps that each puts back.
use Rattle.std.specs.Prelude.{ℕ, ◌+◌, ◌*◌, Bool, List, length}
use Rattle.std.specs.List.{flat_map}
use Rattle.rx_ast.specs.Kinds.{Kind, order}
use Rattle.rx_ast.specs.MirrorKinds.{mirror_kind}
use Rattle.rx_tasks.specs.Tasks.{DoesAll}
use Rattle.rx_visit.specs.Siblings.{in_order}
use Rattle.rx_visit.specs.Visits.{VisitedAll}
use Rattle.rx_visit.specs.declared.walk_in.Step.{Step}
use Rattle.rx_visit.specs.declared.walk_in.Step.TheVariants as to

-- A visitor that stands at v may stand at w after the step. `entered` and `left` are those of the visitor.
abbrev pub does_step : {V : Type 0} → (V → Kind → Bool → V → Type 0) → (V → Kind → V → Type 0) → Step → V → V → Type 0
does_step entered left (to.Visit s) v w = VisitedAll entered left v (in_order s) w
does_step entered left (to.Leave node) v w = left v (mirror_kind node) w

-- The first of some nodes was visited, up to the steps that are left. Whatever state those may lead to, a visit of all the nodes may lead to.
pub record Begins {V : Type 0} (entered : V → Kind → Bool → V → Type 0) (left : V → Kind → V → Type 0) (ks : List Kind) (old new : V) (steps : List Step) : Type 0 where
  pub on : (w : V) → DoesAll (does_step entered left) new steps w → VisitedAll entered left old ks w

abbrev pub nodes_weight : List Kind → ℕ
nodes_weight ks = 1 + 3 * length (flat_map order ks)

abbrev pub step_weight : Step → ℕ
step_weight (to.Visit s) = nodes_weight (in_order s)
step_weight (to.Leave node) = 1
