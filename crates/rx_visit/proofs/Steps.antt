-- What the steps of a walk lead to.
use Rattle.std.proofs.Common.{◌≡◌, sym, subst, Bool, true, false, List, [], ◌∷◌}
use Rattle.rx_ast.specs.Kinds.{Kind, children}
use Rattle.rx_ast.specs.MirrorKinds.{mirror_kind}
use Rattle.rx_ast.specs.declared.ast_kind.RegExpAstKind.{RegExpAstKind}
use Rattle.rx_tasks.specs.Tasks as tasks
use Rattle.rx_tasks.specs.Tasks.{DoesAll, Leads}
use Rattle.rx_visit.specs.Siblings.{in_order}
use Rattle.rx_visit.specs.Steps.{Begins, does_step}
use Rattle.rx_visit.specs.Visits.{Visited, VisitedAll, descend, pass, none, next}
use Rattle.rx_visit.specs.declared.siblings.Siblings.{Siblings}
use Rattle.rx_visit.specs.declared.walk_in.Step.{Step}
use Rattle.rx_visit.specs.declared.walk_in.Step.TheVariants as to

module _ {V : Type 0} {entered : V → Kind → Bool → V → Type 0} {left : V → Kind → V → Type 0} where
  pub lone : {v w : V} (k : Kind) → VisitedAll entered left v (k ∷ []) w → Visited entered left v k w
  lone k (next _ _ _ _ _ visit (none _)) = visit

  visits_none : {v w : V} → DoesAll (does_step entered left) v [] w → VisitedAll entered left v [] w
  visits_none (tasks.does_none v) = none v

  -- no node is left
  pub begins_none : {v : V} (ks : List Kind) → ks ≡ [] → Begins entered left ks v v []
  begins_none {v} ks empty = subst (λ ks. Begins entered left ks v v []) (sym empty) (record { on = λ w all. visits_none all })

  after_one : {n w : V} (following : Siblings) → DoesAll (does_step entered left) n (to.Visit following ∷ []) w → VisitedAll entered left n (in_order following) w
  after_one following (tasks.does_first _ _ _ _ _ others (tasks.does_none _)) = others

  pub begins_passed : {v n : V} (m : V) (following : Siblings) {k : Kind} → entered v k false m → left m k n → Begins entered left (k ∷ in_order following) v n (to.Visit following ∷ [])
  begins_passed {v} {n} m following {k} enters leaves = record { on = λ w all. next v k n (in_order following) w (pass v k m n enters leaves) (after_one following all) }

  after_three : {v m w : V} (following within : Siblings) (node : RegExpAstKind) → in_order within ≡ children (mirror_kind node) → entered v (mirror_kind node) true m →
      DoesAll (does_step entered left) m (to.Visit within ∷ to.Leave node ∷ to.Visit following ∷ []) w → VisitedAll entered left v (mirror_kind node ∷ in_order following) w
  after_three {v} {m} {w} following within node in_it enters (tasks.does_first _ _ n _ _ inside (tasks.does_first _ _ p _ _ leaves (tasks.does_first _ _ _ _ _ others (tasks.does_none _)))) =
      next v (mirror_kind node) p (in_order following) w (descend v (mirror_kind node) m n p enters (subst (λ ks. VisitedAll entered left m ks n) in_it inside) leaves) others

  pub begins_entered : {v m : V} (following within : Siblings) (node : RegExpAstKind) → in_order within ≡ children (mirror_kind node) → entered v (mirror_kind node) true m →
      Begins entered left (mirror_kind node ∷ in_order following) v m (to.Visit within ∷ to.Leave node ∷ to.Visit following ∷ [])
  begins_entered following within node in_it enters = record { on = λ w all. after_three following within node in_it enters all }

  pub leads_begun : {v m : V} (s : Siblings) (steps : List Step) → Begins entered left (in_order s) v m steps → Leads (does_step entered left) (to.Visit s) v m steps
  leads_begun s steps begun = record { on = λ w all. begun.on w all }
