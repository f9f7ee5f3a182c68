-- What tasks lead to, and how much is left of them.
use Rattle.std.proofs.Common.{◌≡◌, ap, sym, ◌∙◌, subst, ℕ, ◌+◌, ◌<◌, arith, List, [], ◌∷◌, ◌++◌, Option, Some, None, reverse}
use Rattle.std.specs.Prelude.{MatchOption}
use Rattle.std.specs.List.{sum_by}
use Rattle.std.proofs.lemmas.List.{reverse-append}
use Rattle.std.proofs.lemmas.List.Sums.{sum_by-append}
use Rattle.rx_tasks.specs.Tasks.{DoesAll, Leads, does_first, does_none, tasks_left}

pub popped : {T : Type 0} (task : Option T) (old new : List T) → MatchOption task ((old ≡ []) × (new ≡ [])) (λ last. old ≡ new ++ (last ∷ [])) → tasks_left task new ≡ reverse old
popped None old new none = sym (ap reverse none.0)
popped (Some last) old new cut = sym (ap reverse cut ∙ reverse-append new (last ∷ []))

pub pushed : {T : Type 0} (old new : List T) (task : T) → new ≡ old ++ (task ∷ []) → reverse new ≡ task ∷ reverse old
pushed old new task added = ap reverse added ∙ reverse-append old (task ∷ [])

module _ {S T : Type 0} {does : T → S → S → Type 0} where
  parted : (tasks : List T) {v w : S} {others : List T} → DoesAll does v (tasks ++ others) w → (m : S) × DoesAll does v tasks m × DoesAll does m others w
  parted [] {v} all = (v, does_none v, all)
  parted (task ∷ tasks) (does_first v _ m _ w one all) = let cut = parted tasks all in (cut.0, does_first v task m tasks cut.0 one cut.1, cut.2)

  lone : {v w : S} {task : T} → DoesAll does v (task ∷ []) w → does task v w
  lone (does_first _ _ _ _ _ one (does_none _)) = one

  -- before the first turn
  pub leads_first : (v : S) (first : T) (waiting : List T) → waiting ≡ [] → Leads does first v v (tasks_left (Some first) waiting)
  leads_first v first waiting none = subst (λ tasks. Leads does first v v (first ∷ reverse tasks)) (sym none) (record { on = λ w all. lone all })

  -- a turn
  pub leads_on : {start v m : S} {first task : T} (left : Option T) (waiting tasks after : List T) → left ≡ Some task → after ≡ tasks ++ reverse waiting →
      Leads does first start v (tasks_left left waiting) → Leads does task v m tasks → Leads does first start m after
  leads_on {start} {v} {m} {first} {task} left waiting tasks after is put so_far step =
      let before = subst (λ it. Leads does first start v (tasks_left it waiting)) is so_far in
      subst (λ all. Leads does first start m all) (sym put) (record {
        on = λ w all. let cut = parted tasks all in before.on w (does_first v task cut.0 (reverse waiting) w (step.on cut.0 cut.1) cut.2);
      })

  -- after the last turn
  pub leads_all : {start v : S} {first : T} (left : Option T) (waiting : List T) → left ≡ None → Leads does first start v (tasks_left left waiting) → does first start v
  leads_all {start} {v} {first} left waiting none so_far = (subst (λ it. Leads does first start v (tasks_left it waiting)) none so_far).on v (does_none v)

-- a turn makes less of what is left
pub lighter : {T : Type 0} (weight : T → ℕ) (left : Option T) (task : T) (waiting tasks after : List T) → left ≡ Some task → after ≡ tasks ++ reverse waiting →
    sum_by weight tasks < weight task → sum_by weight after < sum_by weight (tasks_left left waiting)
lighter weight left task waiting tasks after is put less =
    let now = ap (λ it. sum_by weight (tasks_left it waiting)) is in
    let first : sum_by weight (tasks_left (Some task) waiting) ≡ (0 + weight task) + sum_by weight (reverse waiting) = sum_by-append weight (task ∷ []) (reverse waiting) in
    let later = ap (sum_by weight) put ∙ sum_by-append weight tasks (reverse waiting) in
    omega arith

done_at : {S T : Type 0} {does : T → S → S → Type 0} {task : T} {u v w : S} → DoesAll does v [] w → does task u v → does task u w
done_at (does_none _) did = did

-- a task of which nothing is left
pub leads_done : {S T : Type 0} {does : T → S → S → Type 0} {task : T} {u v : S} → does task u v → Leads does task u v []
leads_done did = record { on = λ w all. done_at all did }
