-- Tasks write their tokens one after the other.
use Rattle.std.proofs.Common.{◌≡◌, List, Result, Ok, Err}
use Rattle.std.specs.Prelude.{IfOk}
use Rattle.json.specs.Token.{Token}
use Rattle.json.specs.Written.{Written}
use Rattle.rx_tasks.specs.declared.next.Next.{Next}
use Rattle.rx_tasks.specs.Tasks.{Leads, tasks_of}
use Rattle.rx_tasks.specs.Texts.{Goes, texts_of}
use Rattle.rx_tasks.proofs.Texts.{Composes, goes_none, goes_then, leads_written}
use Rattle.rx_json.specs.declared.tree.Task.{Task}
use Rattle.rx_json.specs.Tasks.{task_tokens, writes}
use Rattle.rx_json.proofs.Adding.{adds_nothing, adds_then}

composes : Composes writes
composes = record { joined = adds_then }

pub leads : {E : Type 0} (r : Result (Next Task) E) (task : Task) (v w : Written) (before : List Token) → task_tokens task ≡ before →
    IfOk r (λ next. Goes writes v w before (texts_of task_tokens next)) → IfOk r (λ next. Leads (λ it old new. writes old (task_tokens it) new) task v w (tasks_of next))
leads (Ok next) task v w before same goes = leads_written task_tokens task next composes (adds_nothing _) (goes_then composes (goes_none (adds_nothing _) same) goes)
leads (Err e) task v w before same goes = tt
