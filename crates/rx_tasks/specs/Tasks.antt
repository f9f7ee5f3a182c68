-- Tasks that are done one after the other.
use Rattle.std.specs.Prelude.{List, [], ◌∷◌, Option, Some, None, reverse}
use Rattle.rx_tasks.specs.declared.next.Next.{Next}
use Rattle.rx_tasks.specs.declared.next.Next.TheVariants.{Nothing, One, Two, Three}

abbrev pub tasks_of : {T : Type 0} → Next T → List T
tasks_of Nothing = []
tasks_of (One first) = first ∷ []
tasks_of (Two first second) = first ∷ second ∷ []
tasks_of (Three first second third) = first ∷ second ∷ third ∷ []

-- the task that is done now, and those that wait, the last of them first
abbrev pub tasks_left : {T : Type 0} → Option T → List T → List T
tasks_left None waiting = []
tasks_left (Some task) waiting = task ∷ reverse waiting

-- The tasks, one after the other, may lead from v to w. `does` is the relation of the trait `Work`.
pub data DoesAll {S T : Type 0} (does : T → S → S → Type 0) : S → List T → S → Type 0 where
  does_none : (v : S) → DoesAll does v [] v
  does_first : (v : S) (task : T) (m : S) (tasks : List T) (w : S) → does task v m → DoesAll does m tasks w → DoesAll does v (task ∷ tasks) w

-- Whatever state the tasks may lead to from the new state, the task may lead to from the old one.
pub record Leads {S T : Type 0} (does : T → S → S → Type 0) (task : T) (old new : S) (tasks : List T) : Type 0 where
  pub on : (w : S) → DoesAll does new tasks w → does task old w
