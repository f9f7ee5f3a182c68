-- Tasks that write texts, or other lists.
use Rattle.std.specs.Prelude.{◌≡◌, List, [], ◌++◌}
use Rattle.rx_tasks.specs.declared.next.Next.{Next}
use Rattle.rx_tasks.specs.declared.next.Next.TheVariants.{Nothing, One, Two, Three}

-- the texts of the tasks, one after the other
abbrev pub texts_of : {T X : Type 0} → (T → List X) → Next T → List X
texts_of text Nothing = []
texts_of text (One first) = text first
texts_of text (Two first second) = text first ++ text second
texts_of text (Three first second third) = text first ++ (text second ++ text third)

-- A front of what was to be written was written, and the rest is what is still to be written. `writes` says that writing it leads from one state to another.
pub record Goes {S X : Type 0} (writes : S → List X → S → Type 0) (old new : S) (before after : List X) : Type 0 where
  pub front : List X
  pub cut : before ≡ front ++ after
  pub written : writes old front new
