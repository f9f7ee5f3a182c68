-- How what is still to be written gets shorter, and that tasks write their texts.
use Rattle.std.proofs.Common.{◌≡◌, ap, sym, ◌∙◌, subst, List, [], ◌++◌, append_assoc, append-nil, Result, Ok, Err}
use Rattle.std.specs.Prelude.{IfOk}
use Rattle.rx_tasks.specs.declared.next.Next.{Next}
use Rattle.rx_tasks.specs.declared.next.Next.TheVariants.{Nothing, One, Two, Three}
use Rattle.rx_tasks.specs.Tasks.{DoesAll, Leads, does_first, does_none, tasks_of}
use Rattle.rx_tasks.specs.Texts.{Goes, texts_of}

-- One text after the other is written as both together.
pub record Composes {S X : Type 0} (writes : S → List X → S → Type 0) : Type 0 where
  pub joined : (u v w : S) (first second : List X) → writes u first v → writes v second w → writes u (first ++ second) w

module _ {S X : Type 0} {writes : S → List X → S → Type 0} where
  -- nothing was written
  pub goes_none : {v : S} {before after : List X} → writes v [] v → before ≡ after → Goes writes v v before after
  goes_none none same = record { front = []; cut = same; written = none }

  -- a text was written, and what is after it is still to be written
  pub goes_past : {v w : S} {before middle after : List X} (front : List X) → before ≡ front ++ middle → after ≡ middle → writes v front w → Goes writes v w before after
  goes_past front cut same written = record { front = front; cut = cut ∙ ap (λ text. front ++ text) (sym same); written = written }

  -- the same text, put in another way
  pub goes_to : {v w : S} {before middle after : List X} → Goes writes v w before middle → middle ≡ after → Goes writes v w before after
  goes_to a same = record { front = a.front; cut = a.cut ∙ ap (λ text. a.front ++ text) same; written = a.written }

  -- a text was written, and all is written with it
  pub goes_all : {v w : S} {before front : List X} → before ≡ front → writes v front w → Goes writes v w before []
  goes_all {front = front} same written = record { front = front; cut = same ∙ sym (append-nil front); written = written }

  -- one call after the other
  pub goes_then : {u v w : S} {first second third : List X} → Composes writes → Goes writes u v first second → Goes writes v w second third → Goes writes u w first third
  goes_then {u} {v} {w} {third = third} composes a b = record {
    front = a.front ++ b.front;
    cut = a.cut ∙ ap (λ text. a.front ++ text) b.cut ∙ sym (append_assoc a.front b.front third);
    written = composes.joined u v w a.front b.front a.written b.written;
  }

  -- with more after it
  pub goes_after : {v w : S} {before after : List X} (more : List X) → Goes writes v w before after → Goes writes v w (before ++ more) (after ++ more)
  goes_after {after = after} more a = record { front = a.front; cut = ap (λ text. text ++ more) a.cut ∙ append_assoc a.front after more; written = a.written }

  -- a last call, which answers what is still to be written
  pub goes_last : {T E : Type 0} (result : Result (Next T) E) (text : T → List X) {u v : S} (w : S) {before middle : List X} → Composes writes → Goes writes u v before middle →
      IfOk result (λ next. Goes writes v w middle (texts_of text next)) → IfOk result (λ next. Goes writes u w before (texts_of text next))
  goes_last (Ok tasks) text w composes a b = goes_then composes a b
  goes_last (Err e) text w composes a b = tt

  -- Tasks that each write a text write all of them.
  all_written : {T : Type 0} (text : T → List X) (tasks : Next T) {v w : S} → Composes writes → writes v [] v → DoesAll (λ task u v. writes u (text task) v) v (tasks_of tasks) w → writes v (texts_of text tasks) w
  all_written text Nothing composes none (does_none _) = none
  all_written text (One a) composes none (does_first _ _ _ _ _ one (does_none _)) = one
  all_written text (Two a b) composes none (does_first u _ v _ _ one (does_first _ _ w _ _ two (does_none _))) = composes.joined u v w (text a) (text b) one two
  all_written text (Three a b c) composes none (does_first u _ v _ _ one (does_first _ _ w _ _ two (does_first _ _ x _ _ three (does_none _)))) =
      composes.joined u v x (text a) (text b ++ text c) one (composes.joined v w x (text b) (text c) two three)

  pub leads_written : {T : Type 0} (text : T → List X) (task : T) (tasks : Next T) {v w : S} → Composes writes → writes w [] w → Goes writes v w (text task) (texts_of text tasks) → Leads (λ task u v. writes u (text task) v) task v w (tasks_of tasks)
  leads_written text task tasks {v} {w} composes none goes = record {
    on = λ x all. subst (λ it. writes v it x) (sym goes.cut) (composes.joined v w x goes.front (texts_of text tasks) goes.written (all_written text tasks composes none all));
  }
