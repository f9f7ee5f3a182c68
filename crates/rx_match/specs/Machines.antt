-- What a machine still has to do, from its program and its stacks.
use Rattle.std.specs.Prelude.{ℕ, zero, suc, ◌+◌, ◌-◌, Bool, ◌==◌, if◌then◌else◌, Option, List, [], ◌∷◌, ◌++◌, length, reverse, set}
use Rattle.rx_trace.specs.declared.answer.Slot.{Slot}
use Rattle.rx_program.specs.declared.step.Step.{Step}
use Rattle.rx_match.specs.declared.entry.Pending.{Pending}
use Rattle.rx_match.specs.declared.entry.Pending.TheVariants as pending
use Rattle.rx_match.specs.declared.entry.Frame.{Frame}
use Rattle.rx_match.specs.declared.entry.Backtrack.{Backtrack}
use Rattle.rx_match.specs.declared.entry.Backtrack.TheVariants as backtrack
use Rattle.rx_trace.specs.Traces.{State}
use Rattle.rx_trace.specs.Repeats.{one_less}
use Rattle.rx_trace.specs.Groups.{unset_in, with_capture}
use Rattle.rx_match.specs.Runs.{Run, silent, reaches, bind, look_around_run, turn_end_run, repetition_run, code_run, is_negative}
use Rattle.rx_program.specs.Codes.{Code, accept, reject, consume, assert, refer, enter_group, choose, sequence, capture, look_around, repeat}
use Rattle.rx_program.specs.Steps.{code_at}

pub data Continuation : Type 0 where
  close_group : ℕ → ℕ → Code → Continuation
  resume_at : Code → Continuation
  end_turn : ℕ → Option ℕ → ℕ → Code → Continuation

-- a run that is made of the parts of a repetition
abbrev pub of_repetition : (ℕ → Option ℕ → Bool → ℕ → ℕ → Code → Code → Run) → Code → Run
of_repetition f accept = silent ∷ []
of_repetition f reject = silent ∷ []
of_repetition f (consume holds next) = silent ∷ []
of_repetition f (assert kind multiline next) = silent ∷ []
of_repetition f (refer k next) = silent ∷ []
of_repetition f (enter_group next) = silent ∷ []
of_repetition f (choose first other) = silent ∷ []
of_repetition f (sequence first second) = silent ∷ []
of_repetition f (capture k body next) = silent ∷ []
of_repetition f (look_around kind body next) = silent ∷ []
of_repetition f (repeat min max greedy from count body next) = f min max greedy from count body next

abbrev pub pending_continuation : List Step → Pending → Continuation
pending_continuation steps (pending.CloseGroup k start next') = close_group k start (code_at steps next')
pending_continuation steps (pending.Next next') = resume_at (code_at steps next')
pending_continuation steps (pending.EndTurn min max start repeat') = end_turn min max start (code_at steps repeat')

-- what waits below a frame's number, in frames from the last to the first
abbrev pub continuations_in : List Step → List Frame → ℕ → List Continuation
continuations_in steps [] h = []
continuations_in steps (f ∷ before) h = if h == suc (length before) then pending_continuation steps f.pending ∷ continuations_in steps before f.below else continuations_in steps before h

unfoldable pub continuations_at : List Step → List Frame → ℕ → List Continuation
continuations_at steps frames h = continuations_in steps (reverse frames) h

-- what is done at a place, and then at so many places before it
abbrev pub choices_run : (ℕ → Run) → ℕ → ℕ → Run
choices_run f zero p = silent ∷ f p
choices_run f (suc earlier) p = (silent ∷ f p) ++ choices_run f earlier (p - 1)

module _ (input : List ℕ) where
  -- a turn of a repetition from a state, and more where they are allowed
  abbrev pub turn_run : Bool → ℕ → Option ℕ → State → Code → Run
  turn_run back min max s = of_repetition (λ min' max' greedy from count body rest.
      silent ∷ bind (code_run input body back (unset_in from count s)) (turn_end_run min s.place (λ w. repetition_run (code_run input body back) (code_run input rest back) (unset_in from count) greedy (min - 1 + length input) (min - 1) (one_less max) w)))

  -- a repetition from a state
  abbrev pub turns_run : Bool → ℕ → Option ℕ → State → Code → Run
  turns_run back min max s = of_repetition (λ min' max' greedy from count body rest.
      repetition_run (code_run input body back) (code_run input rest back) (unset_in from count) greedy (min + length input) min max s)

  -- what follows a turn that began at a place
  abbrev pub ended_turn_run : Bool → ℕ → Option ℕ → ℕ → State → Code → Run
  ended_turn_run back min max p w c = turn_end_run min p (λ v. turns_run back (min - 1) (one_less max) v c) w

  abbrev pub continuation_run : Bool → List Continuation → State → Run
  continuation_run back [] s = reaches s ∷ []
  continuation_run back (close_group k p c ∷ ks) s = silent ∷ bind (code_run input c back (with_capture k p s)) (continuation_run back ks)
  continuation_run back (resume_at c ∷ ks) s = silent ∷ bind (code_run input c back s) (continuation_run back ks)
  continuation_run back (end_turn min max p c ∷ ks) s = bind (ended_turn_run back min max p s c) (continuation_run back ks)

  abbrev pub code_then : Bool → Code → List Continuation → State → Run
  code_then back c ks s = bind (code_run input c back s) (continuation_run back ks)

  -- All that a machine still has to do: first the run `now`, then what it has left for later, from the last entry to the first.
  abbrev pub stack_run_of : List Step → List Frame → List Backtrack → Bool → List Slot → Run → Run
  stack_run_of steps frames [] back slots now = now
  stack_run_of steps frames (backtrack.Choice p e i h fs ∷ more) back slots now =
      stack_run_of steps frames more back slots (now ++ choices_run (λ q. code_then back (code_at steps i) (continuations_at steps frames h) (record { place = q; slots = slots })) e p)
  stack_run_of steps frames (backtrack.Turn p i min max h fs ∷ more) back slots now =
      stack_run_of steps frames more back slots (now ++ (silent ∷ bind (turn_run back min max (record { place = p; slots = slots }) (code_at steps i)) (continuation_run back (continuations_at steps frames h))))
  stack_run_of steps frames (backtrack.RestoreSlot k old fs row ∷ more) back slots now = stack_run_of steps frames more back (set slots k old) now
  stack_run_of steps frames (backtrack.LookAround p kind i h fs outer_back ∷ more) back slots now =
      stack_run_of steps frames more outer_back slots (look_around_run (is_negative kind) now (record { place = p; slots = slots }) (code_then outer_back (code_at steps i) (continuations_at steps frames h)))

  unfoldable pub stack_run : List Step → List Frame → List Backtrack → Bool → List Slot → Run → Run
  stack_run steps frames entries back slots now = stack_run_of steps frames (reverse entries) back slots now
