-- One step of a program.
use Rattle.std.proofs.Common.{◌≡◌, ◌≢◌, refl, ap, sym, ◌∙◌, subst, ℕ, suc, ◌+◌, ◌-◌, ◌≤◌, ◌<◌, Bool, true, false, if◌then◌else◌, Option, Some, None, List, [], ◌∷◌, length, arith}
use Rattle.std.specs.Prelude.{slice_get}
use Rattle.std.proofs.lemmas.Bool.{false≢true}
use Rattle.rx_match.specs.declared.kinds.Repeated.{Repeated}
use Rattle.rx_match.specs.declared.machine.Machine.{Machine}
use Rattle.rx_match.specs.declared.machine.Action.TheVariants as action
use Rattle.rx_program.specs.declared.step.Step.{Step}
use Rattle.rx_program.specs.declared.step.Step.TheVariants as step
use Rattle.std.specs.Prelude.{IfSome}
use Rattle.rx_trace.specs.declared.answer.Slot.{Slot}
use Rattle.rx_program.specs.declared.step.Turns.{Turns}
use Rattle.rx_trace.specs.Traces.{State, cost, first}
use Rattle.rx_match.specs.Runs.{Run, visible, with_marks, paid_by, slot_to, silent, ticked, bind, code_run}
use Rattle.rx_program.specs.Codes.{Code, reject}
use Rattle.rx_match.specs.Kinds.{repetition_in, repetition_of, ticks_in}
use Rattle.rx_program.specs.Steps.{step_code, code_in, code_at}
use Rattle.rx_match.specs.Machines.{turns_run, of_repetition}
use Rattle.rx_match.specs.MachineSteps.{state_of, with_backtracking, continuation_of, run_of, after_tick, run_after_tick, run_ahead, IsSound, IsRepetitionAt, KeepsRun, TakesMarks, IsSpent}
use Rattle.rx_program.proofs.Programs.{code_is, read_of, read_is}
use Rattle.rx_match.proofs.Moving.{MovesTo, slot-moves}
use Rattle.rx_match.proofs.EnoughTurns.{inside}
use Rattle.rx_match.proofs.StackRuns.{stack_run-silent, stack_run-ticked}

-- a step that ticks
ticks_first : (x : Step) (input : List ℕ) (f : ℕ → Code) (back : Bool) (st : State) → ticks_in x ≡ true → code_run input (step_code x f) back st ≡ ticked ∷ after_tick input (step_code x f) back st
ticks_first step.Accept input f back st is = absurd (false≢true is)
ticks_first step.Reject input f back st is = absurd (false≢true is)
ticks_first (step.Consume t next) input f back st is = refl
ticks_first (step.Assert kind multiline next) input f back st is = refl
ticks_first (step.Refer number next) input f back st is = refl
ticks_first (step.ReferByName numbers next) input f back st is = refl
ticks_first (step.EnterGroup next) input f back st is = refl
ticks_first (step.Choose first other) input f back st is = absurd (false≢true is)
ticks_first (step.Sequence first second) input f back st is = absurd (false≢true is)
ticks_first (step.Capture g body next) input f back st is = refl
ticks_first (step.LookAround kind body next) input f back st is = refl
ticks_first (step.Repeat t b n) input f back st is = refl

pub steps_to : (m : Machine) (x : Step) → IsSound m → slice_get m.program.now m.step ≡ Some x → run_ahead m action.Step ≡ run_of m (step_code x (code_at m.program.now))
steps_to m x sound is = ap (λ c. run_of m c) (code_is m.program.now m.step x sound.ordered is)

pub ticks : (m : Machine) (x : Step) → IsSound m → slice_get m.program.now m.step ≡ Some x → ticks_in x ≡ true → run_ahead m action.Step ≡ ticked ∷ run_after_tick m x
ticks m x sound is tick =
    steps_to m x sound is
    ∙ ap (λ r. with_backtracking m (bind r (continuation_of m))) (ticks_first x m.input.now (code_at m.program.now) m.back (state_of m) tick)
    ∙ stack_run-ticked m.input.now m.program.now m.frames m.entries m.back m.slots.items (bind (after_tick m.input.now (step_code x (code_at m.program.now)) m.back (state_of m)) (continuation_of m))

pub spent : (m : Machine) (x : Step) → IsSound m → slice_get m.program.now m.step ≡ Some x → ticks_in x ≡ true → m.budget ≡ 0 → IsSpent m (run_ahead m action.Step)
spent m x sound is tick none = record { rest = run_after_tick m x; is = ticks m x sound is tick; none = none }

-- a Tick is paid
pub takes_tick : (m new : Machine) (x : Step) (budget : ℕ) (r : Run) → IsSound m → slice_get m.program.now m.step ≡ Some x → ticks_in x ≡ true → m.budget ≡ suc budget → KeepsRun (record m { budget = budget }) new (run_after_tick m x) r → TakesMarks m new (run_ahead m action.Step) r
takes_tick m new x budget r sound is tick pays keeps = record {
  ticks = true;
  more = [];
  cut = ticks m x sound is tick ∙ ap (λ r. ticked ∷ r) keeps.same;
  paid = pays ∙ ap (λ k. suc k) keeps.paid;
  input = keeps.input;
  program = keeps.program;
  sound = keeps.sound;
}

-- nowhere to go
past_program : (r : List Step) (i : ℕ) → read_of r i ≡ None → code_in r i ≡ reject
past_program [] i is = refl
past_program (x ∷ before) i is = by_test (Rattle.std.specs.Prelude.nat_eq i (length before)) (past_program before i) is
  where
    by_test : (b : Bool) → (read_of before i ≡ None → code_in before i ≡ reject) → (if b then Some x else read_of before i) ≡ None → (if b then step_code x (code_in before) else code_in before i) ≡ reject
    by_test true rest is = absurd (cc)
    by_test false rest is = rest is

pub past_is : (steps : List Step) (i : ℕ) → slice_get steps i ≡ None → code_at steps i ≡ reject
unfolding code_at
past_is steps i is = past_program (Rattle.std.proofs.Common.reverse steps) i (sym (read_is steps i) ∙ is)

-- nothing is to be done but to mark it, and then what is left
takes_nothing : (m : Machine) (r : Run) → IsSound m → r ≡ with_backtracking m (silent ∷ []) → TakesMarks m m r (run_ahead m action.Backtrack)
takes_nothing m r sound is = record {
  ticks = false;
  more = [];
  cut = is ∙ stack_run-silent m.input.now m.program.now m.frames m.entries m.back m.slots.items [];
  paid = refl;
  input = refl;
  program = refl;
  sound = sound;
}

pub takes_reject : (m : Machine) → IsSound m → run_ahead m action.Step ≡ run_of m reject → TakesMarks m m (run_ahead m action.Step) (run_ahead m action.Backtrack)
takes_reject m sound is = takes_nothing m (run_ahead m action.Step) sound is

-- a repetition that a program has
pub repeats_at : (m : Machine) (i : ℕ) (x : Step) (it : Repeated) → IsSound m → slice_get m.program.now i ≡ Some x → Some it ≡ repetition_in x → IsRepetitionAt m i it.turns it.body it.next
repeats_at m i x it sound is repeats = code_is m.program.now i x sound.ordered is ∙ by_step x it repeats
  where
    by_step : (x : Step) (it : Repeated) → Some it ≡ repetition_in x → step_code x (code_at m.program.now) ≡ step_code (step.Repeat it.turns it.body it.next) (code_at m.program.now)
    by_step step.Accept it e = absurd (cc)
    by_step step.Reject it e = absurd (cc)
    by_step (step.Consume t next) it e = absurd (cc)
    by_step (step.Assert kind multiline next) it e = absurd (cc)
    by_step (step.Refer number next) it e = absurd (cc)
    by_step (step.ReferByName numbers next) it e = absurd (cc)
    by_step (step.EnterGroup next) it e = absurd (cc)
    by_step (step.Choose first other) it e = absurd (cc)
    by_step (step.Sequence first second) it e = absurd (cc)
    by_step (step.Capture g body next) it e = absurd (cc)
    by_step (step.LookAround kind body next) it e = absurd (cc)
    by_step (step.Repeat t b n) it e = ap (λ r. step_code (step.Repeat r.turns r.body r.next) (code_at m.program.now)) (some-is e)
      where
        some-is : Some it ≡ Some (record { turns = t; body = b; next = n }) → record { turns = t; body = b; next = n } ≡ it
        some-is e = cc

-- where a program has none, nothing is done
times_none : (x : Step) (g : ℕ → Code) (f : ℕ → Option ℕ → Bool → ℕ → ℕ → Code → Code → Run) → None ≡ repetition_in x → of_repetition f (step_code x g) ≡ silent ∷ []
times_none step.Accept g f e = refl
times_none step.Reject g f e = refl
times_none (step.Consume t next) g f e = refl
times_none (step.Assert kind multiline next) g f e = refl
times_none (step.Refer number next) g f e = refl
times_none (step.ReferByName numbers next) g f e = refl
times_none (step.EnterGroup next) g f e = refl
times_none (step.Choose first other) g f e = refl
times_none (step.Sequence first second) g f e = refl
times_none (step.Capture k body next) g f e = refl
times_none (step.LookAround kind body next) g f e = refl
times_none (step.Repeat t b n) g f e = absurd (cc)

pub no_repeat_step : (m : Machine) (i : ℕ) (x : Step) → IsSound m → slice_get m.program.now i ≡ Some x → None ≡ repetition_in x → (f : ℕ → Option ℕ → Bool → ℕ → ℕ → Code → Code → Run) → of_repetition f (code_at m.program.now i) ≡ silent ∷ []
no_repeat_step m i x sound is none f = ap (λ c. of_repetition f c) (code_is m.program.now i x sound.ordered is) ∙ times_none x (code_at m.program.now) f none

pub no_repeat_past : (m : Machine) (i : ℕ) → slice_get m.program.now i ≡ None → (f : ℕ → Option ℕ → Bool → ℕ → ℕ → Code → Code → Run) → of_repetition f (code_at m.program.now i) ≡ silent ∷ []
no_repeat_past m i is f = ap (λ c. of_repetition f c) (past_is m.program.now i is)

-- by what a program has at a number
pub repeats_of : (m : Machine) (i : ℕ) (it : Repeated) → IsSound m → repetition_of (slice_get m.program.now i) ≡ Some it → IsRepetitionAt m i it.turns it.body it.next
repeats_of m i it sound is = by_step (slice_get m.program.now i) refl is
  where
    by_step : (o : Option Step) → slice_get m.program.now i ≡ o → repetition_of o ≡ Some it → IsRepetitionAt m i it.turns it.body it.next
    by_step None at is = absurd (cc)
    by_step (Some x) at is = repeats_at m i x it sound at (sym is)

pub no_repeat_of : (m : Machine) (i : ℕ) → IsSound m → repetition_of (slice_get m.program.now i) ≡ None → (f : ℕ → Option ℕ → Bool → ℕ → ℕ → Code → Code → Run) → of_repetition f (code_at m.program.now i) ≡ silent ∷ []
no_repeat_of m i sound is = by_step (slice_get m.program.now i) refl is
  where
    by_step : (o : Option Step) → slice_get m.program.now i ≡ o → repetition_of o ≡ None → (f : ℕ → Option ℕ → Bool → ℕ → ℕ → Code → Code → Run) → of_repetition f (code_at m.program.now i) ≡ silent ∷ []
    by_step None at is = no_repeat_past m i at
    by_step (Some x) at is = no_repeat_step m i x sound at (sym is)

pub takes_no_repeat : (m : Machine) (i min : ℕ) (max : Option ℕ) → IsSound m → ((f : ℕ → Option ℕ → Bool → ℕ → ℕ → Code → Code → Run) → of_repetition f (code_at m.program.now i) ≡ silent ∷ []) → TakesMarks m m (run_ahead m (action.Repeat i min max)) (run_ahead m action.Backtrack)
takes_no_repeat m i min max sound none = takes_nothing m (run_ahead m (action.Repeat i min max)) sound (ap (λ r. with_backtracking m (bind r (continuation_of m))) (none _))

pub takes_no_begin : (m : Machine) (i min : ℕ) (max : Option ℕ) → IsSound m → ((f : ℕ → Option ℕ → Bool → ℕ → ℕ → Code → Code → Run) → of_repetition f (code_at m.program.now i) ≡ silent ∷ []) → TakesMarks m m (run_ahead m (action.BeginTurn i min max)) (run_ahead m action.Backtrack)
takes_no_begin m i min max sound none = takes_nothing m (run_ahead m (action.BeginTurn i min max)) sound (ap (λ r. with_backtracking m (bind r (continuation_of m))) (none _))

-- a slot leads to a place of the input
pub slot_within : (input : List ℕ) (back : Bool) (sl : Slot) (p : ℕ) (o : Option ℕ) → p ≤ length input → o ≡ slot_to input back sl p → IfSome o (λ q. q ≤ length input)
slot_within input back sl p o within is = subst (λ o. IfSome o (λ q. q ≤ length input)) (sym is) (by_option (slot_to input back sl p) (slot-moves input back sl p within))
  where
    by_option : (o : Option ℕ) → MovesTo input back p o → IfSome o (λ q. q ≤ length input)
    by_option None moves = tt
    by_option (Some q) moves = inside (length input) back p q moves

pub keeps_repeat : (m : Machine) (t : Turns) (body next : ℕ) (x : Step) → IsSound m → slice_get m.program.now m.step ≡ Some x → x ≡ step.Repeat t body next
    → KeepsRun m m (run_after_tick m x) (run_ahead m (action.Repeat m.step t.min t.max))
keeps_repeat m t body next x sound at is =
    let code = code_is m.program.now m.step x sound.ordered at ∙ ap (λ x. step_code x (code_at m.program.now)) is in
    record {
      same = ap (λ x. run_after_tick m x) is ∙ ap (λ c. with_backtracking m (bind (turns_run m.input.now m.back t.min t.max (state_of m) c) (continuation_of m))) (sym code);
      paid = refl;
      input = refl;
      program = refl;
      sound = sound;
    }

-- While a machine runs: what it did cost what is gone of the budget, and did not reach a state.
pub record HasRun (old m : Machine) (r s : Run) : Type 0 where
  pub costs : old.budget + cost (visible s) ≡ cost (visible r) + m.budget
  pub firsts : first (visible r) ≡ first (visible s)
  pub input : m.input ≡ old.input
  pub program : m.program ≡ old.program
  pub sound : IsSound m

marked_cost : (ticks : List Bool) (r : Run) (budget : ℕ) → paid_by ticks budget + cost (visible r) ≡ cost (visible (with_marks ticks r)) + budget
marked_cost [] r budget = omega arith
marked_cost (true ∷ ticks) r budget = let e = marked_cost ticks r budget in omega arith
marked_cost (false ∷ ticks) r budget = marked_cost ticks r budget

marked_first : (ticks : List Bool) (r : Run) → first (visible (with_marks ticks r)) ≡ first (visible r)
marked_first [] r = refl
marked_first (true ∷ ticks) r = marked_first ticks r
marked_first (false ∷ ticks) r = marked_first ticks r

marked_length : (ticks : List Bool) (r : Run) → length (with_marks ticks r) ≡ length ticks + length r
marked_length [] r = omega arith
marked_length (true ∷ ticks) r = let e = marked_length ticks r in omega arith
marked_length (false ∷ ticks) r = let e = marked_length ticks r in omega arith

pub has_run_on : (old m new : Machine) (r a b : Run) → HasRun old m r a → TakesMarks m new a b → HasRun old new r b
has_run_on old m new r a b has_run takes =
    let e = ap (λ r. cost (visible r)) takes.cut in
    let f = marked_cost (takes.ticks ∷ takes.more) b new.budget in
    let c = has_run.costs in
    let p = takes.paid in
    record {
      costs = omega arith;
      firsts = has_run.firsts ∙ ap (λ r. first (visible r)) takes.cut ∙ marked_first (takes.ticks ∷ takes.more) b;
      input = takes.input ∙ has_run.input;
      program = takes.program ∙ has_run.program;
      sound = takes.sound;
    }

pub shorter : (m new : Machine) (a b : Run) → TakesMarks m new a b → length b < length a
shorter m new a b takes =
    let e = ap length takes.cut in
    let f = marked_length (takes.ticks ∷ takes.more) b in
    omega arith
