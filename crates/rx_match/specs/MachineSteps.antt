-- What a machine still has to do, and that it did one thing of it.
use Rattle.std.specs.Prelude.{◌≡◌, ℕ, zero, suc, ◌+◌, ◌-◌, ◌≤◌, ◌<◌, Bool, true, false, if◌then◌else◌, Option, Some, None, List, [], ◌∷◌, ◌++◌, length, take}
use Rattle.rx_match.specs.declared.machine.Machine.{Machine}
use Rattle.rx_match.specs.declared.machine.Action.{Action}
use Rattle.rx_match.specs.declared.machine.Action.TheVariants as action
use Rattle.rx_match.specs.declared.machine.Progress.{Progress}
use Rattle.rx_match.specs.declared.machine.Progress.TheVariants as progress
use Rattle.rx_match.specs.declared.kinds.Repeated.{Repeated}
use Rattle.rx_match.specs.declared.turns.Repetition.{Repetition}
use Rattle.rx_match.specs.declared.entry.Backtrack.{Backtrack}
use Rattle.rx_match.specs.declared.entry.Backtrack.TheVariants as backtrack
use Rattle.rx_program.specs.declared.step.Step.{Step}
use Rattle.rx_program.specs.declared.step.Test.{Test}
use Rattle.rx_program.specs.declared.step.Turns.{Turns}
use Rattle.rx_match.specs.declared.entry.Pending.{Pending}
use Rattle.rx_trace.specs.Traces.{State, cost, first}
use Rattle.rx_trace.specs.Holding.{boundary_holds}
use Rattle.rx_match.specs.Kinds.{IsUnit}
use Rattle.rx_trace.specs.Repeats.{is_over}
use Rattle.rx_trace.specs.Groups.{unset_in, with_capture}
use Rattle.rx_trace.specs.Matching.{looks_back}
use Rattle.rx_match.specs.Runs.{Run, with_marks, paid_by, visible, silent, ticked, reaches, bind, look_around_run, run_onward, repetition_run, unit_to, slot_to, code_run, is_negative}
use Rattle.rx_program.specs.Codes.{Code, accept, reject, consume, assert, refer, enter_group, choose, sequence, capture, look_around, repeat}
use Rattle.rx_program.specs.Steps.{step_code, code_at}
use Rattle.rx_match.specs.Machines.{pending_continuation, continuations_at, turn_run, turns_run, continuation_run, code_then, stack_run}
use Rattle.rx_program.specs.Steps.{AreOrdered}
use Rattle.rx_match.specs.Sound.{AreStacked, ArePlaced, depth_in}

abbrev pub state_of : Machine → State
state_of m = record { place = m.place; slots = m.slots.items }

-- all that the machine still has to do, where it does this now
abbrev pub with_backtracking : Machine → Run → Run
with_backtracking m r = stack_run m.input.now m.program.now m.frames m.entries m.back m.slots.items r

-- what goes on where the body ends that the machine is in
abbrev pub continuation_of : Machine → State → Run
continuation_of m = continuation_run m.input.now m.back (continuations_at m.program.now m.frames m.head)

abbrev pub run_of : Machine → Code → Run
run_of m c = with_backtracking m (code_then m.input.now m.back c (continuations_at m.program.now m.frames m.head) (state_of m))

-- what a code does after its Tick
abbrev pub after_tick : List ℕ → Code → Bool → State → Run
after_tick input accept back s = []
after_tick input reject back s = []
after_tick input (consume holds next) back s = run_onward (unit_to input back holds s.place) s (code_run input next back)
after_tick input (assert kind multiline next) back s = if boundary_holds multiline input kind s.place then code_run input next back s else []
after_tick input (refer slot next) back s = run_onward (slot_to input back (slot s.slots) s.place) s (code_run input next back)
after_tick input (enter_group next) back s = code_run input next back s
after_tick input (choose first other) back s = []
after_tick input (sequence first second) back s = []
after_tick input (capture k body next) back s = bind (code_run input body back s) (λ w. silent ∷ code_run input next back (with_capture k s.place w))
after_tick input (look_around kind body next) back s = look_around_run (is_negative kind) (code_run input body (looks_back kind) s) s (code_run input next back)
after_tick input (repeat min max greedy from count body next) back s =
    repetition_run (code_run input body back) (code_run input next back) (unset_in from count) greedy (min + length input) min max s

abbrev pub run_after_tick : Machine → Step → Run
run_after_tick m step = with_backtracking m (bind (after_tick m.input.now (step_code step (code_at m.program.now)) m.back (state_of m)) (continuation_of m))

abbrev pub run_ahead : Machine → Action → Run
run_ahead m action.Step = run_of m (code_at m.program.now m.step)
run_ahead m action.Backtrack = with_backtracking m []
run_ahead m (action.Repeat i min max) = with_backtracking m (bind (turns_run m.input.now m.back min max (state_of m) (code_at m.program.now i)) (continuation_of m))
run_ahead m (action.BeginTurn i min max) = with_backtracking m (bind (turn_run m.input.now m.back min max (state_of m) (code_at m.program.now i)) (continuation_of m))

pub record IsSound (m : Machine) : Type 0 where
  pub ordered : AreOrdered m.program.now
  pub stacked : AreStacked m.frames
  pub head : m.head ≤ length m.frames
  pub placed : ArePlaced (length m.input.now) (length m.frames) m.entries
  pub depth : m.depth ≡ depth_in m.entries
  pub place : m.place ≤ length m.input.now

-- The step of this number repeats a body.
abbrev pub IsRepetitionAt : Machine → ℕ → Turns → ℕ → ℕ → Type 0
IsRepetitionAt m i t body next = code_at m.program.now i ≡ repeat t.min t.max t.greedy t.from t.count (code_at m.program.now body) (code_at m.program.now next)

-- The machine is sound, and this is a repetition of its program.
pub record HasRepetition (m : Machine) (it : Repetition) : Type 0 where
  pub sound : IsSound m
  pub step : IsRepetitionAt m it.repeat it.parts.turns it.parts.body it.parts.next

-- One more turn is allowed, and none is owed.
pub record IsFree (it : Repetition) : Type 0 where
  pub allowed : is_over it.max ≡ false
  pub not_owed : it.min ≡ 0

-- a machine before its last entry was taken out
abbrev pub with_entry : Machine → Backtrack → Machine
with_entry m e = record m { entries = m.entries ++ (e ∷ []) }

-- a machine that leaves a step for later, at so many places before a place
abbrev pub with_earlier : Machine → ℕ → ℕ → ℕ → Machine
with_earlier m p zero i = m
with_earlier m p (suc e) i = with_entry m (backtrack.Choice (p - 1) e i m.head (length m.frames))

-- a machine that came back to a place, with so many of its frames, of which `head` is the last that waits
abbrev pub return_machine : Machine → ℕ → ℕ → ℕ → Machine
return_machine m p head frames = record m { frames = take frames m.frames; place = p; head = head }

-- The body of a repetition is one unit, and the budget pays for a turn.
pub record IsOverUnit (m : Machine) (it : Repeated) (t : Test) : Type 0 where
  pub unit : IsUnit m.program.now it t
  pub payable : 0 < m.budget

-- Turns over units can be made at once: ahead, and greedily.
pub record IsOverUnits (m : Machine) (it : Repeated) (max : Option ℕ) (t : Test) : Type 0 where
  pub over_unit : IsOverUnit m it t
  pub ahead : m.back ≡ false
  pub greedy : it.turns.greedy ≡ true
  pub allowed : is_over max ≡ false

-- Frames are taken off that neither the machine nor its entries come back to.
pub record ForgetsFrames (old new : Machine) : Type 0 where
  pub kept : ℕ
  pub shape : new ≡ record old { frames = take kept old.frames }
  pub within : kept ≤ length old.frames
  pub head : old.head ≤ kept
  pub placed : ArePlaced (length old.input.now) kept old.entries

-- One frame more waits, above those that waited, and nothing else is changed.
pub record PushesFrame (old new : Machine) (w : Pending) : Type 0 where
  pub shape : new ≡ record old { frames = new.frames; head = new.head }
  pub chain : continuations_at old.program.now new.frames new.head ≡ pending_continuation old.program.now w ∷ continuations_at old.program.now old.frames old.head
  pub left : (r : Run) → stack_run old.input.now old.program.now new.frames old.entries old.back old.slots.items r ≡ with_backtracking old r
  pub stacked : AreStacked new.frames
  pub head : new.head ≤ length new.frames
  pub placed : ArePlaced (length old.input.now) (length new.frames) old.entries

-- No mark was taken: what was still to be done is the same run, said in another way.
pub record KeepsRun (old new : Machine) (r s : Run) : Type 0 where
  pub same : r ≡ s
  pub paid : old.budget ≡ new.budget
  pub input : new.input ≡ old.input
  pub program : new.program ≡ old.program
  pub sound : IsSound new

-- At least one mark was taken from the front of what was to be done: `ticks` says whether the first was a Tick, `more` whether those after it were.
pub record TakesMarks (old new : Machine) (r s : Run) : Type 0 where
  pub ticks : Bool
  pub more : List Bool
  pub cut : r ≡ with_marks (ticks ∷ more) s
  pub paid : old.budget ≡ paid_by (ticks ∷ more) new.budget
  pub input : new.input ≡ old.input
  pub program : new.program ≡ old.program
  pub sound : IsSound new

-- Marks were taken from the run of a repetition, or of a turn of one.
abbrev pub TakesRepetition : Machine → Machine → Repetition → Action → Type 0
TakesRepetition old new it now = TakesMarks old new (run_ahead old (action.Repeat it.repeat it.min it.max)) (run_ahead new now)

abbrev pub TakesTurn : Machine → Machine → Repetition → Action → Type 0
TakesTurn old new it now = TakesMarks old new (run_ahead old (action.BeginTurn it.repeat it.min it.max)) (run_ahead new now)

-- A slot was restored, and what was left for later is the same.
pub record KeepsBacktracking (old new : Machine) : Type 0 where
  pub same : with_backtracking old [] ≡ with_backtracking new []
  pub paid : old.budget ≡ new.budget
  pub input : new.input ≡ old.input
  pub program : new.program ≡ old.program
  pub sound : IsSound new

-- What was left for later is taken up, after its entry was taken out.
abbrev pub Resumes : Machine → Backtrack → Machine → Action → Type 0
Resumes old e new now = TakesMarks (with_entry old e) new (with_backtracking (with_entry old e) []) (run_ahead new now)

-- what is done with an entry that was taken out: only a slot is restored, or what was left for later is taken up
abbrev pub TakesUp : Machine → Backtrack → Machine → Option Action → Type 0
TakesUp old e new None = KeepsBacktracking (with_entry old e) new × (new.entries ≡ old.entries)
TakesUp old e new (Some now) = Resumes old e new now

-- What was to be done next was to reach a state, and the machine stands at it.
pub record ReachesState (old m : Machine) (r : Run) : Type 0 where
  pub rest : Run
  pub is : r ≡ reaches (state_of m) ∷ rest
  pub paid : old.budget ≡ m.budget

pub record HasNoMore (old m : Machine) (r : Run) : Type 0 where
  pub is : r ≡ []
  pub paid : old.budget ≡ m.budget
  pub input : m.input ≡ old.input
  pub program : m.program ≡ old.program

pub record IsSpent (m : Machine) (r : Run) : Type 0 where
  pub rest : Run
  pub is : r ≡ ticked ∷ rest
  pub none : m.budget ≡ 0

abbrev pub Progresses : Machine → Machine → Run → Progress → Type 0
Progresses old new r (progress.Continue n) = TakesMarks old new r (run_ahead new n)
Progresses old new r progress.NoMatch = HasNoMore old new r
Progresses old new r progress.Match = ReachesState old new r
Progresses old new r progress.Spent = IsSpent old r

-- A run of the machine: what it came to, what it cost, and what is left of the budget.
abbrev pub IsRun : Machine → Machine → Run → Progress → Type 0
IsRun old new r (progress.Continue n) = ⊥
IsRun old new r progress.NoMatch = (first (visible r) ≡ None) × (old.budget ≡ cost (visible r) + new.budget) × (new.input ≡ old.input) × (new.program ≡ old.program)
IsRun old new r progress.Match = (first (visible r) ≡ Some (state_of new)) × (old.budget ≡ cost (visible r) + new.budget)
IsRun old new r progress.Spent = old.budget < cost (visible r)
