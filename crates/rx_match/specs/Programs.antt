-- What a run of a program comes to, and what a search comes to.
use Rattle.std.specs.Prelude.{◌≡◌, ℕ, ◌+◌, ◌<◌, false, Some, None, Result, Ok, Err, List, replicate}
use Rattle.rx_ast.specs.Tree.{Whole}
use Rattle.rx_trace.specs.declared.answer.MatchFault.{MatchFault}
use Rattle.rx_trace.specs.declared.answer.MatchFlags.{MatchFlags}
use Rattle.rx_trace.specs.declared.answer.Slot.TheVariants.{Unset}
use Rattle.rx_match.specs.declared.machine.Machine.{Machine}
use Rattle.rx_match.specs.declared.machine.Progress.{Progress}
use Rattle.rx_match.specs.declared.machine.Progress.TheVariants as progress
use Rattle.rx_match.specs.declared.searching.Outcome.{Outcome}
use Rattle.rx_program.specs.declared.step.Step.{Step}
use Rattle.rx_trace.specs.Traces.{Trace, cost, first}
use Rattle.rx_trace.specs.Answers.{IsAnswer, IsFirstOutcome, each_trace, pattern_trace}
use Rattle.rx_match.specs.Runs.{visible, code_run}
use Rattle.rx_program.specs.Steps.{code_at}
use Rattle.rx_match.specs.MachineSteps.{state_of}

-- the trace of a program from a place, forward, with all slots unset
abbrev pub trace_of : List ℕ → List Step → ℕ → ℕ → ℕ → Trace
trace_of input program entry groups start = visible (code_run input (code_at program entry) false (record { place = start; slots = replicate groups Unset }))

-- A run to the first state of a trace: what it came to, what it cost, and what is left of the budget.
abbrev pub IsRunFrom : Machine → Machine → Trace → Progress → Type 0
IsRunFrom old new t (progress.Continue n) = ⊥
IsRunFrom old new t progress.NoMatch = (first t ≡ None) × (old.budget ≡ cost t + new.budget) × (new.input ≡ old.input) × (new.program ≡ old.program)
IsRunFrom old new t progress.Match = (first t ≡ Some (state_of new)) × (old.budget ≡ cost t + new.budget)
IsRunFrom old new t progress.Spent = old.budget < cost t

-- The answer to a search over traces, and how many Ticks it took.
abbrev pub IsOutcome : (ℕ → Trace) → ℕ → ℕ → ℕ → Result Outcome MatchFault → Type 0
IsOutcome from more start budget (Ok it) = IsFirstOutcome from more start budget (Ok it.found) × (it.ticks ≡ cost (each_trace from more start))
IsOutcome from more start budget (Err fault) = IsFirstOutcome from more start budget (Err fault)

-- The answer to a search for a pattern, and how many Ticks it took.
abbrev pub IsOutcomeOf : MatchFlags → Whole → List ℕ → ℕ → ℕ → ℕ → Result Outcome MatchFault → Type 0
IsOutcomeOf flags tree input more start budget (Ok it) =
    IsAnswer flags tree input more start budget (Ok it.found) × (it.ticks ≡ cost (each_trace (pattern_trace flags tree input) more start))
IsOutcomeOf flags tree input more start budget (Err fault) = IsAnswer flags tree input more start budget (Err fault)
