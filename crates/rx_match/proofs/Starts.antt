-- Where a machine starts.
use Rattle.std.proofs.Common.{◌≡◌, ap, sym, ◌∙◌, subst, ℕ, ◌+◌, ◌≤◌, List, [], length, arith}
use Rattle.std.specs.Prelude.{replicate}
use Rattle.rx_trace.specs.declared.answer.Slot.TheVariants.{Unset}
use Rattle.rx_match.specs.declared.machine.Machine.{Machine}
use Rattle.rx_program.specs.declared.step.Step.{Step}
use Rattle.rx_match.specs.declared.machine.Action.TheVariants as action
use Rattle.rx_match.specs.declared.machine.Progress.{Progress}
use Rattle.rx_match.specs.declared.machine.Progress.TheVariants as progress
use Rattle.rx_trace.specs.Traces.{Trace, first, cost}
use Rattle.rx_match.specs.Runs.{Run, visible, bind, code_run}
use Rattle.rx_program.specs.Steps.{code_at}
use Rattle.rx_match.specs.Machines.{continuations_at, continuation_run}
use Rattle.rx_program.specs.Steps.{AreOrdered}
use Rattle.rx_match.specs.Sound.{AreStacked, ArePlaced, depth_in}
use Rattle.rx_match.specs.MachineSteps.{state_of, run_ahead, IsSound, IsRun}
use Rattle.rx_match.specs.Programs.{trace_of, IsRunFrom}
use Rattle.rx_match.proofs.Runs.{bind-reaches}
use Rattle.rx_match.proofs.Frames.{frames-none}
use Rattle.rx_match.proofs.StackRuns.{stack_run-nil}
use Rattle.rx_match.proofs.Entries.{depth-none}

pub sound_start : (m : Machine) → AreOrdered m.program.now → m.place ≤ length m.input.now → m.frames ≡ [] → m.entries ≡ [] → m.head ≡ 0 → m.depth ≡ 0 → IsSound m
unfolding AreStacked ArePlaced
sound_start m ordered within frames entries head depth = record {
  ordered = ordered;
  stacked = subst AreStacked (sym frames) tt;
  head = omega arith;
  placed = subst (ArePlaced (length m.input.now) (length m.frames)) (sym entries) tt;
  depth = depth ∙ sym (ap depth_in entries ∙ depth-none);
  place = within;
}

pub start_is : (m : Machine) (groups : ℕ) → m.entries ≡ [] → m.head ≡ 0 → m.slots.items ≡ replicate groups Unset
    → run_ahead m action.Step ≡ code_run m.input.now (code_at m.program.now m.step) m.back (record { place = m.place; slots = replicate groups Unset })
start_is m groups entries head slots =
    let a = code_run m.input.now (code_at m.program.now m.step) m.back (state_of m) in
    let r : ℕ → Run = λ h. bind a (continuation_run m.input.now m.back (continuations_at m.program.now m.frames h)) in
    ap (λ e. Rattle.rx_match.specs.Machines.stack_run m.input.now m.program.now m.frames e m.back m.slots.items (r m.head)) entries
    ∙ stack_run-nil m.input.now m.program.now m.frames m.back m.slots.items (r m.head)
    ∙ ap r head
    ∙ ap (λ ks. bind a (continuation_run m.input.now m.back ks)) (frames-none m.program.now m.frames)
    ∙ bind-reaches a
    ∙ ap (λ sl. code_run m.input.now (code_at m.program.now m.step) m.back (record { place = m.place; slots = sl })) slots

-- a run from where the machine starts
pub ran_from : (old m new : Machine) (t : Trace) → visible (run_ahead m action.Step) ≡ t → m.budget ≡ old.budget → m.input ≡ old.input → m.program ≡ old.program → (it : Progress) → IsRun m new (run_ahead m action.Step) it → IsRunFrom old new t it
ran_from old m new t same budgets inputs programs (progress.Continue n) ran = ran
ran_from old m new t same budgets inputs programs progress.NoMatch ran = (ap first (sym same) ∙ ran.0, sym budgets ∙ ran.1 ∙ ap (λ c. c + new.budget) (ap cost same), ran.2 ∙ inputs, ran.3 ∙ programs)
ran_from old m new t same budgets inputs programs progress.Match ran = (ap first (sym same) ∙ ran.0, sym budgets ∙ ran.1 ∙ ap (λ c. c + new.budget) (ap cost same))
ran_from old m new t same budgets inputs programs progress.Spent ran = let e = ap cost same in omega arith

-- the same run, of the input and the program that the machine was given
pub ran_here : (m new : Machine) (input : List ℕ) (program : List Step) (entry groups place : ℕ) (it : Progress) → m.input.now ≡ input → m.program.now ≡ program
    → IsRunFrom m new (trace_of m.input.now m.program.now entry groups place) it → IsRunFrom m new (trace_of input program entry groups place) it
ran_here m new input program entry groups place it inputs programs ran =
    subst (λ p. IsRunFrom m new (trace_of input p entry groups place) it) programs (subst (λ i. IsRunFrom m new (trace_of i m.program.now entry groups place) it) inputs ran)
