use Rattle.std.proofs.Common.{ap, sym, subst, ◌≤◌, length, IfSome}
use Rattle.rx_match.specs.Runs.{run_onward, bind, code_run}
use Rattle.rx_program.specs.Steps.{code_at}
use Rattle.rx_match.specs.MachineSteps.{KeepsRun, state_of, continuation_of, with_backtracking, run_ahead}
use Rattle.rx_match.specs.declared.machine.Action.TheVariants as action
use Rattle.rx_match.proofs.Machines.{keeps_move, keeps_fail}
use Rattle.rx_match.proofs.machine.Machine.move_to.Goals as goal

pub returns-in-None : goal.returns-in-None
returns-in-None c =
    let m = c.args.self.now in
    keeps_fail m (run_onward c.args.to (state_of m) (code_run m.input.now (code_at m.program.now c.args.next) m.back)) c.requires.sound (ap (λ o. run_onward o (state_of m) (code_run m.input.now (code_at m.program.now c.args.next) m.back)) c.in-None.is)

pub returns-in-Some : goal.returns-in-Some
returns-in-Some c =
    let m = c.args.self.now in
    let q = c.in-Some.place in
    let within : q ≤ length m.input.now = subst (λ o. IfSome o (λ q. q ≤ length m.input.now)) c.in-Some.is c.requires.within in
    subst (λ o. KeepsRun m (record m { place = q; step = c.args.next }) (with_backtracking m (bind (run_onward o (state_of m) (code_run m.input.now (code_at m.program.now c.args.next) m.back)) (continuation_of m))) (run_ahead (record m { place = q; step = c.args.next }) action.Step))
    (sym c.in-Some.is) (keeps_move m q c.args.next c.requires.sound within)
