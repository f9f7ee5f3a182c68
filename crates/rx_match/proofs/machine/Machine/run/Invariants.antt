use Rattle.std.proofs.Common.{length}
use Rattle.rx_match.specs.declared.machine.Action.TheVariants as action
use Rattle.rx_match.specs.MachineSteps.{run_ahead}
use Rattle.rx_match.proofs.Steps.{HasRun}
use Rattle.rx_match.proofs.machine.Machine.run.Given as goal

abbrev pub invariant-loop-next : goal.invariant-loop-next
invariant-loop-next l = HasRun l.fn.self l.self (run_ahead l.fn.self action.Step) (run_ahead l.self l.now)

abbrev pub decreases-loop-next : goal.decreases-loop-next
decreases-loop-next l = length (run_ahead l.self l.now)
