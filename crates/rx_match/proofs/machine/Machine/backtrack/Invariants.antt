use Rattle.std.proofs.Common.{length}
use Rattle.rx_match.specs.MachineSteps.{KeepsBacktracking}
use Rattle.rx_match.proofs.machine.Machine.backtrack.Given as goal

abbrev pub invariant-loop-entry : goal.invariant-loop-entry
invariant-loop-entry l = KeepsBacktracking l.fn.self l.self

abbrev pub decreases-loop-entry : goal.decreases-loop-entry
decreases-loop-entry l = length l.self.entries
