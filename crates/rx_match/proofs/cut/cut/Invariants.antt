use Rattle.std.proofs.Common.{length}
use Rattle.rx_match.proofs.Cuts.{Fewer}
use Rattle.rx_match.proofs.cut.cut.Given as goal

abbrev pub invariant-loop-entry : goal.invariant-loop-entry
invariant-loop-entry l = Fewer l.fn.entries l.entries l.kept

abbrev pub decreases-loop-entry : goal.decreases-loop-entry
decreases-loop-entry l = length l.entries
