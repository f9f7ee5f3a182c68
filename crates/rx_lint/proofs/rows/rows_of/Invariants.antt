use Rattle.std.proofs.Common.{length}
use Rattle.rx_lint.proofs.NodeNumbers.{AreRowed}
use Rattle.rx_lint.proofs.rows.rows_of.Given as goal

abbrev pub invariant-loop-beginning : goal.invariant-loop-beginning
invariant-loop-beginning l = AreRowed l.fn.beginnings l.beginnings l.rows l.tails.items

abbrev pub decreases-loop-beginning : goal.decreases-loop-beginning
decreases-loop-beginning l = length l.beginnings
