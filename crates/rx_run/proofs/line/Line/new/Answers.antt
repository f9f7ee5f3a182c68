use Rattle.rx_run.proofs.Lacking.{lacks_none}
use Rattle.rx_run.proofs.line.Line.new.Goals as goal

pub invariant_of-result-clause-one_line : goal.invariant_of-result-clause-one_line
invariant_of-result-clause-one_line c = rw c.new.ensures (lacks_none 10)
