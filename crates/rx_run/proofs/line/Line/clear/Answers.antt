use Rattle.rx_run.proofs.Lacking.{lacks_none}
use Rattle.rx_run.proofs.line.Line.clear.Goals as goal

pub invariant_of-self-clause-one_line : goal.invariant_of-self-clause-one_line
invariant_of-self-clause-one_line c = rw c.clear.ensures (lacks_none 10)
