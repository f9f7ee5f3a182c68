use Rattle.rx_program.proofs.Named.{AreNumberedTo}
use Rattle.rx_program.proofs.names.numbers_by_name.Given as goal

abbrev pub invariant-loop-number : goal.invariant-loop-number
invariant-loop-number l = AreNumberedTo l.number l.names l.numbers
