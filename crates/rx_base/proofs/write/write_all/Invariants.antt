use Rattle.std.proofs.Common.{length}
use Rattle.rx_base.proofs.Writing.{Left}
use Rattle.rx_base.proofs.write.write_all.Given as goal

abbrev pub invariant-loop-rest : goal.invariant-loop-rest
invariant-loop-rest g l = Left g.K.Sink.taken g.K.Sink.fixed g.K.Sink.faults l.fn.sink l.sink l.piece l.rest

abbrev pub decreases-loop-rest : goal.decreases-loop-rest
decreases-loop-rest g l = length l.rest
