use Rattle.std.proofs.Common.{◌≡◌, length}
use Rattle.rx_visit.specs.Flags.{has_refused}
use Rattle.rx_visit.proofs.flags.has_refused.Given as goal

abbrev pub invariant-loop-rest : goal.invariant-loop-rest
invariant-loop-rest l = has_refused l.unsupported l.fn.bytes ≡ has_refused l.unsupported l.rest

abbrev pub decreases-loop-rest : goal.decreases-loop-rest
decreases-loop-rest l = length l.rest
