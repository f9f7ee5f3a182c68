use Rattle.rx_scan.proofs.MarkSteps.{HasStepped, Passed}
use Rattle.rx_scan.proofs.mark.name_units.Given as goal

abbrev pub invariant-loop-place : goal.invariant-loop-place
invariant-loop-place g l = record { passed : Passed g.U.Unit.value l.items l.place; turns : HasStepped (g.C.Counter.count l.fn.steps) (g.C.Counter.count l.steps) l.place }
