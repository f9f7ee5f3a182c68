use Rattle.std.proofs.Common.{take}
use Rattle.std.specs.List.{AllZip}
use Rattle.rx_base.proofs.content_eq.ListContentEq.content_eq.Given as goal

abbrev pub invariant-loop-i : goal.invariant-loop-i
invariant-loop-i g l = AllZip g.T.ContentEq.same (take l.i l.item-items) (take l.i l.others)
