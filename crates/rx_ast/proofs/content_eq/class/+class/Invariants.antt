use Rattle.std.proofs.Common.{take}
use Rattle.rx_ast.proofs.ClassContentEq.{SameMembers}
use Rattle.rx_ast.proofs.content_eq.class.+class.Given as goal

abbrev pub invariant-CharacterClassContentEq::content_eq-loop-i :
    goal.invariant-CharacterClassContentEq::content_eq-loop-i
invariant-CharacterClassContentEq::content_eq-loop-i l = SameMembers (take l.i l.contents-items) (take l.i l.others)
