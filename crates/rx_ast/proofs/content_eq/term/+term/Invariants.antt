use Rattle.std.proofs.Common.{take}
use Rattle.rx_ast.proofs.TermContentEq.{SameTerms, SameAlternatives}
use Rattle.rx_ast.proofs.content_eq.term.+term.Given as goal

abbrev pub invariant-AlternativeContentEq::content_eq-loop-i :
    goal.invariant-AlternativeContentEq::content_eq-loop-i
invariant-AlternativeContentEq::content_eq-loop-i l = SameTerms (take l.i l.term-items) (take l.i l.others)

abbrev pub invariant-DisjunctionContentEq::content_eq-loop-i :
    goal.invariant-DisjunctionContentEq::content_eq-loop-i
invariant-DisjunctionContentEq::content_eq-loop-i l = SameAlternatives (take l.i l.alternative-items) (take l.i l.others)
