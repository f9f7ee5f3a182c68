use Rattle.std.proofs.Common.{◌+◌, ◌*◌, take, map}
use Rattle.rx_ast.specs.declared.term.CapturingGroup.{out-CapturingGroup}
use Rattle.rx_ast.specs.declared.term.IgnoreGroup.{out-IgnoreGroup}
use Rattle.rx_ast.specs.declared.term.LookAroundAssertion.{out-LookAroundAssertion}
use Rattle.rx_ast.specs.Size.{term_size, terms_size, disjunction_size}
use Rattle.rx_visit.specs.Visits.{VisitedAll}
use Rattle.rx_visit.specs.Siblings.{term_kind, alternative_kind}
use Rattle.rx_visit.proofs.term.+term.Given as goal

abbrev pub decreases-visit_around : goal.decreases-visit_around
decreases-visit_around g l = 4 * disjunction_size l.body.now + 2

abbrev pub decreases-walk_disjunction : goal.decreases-walk_disjunction
decreases-walk_disjunction g l = 4 * disjunction_size l.it.now + 1

abbrev pub decreases-walk_alternative : goal.decreases-walk_alternative
decreases-walk_alternative g l = 4 * terms_size l.it.now.body + 2

abbrev pub decreases-walk_term : goal.decreases-walk_term
decreases-walk_term g l = 4 * term_size l.it.now + 1

abbrev pub decreases-walk_in_term : goal.decreases-walk_in_term
decreases-walk_in_term g l = 4 * term_size l.it.now

abbrev pub decreases-walk_lookaround_assertion : goal.decreases-walk_lookaround_assertion
decreases-walk_lookaround_assertion g l = 4 * disjunction_size (out-LookAroundAssertion l.it.now).body + 3

abbrev pub decreases-walk_quantifier : goal.decreases-walk_quantifier
decreases-walk_quantifier g l = 4 * term_size l.it.now.body + 2

abbrev pub decreases-walk_capturing_group : goal.decreases-walk_capturing_group
decreases-walk_capturing_group g l = 4 * disjunction_size (out-CapturingGroup l.it.now).body + 3

abbrev pub decreases-walk_ignore_group : goal.decreases-walk_ignore_group
decreases-walk_ignore_group g l = 4 * disjunction_size (out-IgnoreGroup l.it.now).body + 3

abbrev pub invariant-walk_disjunction-loop-alternative : goal.invariant-walk_disjunction-loop-alternative
invariant-walk_disjunction-loop-alternative g l = VisitedAll g.V.Visit.entered g.V.Visit.left l.initial.visitor (map alternative_kind (take l.alternative-index l.alternatives)) l.visitor

abbrev pub invariant-walk_alternative-loop-term : goal.invariant-walk_alternative-loop-term
invariant-walk_alternative-loop-term g l = VisitedAll g.V.Visit.entered g.V.Visit.left l.initial.visitor (map term_kind (take l.term-index l.terms)) l.visitor
