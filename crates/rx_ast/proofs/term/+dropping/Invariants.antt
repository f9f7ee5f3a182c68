use Rattle.std.proofs.Common.{◌+◌, ◌*◌, ◌≤◌, length}
use Rattle.rx_ast.specs.Size.{term_size, terms_size, all_alternatives_size, disjunction_size, disjunctions_size}
use Rattle.rx_ast.proofs.term.+dropping.Given as goal

abbrev pub decreases-drop_disjunction : goal.decreases-drop_disjunction
decreases-drop_disjunction l = 3 * disjunction_size l.body + 1

abbrev pub decreases-add_disjunction : goal.decreases-add_disjunction
decreases-add_disjunction l = 3 * disjunction_size l.body

abbrev pub decreases-add_terms : goal.decreases-add_terms
decreases-add_terms l = 3 * terms_size l.terms + 2

abbrev pub decreases-Term::add_to : goal.decreases-Term::add_to
decreases-Term::add_to l = 3 * term_size l.self + 1

abbrev pub decreases-add_term : goal.decreases-add_term
decreases-add_term l = 3 * term_size l.term

abbrev pub invariant-drop_disjunction-loop-body : goal.invariant-drop_disjunction-loop-body
invariant-drop_disjunction-loop-body l = disjunctions_size l.waiting ≤ disjunction_size l.fn.body

abbrev pub decreases-drop_disjunction-loop-body : goal.decreases-drop_disjunction-loop-body
decreases-drop_disjunction-loop-body l = disjunctions_size l.waiting

abbrev pub invariant-add_disjunction-loop-alternative :
    goal.invariant-add_disjunction-loop-alternative
invariant-add_disjunction-loop-alternative l =
    (disjunctions_size l.waiting + all_alternatives_size l.body ≤ disjunctions_size l.fn.waiting + disjunction_size l.fn.body)
    × (all_alternatives_size l.body ≤ disjunction_size l.fn.body)

abbrev pub decreases-add_disjunction-loop-alternative :
    goal.decreases-add_disjunction-loop-alternative
decreases-add_disjunction-loop-alternative l = length l.body

abbrev pub invariant-add_terms-loop-term : goal.invariant-add_terms-loop-term
invariant-add_terms-loop-term l =
    (disjunctions_size l.waiting + terms_size l.terms ≤ disjunctions_size l.fn.waiting + terms_size l.fn.terms)
    × (terms_size l.terms ≤ terms_size l.fn.terms)

abbrev pub decreases-add_terms-loop-term : goal.decreases-add_terms-loop-term
decreases-add_terms-loop-term l = length l.terms
