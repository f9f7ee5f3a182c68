use Rattle.std.proofs.Common.{◌≤◌}
use Rattle.rx_ast.specs.Size.{term_size}
use Rattle.rx_ast.proofs.term.Term.into_disjunction.Given as goal

abbrev pub invariant-loop-self : goal.invariant-loop-self
invariant-loop-self l = term_size l.self ≤ term_size l.fn.self
