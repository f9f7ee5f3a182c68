use Rattle.std.proofs.Common.{ap}
use Rattle.rx_ast.specs.Shown.{alternatives_shown}
use Rattle.rx_ast.proofs.Equations.{disjunction_is}
use Rattle.rx_ast.proofs.FormatterWrites.{same_shown}
use Rattle.rx_ast.proofs.display.term.DisjunctionDisplay.fmt.Goals as goal

pub returns-clause-writes : goal.returns-clause-writes
returns-clause-writes g c = same_shown _ (ap (λ d. alternatives_shown d.1) (disjunction_is c.args.self.now)) (rw c.as_slice.ensures at c.write_alternatives.ensures)
