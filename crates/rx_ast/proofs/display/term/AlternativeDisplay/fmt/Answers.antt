use Rattle.std.proofs.Common.{ap, false}
use Rattle.rx_ast.specs.Shown.{nodes_shown}
use Rattle.rx_ast.proofs.Equations.{alternative_is}
use Rattle.rx_ast.proofs.FormatterWrites.{same_shown}
use Rattle.rx_ast.proofs.display.term.AlternativeDisplay.fmt.Goals as goal

pub returns-clause-writes : goal.returns-clause-writes
returns-clause-writes g c = same_shown _ (ap (λ m. nodes_shown false m.1) (alternative_is c.args.self.now)) (rw c.as_slice.ensures at c.write_terms.ensures)
