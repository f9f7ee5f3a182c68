use Rattle.std.proofs.Common.{ap, sym}
use Rattle.rx_ast.specs.Shown.{node_shown}
use Rattle.rx_ast.proofs.Equations.{quantifier_is}
use Rattle.rx_ast.proofs.FormatterWrites.{same_shown}
use Rattle.rx_ast.proofs.display.term.QuantifierDisplay.fmt.Goals as goal

pub returns-clause-writes : goal.returns-clause-writes
returns-clause-writes g c = same_shown _ (sym (ap (λ n. node_shown n) (quantifier_is c.args.self.now))) c.write_quantified.ensures
