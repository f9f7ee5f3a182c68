use Rattle.std.proofs.Common.{sym}
use Rattle.rx_lint.proofs.OtherNodes.{no_quantifier}
use Rattle.rx_lint.proofs.rules.is_once.Goals as goal

pub returns-in_default : goal.returns-in_default
returns-in_default c = sym (no_quantifier c.args.node c.in_default.not-Quantifier)
