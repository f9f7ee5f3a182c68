use Rattle.std.proofs.Common.{sym}
use Rattle.rx_lint.proofs.OtherNodes.{no_alternative}
use Rattle.rx_lint.proofs.rules.is_repeated_alternative.Goals as goal

pub returns-in_default : goal.returns-in_default
returns-in_default c = sym (no_alternative c.args.mark c.args.node c.in_default.not-Alternative)
