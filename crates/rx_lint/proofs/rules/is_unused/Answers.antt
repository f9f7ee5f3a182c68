use Rattle.std.proofs.Common.{sym}
use Rattle.rx_lint.proofs.OtherNodes.{no_group}
use Rattle.rx_lint.proofs.rules.is_unused.Goals as goal

pub returns-in_default : goal.returns-in_default
returns-in_default c = λ p referred. sym (no_group p c.args.node c.in_default.not-CapturingGroup)
