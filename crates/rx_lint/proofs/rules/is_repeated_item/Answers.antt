use Rattle.std.proofs.Common.{sym}
use Rattle.rx_lint.proofs.OtherNodes.{no_contents}
use Rattle.rx_lint.proofs.rules.is_repeated_item.Goals as goal

pub returns-in_default : goal.returns-in_default
returns-in_default c = sym (no_contents c.args.mark c.args.node c.in_default.not-CharacterClassContents)
