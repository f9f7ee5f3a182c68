use Rattle.rx_lint.proofs.EqualRules.{equal_rules}
use Rattle.rx_lint.proofs.laws.equal_bare_has_equal_rules.Goals as goal

pub returns : goal.returns
returns c a b same = equal_rules a b same
