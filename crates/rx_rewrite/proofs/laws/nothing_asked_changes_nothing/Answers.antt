use Rattle.rx_rewrite.proofs.Again.{flags_stay, pattern_stays}
use Rattle.rx_rewrite.proofs.laws.nothing_asked_changes_nothing.Goals as goal

pub returns-clause-tree : goal.returns-clause-tree
returns-clause-tree c = pattern_stays

pub returns-clause-flags : goal.returns-clause-flags
returns-clause-flags c = flags_stay
