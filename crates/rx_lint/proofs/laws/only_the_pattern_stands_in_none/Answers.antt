use Rattle.rx_lint.proofs.Places.{are_rooted}
use Rattle.rx_lint.proofs.laws.only_the_pattern_stands_in_none.Goals as goal

pub returns : goal.returns
returns c p = are_rooted p
