use Rattle.rx_rewrite.proofs.Again.{rewritten_again}
use Rattle.rx_rewrite.proofs.laws.once_more_changes_nothing.Goals as goal

pub returns : goal.returns
returns c = rewritten_again
