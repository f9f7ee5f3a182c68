use Rattle.rx_rewrite.proofs.Promises.{promised}
use Rattle.rx_rewrite.proofs.laws.promises_are_kept.Goals as goal

pub returns : goal.returns
returns c = promised
