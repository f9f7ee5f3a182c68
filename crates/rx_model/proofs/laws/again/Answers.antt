use Rattle.rx_model.proofs.Spelling.SameAgain.{same_again}
use Rattle.rx_model.proofs.laws.again.Goals as goal

pub returns : goal.returns
returns c = same_again
