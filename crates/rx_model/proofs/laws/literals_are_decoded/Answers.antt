use Rattle.rx_model.proofs.Refusals.LiteralUnits.{literals_are_decoded}
use Rattle.rx_model.proofs.laws.literals_are_decoded.Goals as goal

pub returns : goal.returns
returns c = literals_are_decoded
