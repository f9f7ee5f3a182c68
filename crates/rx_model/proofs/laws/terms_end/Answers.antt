use Rattle.rx_model.proofs.Refusals.Stops.{stopped}
use Rattle.rx_model.proofs.laws.terms_end.Goals as goal

pub returns : goal.returns
returns c = stopped
