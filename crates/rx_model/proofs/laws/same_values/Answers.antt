use Rattle.rx_model.proofs.Reading.SameValues.{same_values}
use Rattle.rx_model.proofs.laws.same_values.Goals as goal

pub returns : goal.returns
returns c = same_values
