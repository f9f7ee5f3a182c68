use Rattle.rx_model.proofs.Refusals.Refusals.{none_beyond_in_class}
use Rattle.rx_model.proofs.laws.none_beyond_in_class.Goals as goal

pub returns : goal.returns
returns c = none_beyond_in_class
