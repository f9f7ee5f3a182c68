use Rattle.rx_model.proofs.Classes.OneInClass.{one_first_in_class}
use Rattle.rx_model.proofs.laws.one_first_in_class.Goals as goal

pub returns : goal.returns
returns c = one_first_in_class
