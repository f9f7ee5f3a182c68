use Rattle.rx_model.proofs.Classes.OneInClass.{two_in_class}
use Rattle.rx_model.proofs.laws.two_in_class.Goals as goal

pub returns : goal.returns
returns c = two_in_class
