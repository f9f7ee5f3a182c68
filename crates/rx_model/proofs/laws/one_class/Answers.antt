use Rattle.rx_model.proofs.Classes.OneClass.{one_class}
use Rattle.rx_model.proofs.laws.one_class.Goals as goal

pub returns : goal.returns
returns c = one_class
