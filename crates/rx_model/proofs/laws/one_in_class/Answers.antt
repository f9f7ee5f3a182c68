use Rattle.rx_model.proofs.Classes.OneInClass.{one_in_class}
use Rattle.rx_model.proofs.laws.one_in_class.Goals as goal

pub returns : goal.returns
returns c mode no_sets us start added from at_class = one_in_class mode us start added from at_class no_sets
