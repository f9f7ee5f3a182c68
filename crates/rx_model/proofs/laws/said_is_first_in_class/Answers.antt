use Rattle.rx_model.proofs.Classes.OneInClass.{said_is_first}
use Rattle.rx_model.proofs.laws.said_is_first_in_class.Goals as goal

pub returns : goal.returns
returns c = said_is_first
