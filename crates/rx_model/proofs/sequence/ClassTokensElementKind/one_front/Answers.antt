use Rattle.rx_model.proofs.Classes.OneClass.{first_of_class}
use Rattle.rx_model.proofs.sequence.ClassTokensElementKind.one_front.Goals as goal

pub returns : goal.returns
returns c = first_of_class
