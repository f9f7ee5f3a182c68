use Rattle.rx_model.proofs.Classes.ClassOperands.{one_further}
use Rattle.rx_model.proofs.class_sequence.FurtherOperandsElementKind.one_front.Goals as goal

pub returns : goal.returns
returns c = one_further
