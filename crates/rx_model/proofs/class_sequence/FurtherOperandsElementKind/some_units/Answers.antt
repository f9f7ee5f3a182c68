use Rattle.rx_model.proofs.Classes.ClassOperands.{further_some}
use Rattle.rx_model.proofs.class_sequence.FurtherOperandsElementKind.some_units.Goals as goal

pub returns : goal.returns
returns c = further_some
