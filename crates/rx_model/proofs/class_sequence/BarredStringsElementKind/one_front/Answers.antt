use Rattle.rx_model.proofs.Classes.ClassStrings.{one_string}
use Rattle.rx_model.proofs.class_sequence.BarredStringsElementKind.one_front.Goals as goal

pub returns : goal.returns
returns c = one_string
