use Rattle.rx_model.proofs.Classes.ClassStrings.{string_some}
use Rattle.rx_model.proofs.class_sequence.BarredStringsElementKind.some_units.Goals as goal

pub returns : goal.returns
returns c = string_some
