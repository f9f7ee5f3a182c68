use Rattle.rx_model.proofs.Classes.ClassStrings.{none_at_strings_end}
use Rattle.rx_model.proofs.class_sequence.BarredStringsElementKind.none_at_stop.Goals as goal

pub returns : goal.returns
returns c = none_at_strings_end
