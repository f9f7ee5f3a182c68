use Rattle.rx_model.proofs.Classes.ClassStrings.{none_at_string_end}
use Rattle.rx_model.proofs.class_sequence.StringCharactersElementKind.none_at_stop.Goals as goal

pub returns : goal.returns
returns c = none_at_string_end
