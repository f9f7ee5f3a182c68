use Rattle.rx_model.proofs.Classes.ClassStrings.{character_some}
use Rattle.rx_model.proofs.class_sequence.StringCharactersElementKind.some_units.Goals as goal

pub returns : goal.returns
returns c = character_some
