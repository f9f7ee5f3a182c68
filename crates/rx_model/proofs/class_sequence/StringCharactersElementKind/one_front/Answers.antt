use Rattle.rx_model.proofs.Classes.ClassStrings.{one_character}
use Rattle.rx_model.proofs.class_sequence.StringCharactersElementKind.one_front.Goals as goal

pub returns : goal.returns
returns c = one_character
