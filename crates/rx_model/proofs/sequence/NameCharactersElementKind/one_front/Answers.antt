use Rattle.rx_model.proofs.Groups.OneName.{one_character}
use Rattle.rx_model.proofs.sequence.NameCharactersElementKind.one_front.Goals as goal

pub returns : goal.returns
returns c = one_character
