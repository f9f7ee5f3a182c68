use Rattle.rx_place_laws.proofs.Texts.{one_text_of}
use Rattle.rx_place_laws.proofs.laws.places_lie_in_one_text.Goals as goal

pub returns : goal.returns
returns c = λ input text other is was. one_text_of input text other is was
