use Rattle.rx_model.proofs.Reading.Alternatives.{one_barred}
use Rattle.rx_model.proofs.sequence.BarredAlternativesElementKind.one_front.Goals as goal

pub returns : goal.returns
returns c = one_barred
