use Rattle.rx_model.proofs.Reading.Alternatives.{none_at_stop}
use Rattle.rx_model.proofs.sequence.BarredAlternativesElementKind.none_at_stop.Goals as goal

pub returns : goal.returns
returns c e q = none_at_stop e
