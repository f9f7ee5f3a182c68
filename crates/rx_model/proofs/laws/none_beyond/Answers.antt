use Rattle.rx_model.proofs.Refusals.Refusals.{none_beyond, class_laws}
use Rattle.rx_model.proofs.laws.none_beyond.Goals as goal

pub returns : goal.returns
returns c mode rules us start added = none_beyond mode rules us start added (class_laws mode rules us start added)
