use Rattle.rx_model.proofs.Refusals.OneCause.{one_cause_at_places}
use Rattle.rx_model.proofs.Refusals.Refusals.{class_laws}
use Rattle.rx_model.proofs.laws.one_place.Goals as goal

pub returns : goal.returns
returns c mode rules no_sets us start added = one_cause_at_places mode rules us start added (class_laws mode rules us start added) no_sets
