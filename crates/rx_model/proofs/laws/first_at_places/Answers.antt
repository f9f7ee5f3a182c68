use Rattle.rx_model.proofs.Refusals.OneCause.{class_is_first, said_is_first}
use Rattle.rx_model.proofs.Refusals.Refusals.{class_laws}
use Rattle.rx_model.proofs.laws.first_at_places.Goals as goal

pub returns-clause-said : goal.returns-clause-said
returns-clause-said c mode rules us start added = said_is_first mode rules us start added (class_laws mode rules us start added)

pub returns-clause-in_class : goal.returns-clause-in_class
returns-clause-in_class c mode rules us start added = class_is_first mode rules us start added (class_laws mode rules us start added)
