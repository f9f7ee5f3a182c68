use Rattle.rx_model.proofs.Refusals.OneCause.{cause_is_first}
use Rattle.rx_model.proofs.Refusals.Refusals.{class_laws}
use Rattle.rx_model.proofs.laws.cause_is_first.Goals as goal

pub returns : goal.returns
returns c mode rules no_sets us start added = cause_is_first mode rules us start added (class_laws mode rules us start added) no_sets
