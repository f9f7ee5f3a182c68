use Rattle.rx_model.proofs.Refusals.OneCause.{one_first}
use Rattle.rx_model.proofs.Refusals.Refusals.{class_laws}
use Rattle.rx_model.proofs.laws.one_first.Goals as goal

pub returns : goal.returns
returns c mode rules us start added = one_first mode rules us start added (class_laws mode rules us start added)
