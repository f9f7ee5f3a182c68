use Rattle.rx_model.proofs.Refusals.Refusals.{refused, class_laws}
use Rattle.rx_model.proofs.laws.refusals.Goals as goal

pub returns : goal.returns
returns c mode rules us start added = refused mode rules us start added (class_laws mode rules us start added)
