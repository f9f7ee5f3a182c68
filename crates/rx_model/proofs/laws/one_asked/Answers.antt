use Rattle.rx_model.proofs.Inputs.Asked.{one_asked, one_mode}
use Rattle.rx_model.proofs.laws.one_asked.Goals as goal

pub returns-clause-mode : goal.returns-clause-mode
returns-clause-mode c = one_mode

pub returns-clause-units : goal.returns-clause-units
returns-clause-units c = one_asked
