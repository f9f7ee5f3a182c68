use Rattle.rx_model.proofs.Groups.OneName.{begins_unique, one_closed, one_spelled}
use Rattle.rx_model.proofs.laws.one_name.Goals as goal

pub returns-clause-longest : goal.returns-clause-longest
returns-clause-longest c = begins_unique

pub returns-clause-closed : goal.returns-clause-closed
returns-clause-closed c = one_closed

pub returns-clause-spelled : goal.returns-clause-spelled
returns-clause-spelled c = one_spelled
