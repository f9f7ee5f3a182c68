use Rattle.rx_model.proofs.Refusals.InnermostGroups.{innermost}
use Rattle.rx_model.proofs.laws.innermost_group.Goals as goal

pub returns : goal.returns
returns c = innermost
