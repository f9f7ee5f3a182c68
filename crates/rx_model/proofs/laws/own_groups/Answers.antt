use Rattle.rx_model.proofs.FirstPass.OwnGroups.{tells_groups}
use Rattle.rx_model.proofs.laws.own_groups.Goals as goal

pub returns : goal.returns
returns c = tells_groups
