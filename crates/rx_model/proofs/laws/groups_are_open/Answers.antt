use Rattle.rx_model.proofs.Trees.OpenGroups.{accepted_whole}
use Rattle.rx_model.proofs.laws.groups_are_open.Goals as goal

pub returns : goal.returns
returns c mode ts open_groups ready e = (accepted_whole mode ts open_groups ready e).openers
