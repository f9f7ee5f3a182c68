use Rattle.rx_records.proofs.Groups.{all_listed, groups_found}
use Rattle.rx_records.proofs.laws.groups_are_numbered.Goals as goal

pub returns-clause-groups : goal.returns-clause-groups
returns-clause-groups c = groups_found

pub returns-clause-all : goal.returns-clause-all
returns-clause-all c = all_listed
