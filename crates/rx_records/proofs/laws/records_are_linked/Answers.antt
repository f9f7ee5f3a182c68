use Rattle.rx_records.proofs.Linked.{all_linked, all_passed, one_each}
use Rattle.rx_records.proofs.laws.records_are_linked.Goals as goal

pub returns-clause-one_each : goal.returns-clause-one_each
returns-clause-one_each c = one_each

pub returns-clause-all : goal.returns-clause-all
returns-clause-all c = all_passed

pub returns-clause-linked : goal.returns-clause-linked
returns-clause-linked c = all_linked
