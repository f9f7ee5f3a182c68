use Rattle.rx_json_reply.proofs.GroupsTold.{count_is, names_are}
use Rattle.rx_json_reply.proofs.laws.groups.groups_are_of_the_pattern.Goals as goal

pub returns-clause-groups : goal.returns-clause-groups
returns-clause-groups c = λ place p. count_is place p

pub returns-clause-names : goal.returns-clause-names
returns-clause-names c = λ p. names_are p
