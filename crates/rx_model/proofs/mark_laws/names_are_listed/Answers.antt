use Rattle.rx_model.proofs.FirstPass.MarkNames.{names_law, once_law, seen_law}
use Rattle.rx_model.proofs.mark_laws.names_are_listed.Goals as goal

pub returns-clause-all : goal.returns-clause-all
returns-clause-all c = names_law

pub returns-clause-once : goal.returns-clause-once
returns-clause-once c = once_law

pub returns-clause-seen : goal.returns-clause-seen
returns-clause-seen c = seen_law
