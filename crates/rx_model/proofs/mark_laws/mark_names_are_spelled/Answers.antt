use Rattle.rx_model.proofs.FirstPass.MarkNames.{name_between, named_law, nameless_law}
use Rattle.rx_model.proofs.mark_laws.mark_names_are_spelled.Goals as goal

pub returns-clause-named : goal.returns-clause-named
returns-clause-named c = named_law

pub returns-clause-nameless : goal.returns-clause-nameless
returns-clause-nameless c = nameless_law

pub returns-clause-between : goal.returns-clause-between
returns-clause-between c = name_between
