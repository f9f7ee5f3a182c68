use Rattle.rx_model.proofs.Trees.Bodies.{only_quantifier, quantified_next, no_quantifier_next}
use Rattle.rx_model.proofs.laws.quantifiers_stand.Goals as goal

pub returns-clause-only : goal.returns-clause-only
returns-clause-only c = only_quantifier

pub returns-clause-next : goal.returns-clause-next
returns-clause-next c = quantified_next

pub returns-clause-none : goal.returns-clause-none
returns-clause-none c = no_quantifier_next
