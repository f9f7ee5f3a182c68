use Rattle.rx_model.proofs.Refusals.OneRefusal.{none_of_valid, one_refusal}
use Rattle.rx_model.proofs.laws.one_refusal.Goals as goal

pub returns-clause-one : goal.returns-clause-one
returns-clause-one c = one_refusal

pub returns-clause-none : goal.returns-clause-none
returns-clause-none c = none_of_valid
