use Rattle.rx_model.proofs.Inputs.Asked.{literal_has_units, one_text}
use Rattle.rx_model.proofs.laws.one_text.Goals as goal

pub returns-clause-one : goal.returns-clause-one
returns-clause-one c = one_text

pub returns-clause-of_literal : goal.returns-clause-of_literal
returns-clause-of_literal c = literal_has_units
