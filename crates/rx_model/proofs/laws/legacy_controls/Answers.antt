use Rattle.rx_model.proofs.Refusals.LegacyRaws.{control_in_class, control_outside}
use Rattle.rx_model.proofs.laws.legacy_controls.Goals as goal

pub returns-clause-inside : goal.returns-clause-inside
returns-clause-inside c = control_in_class

pub returns-clause-outside : goal.returns-clause-outside
returns-clause-outside c = control_outside
