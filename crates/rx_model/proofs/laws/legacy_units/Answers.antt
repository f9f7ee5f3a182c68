use Rattle.rx_model.proofs.Refusals.LegacyRaws.{unit_stands}
use Rattle.rx_model.proofs.laws.legacy_units.Goals as goal

pub returns : goal.returns
returns c = unit_stands
