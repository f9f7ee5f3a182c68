use Rattle.rx_model.proofs.Classes.LegacyClassEscapes.{none_refused}
use Rattle.rx_model.proofs.laws.legacy_escapes.Goals as goal

pub returns : goal.returns
returns c = none_refused
