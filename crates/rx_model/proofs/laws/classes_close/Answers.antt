use Rattle.rx_model.proofs.Classes.ClassShapes.{closes_early, early_closes}
use Rattle.rx_model.proofs.laws.classes_close.Goals as goal

pub returns-clause-sound : goal.returns-clause-sound
returns-clause-sound c = early_closes

pub returns-clause-whole : goal.returns-clause-whole
returns-clause-whole c = closes_early
