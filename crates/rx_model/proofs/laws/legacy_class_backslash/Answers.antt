use Rattle.rx_model.proofs.Classes.LegacyClassEscapes.{atom_begins, no_atom_begins}
use Rattle.rx_model.proofs.laws.legacy_class_backslash.Goals as goal

pub returns-clause-some : goal.returns-clause-some
returns-clause-some c e u us m = atom_begins e m u us

pub returns-clause-none : goal.returns-clause-none
returns-clause-none c e u us m = no_atom_begins e m u us
