use Rattle.std.proofs.Common.{refl, ◌∷◌}
use Rattle.rx_model.proofs.Classes.LegacyClasses.{class_or_refusal}
use Rattle.rx_model.proofs.laws.legacy_classes.Goals as goal

pub returns : goal.returns
returns c us start added from u text h units = class_or_refusal us start added from (u ∷ text) u text refl h units
