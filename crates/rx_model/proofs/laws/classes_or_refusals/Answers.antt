use Rattle.std.proofs.Common.{refl, ◌∷◌}
use Rattle.rx_model.proofs.Classes.SetClasses.{set_class_or_refusal}
use Rattle.rx_model.proofs.laws.classes_or_refusals.Goals as goal

pub returns : goal.returns
returns c us start added from u text h small = set_class_or_refusal us start added from (u ∷ text) u text refl h small
