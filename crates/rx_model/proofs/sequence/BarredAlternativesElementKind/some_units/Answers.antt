use Rattle.std.proofs.Common.{◌≡◌, [], ◌∷◌}
use Rattle.rx_model.proofs.sequence.BarredAlternativesElementKind.some_units.Goals as goal

pub returns : goal.returns
returns c e q t rest s = let no : [] ≡ s.bar ∷ s.text = s.whole in cc no
