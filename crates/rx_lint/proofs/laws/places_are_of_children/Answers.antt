use Rattle.rx_lint.proofs.Places.{are_of_children}
use Rattle.rx_lint.proofs.laws.places_are_of_children.Goals as goal

pub returns : goal.returns
returns c p = are_of_children p
