use Rattle.rx_lint.proofs.Places.{in_order}
use Rattle.rx_lint.proofs.laws.places_are_in_order.Goals as goal

pub returns : goal.returns
returns c p = in_order p
