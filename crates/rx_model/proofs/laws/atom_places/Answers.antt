use Rattle.rx_model.proofs.Classes.AtomPlaces.{place_counted}
use Rattle.rx_model.proofs.laws.atom_places.Goals as goal

pub returns : goal.returns
returns c = place_counted
