use Rattle.rx_model.proofs.Refusals.LegacyPlaces.{ends_or_goes}
use Rattle.rx_model.proofs.laws.legacy_places.Goals as goal

pub returns : goal.returns
returns c rules us start added place open_groups ready rest units r other = ends_or_goes rules us start added place open_groups ready rest units r other
