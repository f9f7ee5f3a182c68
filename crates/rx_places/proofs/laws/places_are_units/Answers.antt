use Rattle.std.proofs.Common.{◌≡◌, ◌∙◌, ◌+◌, ap, length}
use Rattle.std.specs.Prelude.{encode_utf8_all}
use Rattle.rx_places.specs.Places.{in_utf16, units_before}
use Rattle.rx_places.proofs.Units.{units_at_place, units_of_front}
use Rattle.rx_places.proofs.laws.places_are_units.Goals as goal

pub returns-clause-units : goal.returns-clause-units
returns-clause-units c = λ text front back cut. ap (λ cs. units_before cs (length (encode_utf8_all front))) cut ∙ units_of_front front back

pub returns-clause-places : goal.returns-clause-places
returns-clause-places c = λ text front back offset cut. ap (λ cs. in_utf16 cs offset (offset + length (encode_utf8_all front))) cut ∙ units_at_place front back offset
