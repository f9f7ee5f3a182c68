use Rattle.rx_place_laws.proofs.Utf16.{counted, counted_as_ascii}
use Rattle.rx_place_laws.proofs.laws.places_between_characters_have_units.Goals as goal

pub returns-clause-own : goal.returns-clause-own
returns-clause-own c = λ text added place it. counted text added place it

pub returns-clause-ascii : goal.returns-clause-ascii
returns-clause-ascii c = λ own text added place h k it. counted_as_ascii text added place it own h k
