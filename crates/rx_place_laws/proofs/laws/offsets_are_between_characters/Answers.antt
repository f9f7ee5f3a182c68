use Rattle.rx_place_laws.proofs.Offsets.{literal_offset, quoted_offset}
use Rattle.rx_place_laws.proofs.laws.offsets_are_between_characters.Goals as goal

pub returns-clause-literal : goal.returns-clause-literal
returns-clause-literal c = λ joined text added place. literal_offset text added joined place

pub returns-clause-quoted : goal.returns-clause-quoted
returns-clause-quoted c = λ standard joined text us added place decodes. quoted_offset text added standard joined us place decodes
