use Rattle.rx_units.proofs.Quoted.Rows.{some_characters}
use Rattle.rx_units.proofs.sequence.QuotedElementsElementKind.some_units.Goals as goal

pub returns : goal.returns
returns c l q e rest s = some_characters l e rest s
