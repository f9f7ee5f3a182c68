use Rattle.rx_units.proofs.Quoted.Rows.{one_front}
use Rattle.rx_units.proofs.sequence.QuotedElementsElementKind.one_front.Goals as goal

pub returns : goal.returns
returns c = one_front
