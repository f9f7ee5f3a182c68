use Rattle.rx_units.proofs.Quoted.Rows.{none_at_quote}
use Rattle.rx_units.proofs.sequence.QuotedElementsElementKind.none_at_stop.Goals as goal

pub returns : goal.returns
returns c l q = none_at_quote l
