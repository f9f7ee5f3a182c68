use Rattle.rx_model.proofs.Reading.OneRow.{none_at_end}
use Rattle.rx_model.proofs.sequence.PatternTokensElementKind.none_at_stop.Goals as goal

pub returns : goal.returns
returns c = none_at_end
