use Rattle.rx_model.proofs.Reading.OneRow.{first_token}
use Rattle.rx_model.proofs.sequence.PatternTokensElementKind.one_front.Goals as goal

pub returns : goal.returns
returns c = first_token
