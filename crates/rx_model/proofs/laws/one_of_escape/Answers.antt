use Rattle.rx_model.proofs.Refusals.OneEscape.{one_of_escape}
use Rattle.rx_model.proofs.laws.one_of_escape.Goals as goal

pub returns : goal.returns
returns c = one_of_escape
