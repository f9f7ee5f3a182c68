use Rattle.rx_model.proofs.Refusals.OneEscape.{escape_is_first}
use Rattle.rx_model.proofs.laws.escape_cause_is_first.Goals as goal

pub returns : goal.returns
returns c = escape_is_first
