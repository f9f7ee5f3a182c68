use Rattle.rx_model.proofs.Spelling.OneLines.{spelled_in_one_line}
use Rattle.rx_model.proofs.laws.one_line.Goals as goal

pub returns : goal.returns
returns c = spelled_in_one_line
