use Rattle.rx_model.proofs.Reading.Prefixes.{prefixes}
use Rattle.rx_model.proofs.laws.row_prefixes.Goals as goal

pub returns : goal.returns
returns c = prefixes
