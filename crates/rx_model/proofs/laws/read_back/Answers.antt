use Rattle.rx_model.proofs.Spelling.ReadBack.{spelled_is_read_back}
use Rattle.rx_model.proofs.laws.read_back.Goals as goal

pub returns : goal.returns
returns c = spelled_is_read_back
