use Rattle.rx_model.proofs.FirstPass.Apart.{tells_apart}
use Rattle.rx_model.proofs.laws.names_apart.Goals as goal

pub returns : goal.returns
returns c = tells_apart
