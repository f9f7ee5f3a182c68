use Rattle.rx_model.proofs.FirstPass.Cuts.{token_cut}
use Rattle.rx_model.proofs.laws.token_marks.Goals as goal

pub returns : goal.returns
returns c = token_cut
