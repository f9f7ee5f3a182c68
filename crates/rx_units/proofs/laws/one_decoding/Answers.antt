use Rattle.rx_units.proofs.Quoted.Rows.{one_decoding as law}
use Rattle.rx_units.proofs.laws.one_decoding.Goals as goal

pub returns : goal.returns
returns c = law
