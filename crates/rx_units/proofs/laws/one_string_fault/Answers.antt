use Rattle.rx_units.proofs.Quoted.Exactness.{one_fault as law}
use Rattle.rx_units.proofs.laws.one_string_fault.Goals as goal

pub returns : goal.returns
returns c = law
