use Rattle.rx_units.proofs.Quoted.Exactness.{no_fault_decoded as law}
use Rattle.rx_units.proofs.laws.no_string_fault.Goals as goal

pub returns : goal.returns
returns c = law
