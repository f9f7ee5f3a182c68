use Rattle.rx_units.proofs.Quoted.TemplateExactness.{no_fault_decoded as law}
use Rattle.rx_units.proofs.laws.no_template_fault.Goals as goal

pub returns : goal.returns
returns c = law
