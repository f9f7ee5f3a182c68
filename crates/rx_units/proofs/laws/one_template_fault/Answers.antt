use Rattle.rx_units.proofs.Quoted.TemplateExactness.{one_fault as law}
use Rattle.rx_units.proofs.laws.one_template_fault.Goals as goal

pub returns : goal.returns
returns c = law
