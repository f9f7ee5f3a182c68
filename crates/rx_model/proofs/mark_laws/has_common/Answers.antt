use Rattle.rx_model.proofs.FirstPass.PartedMarks.{common}
use Rattle.rx_model.proofs.mark_laws.has_common.Goals as goal

pub returns : goal.returns
returns _ ms a b = common ms a b
