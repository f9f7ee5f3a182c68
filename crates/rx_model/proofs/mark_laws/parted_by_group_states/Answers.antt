use Rattle.rx_model.proofs.FirstPass.PartedMarks.{hidden_parted, parted_hidden}
use Rattle.rx_model.proofs.mark_laws.parted_by_group_states.Goals as goal

pub returns-clause-sound : goal.returns-clause-sound
returns-clause-sound _ ms a b = hidden_parted ms a b

pub returns-clause-whole : goal.returns-clause-whole
returns-clause-whole _ ms a b = parted_hidden ms a b
