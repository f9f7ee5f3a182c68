use Rattle.rx_model.proofs.Refusals.FlagCauses.{cause_refuses, one_cause, some_cause}
use Rattle.rx_model.proofs.laws.flags_refused.Goals as goal

pub returns-clause-sound : goal.returns-clause-sound
returns-clause-sound c = cause_refuses

pub returns-clause-whole : goal.returns-clause-whole
returns-clause-whole c = some_cause

pub returns-clause-one : goal.returns-clause-one
returns-clause-one c = one_cause
