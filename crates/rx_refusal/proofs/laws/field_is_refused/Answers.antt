use Rattle.rx_refusal.proofs.Refused.{flags_alone, pattern_alone}
use Rattle.rx_refusal.proofs.laws.field_is_refused.Goals as goal

pub returns-clause-flags : goal.returns-clause-flags
returns-clause-flags c = λ input refusal first told mode asks. flags_alone input refusal mode first told asks

pub returns-clause-pattern : goal.returns-clause-pattern
returns-clause-pattern c = λ input refusal first told. pattern_alone input refusal first told
