use Rattle.rx_place_laws.proofs.FirstRefusals.{refused_flags, refused_pattern}
use Rattle.rx_place_laws.proofs.laws.refusals_are_between_characters.Goals as goal

pub returns-clause-flags : goal.returns-clause-flags
returns-clause-flags c = λ input refusal first told. refused_flags input refusal first told

pub returns-clause-pattern : goal.returns-clause-pattern
returns-clause-pattern c = λ input refusal first told. refused_pattern input refusal first told
