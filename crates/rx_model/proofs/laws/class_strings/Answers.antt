use Rattle.std.proofs.Common.{ap, refl}
use Rattle.std.specs.Prelude.{◌==◌}
use Rattle.rx_model.proofs.Classes.StringTokens.{first_ends, is_spelled, is_tokens}
use Rattle.rx_model.proofs.laws.class_strings.Goals as goal

pub returns-clause-whole : goal.returns-clause-whole
returns-clause-whole c e d w rest fits flags plain = (λ s. is_tokens e d.body w rest s d refl, is_spelled e d w rest fits flags plain)

pub returns-clause-first : goal.returns-clause-first
returns-clause-first c e ss w rest s = (s.first_row, first_ends e s.more s.further s.closer rest s.closer_is s.more_row)

pub returns-clause-others : goal.returns-clause-others
returns-clause-others c e ss w rest s = (s.more_row, ap (λ c. c == 125) s.closer_is)
