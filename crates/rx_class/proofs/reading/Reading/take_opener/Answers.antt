use Rattle.std.proofs.Common.{ap, drop, ◌∙◌}
use Rattle.rx_class.proofs.Common.{environment_of, rest, starts, values}
use Rattle.rx_class.proofs.SetReading.Fronts.{bracket_begins, front_starts, starts_some}
use Rattle.rx_class.proofs.reading.Reading.take_opener.Goals as goal

pub from-requires : goal.from-requires
from-requires g c = let us = rest c.args.self.now.reader.now in rw c.units.ensures.units (starts_some 91 us (front_starts 91 us c.requires.front))

pub open_bracket-requires-clause-front : goal.open_bracket-requires-clause-front
open_bracket-requires-clause-front g c =
    bracket_begins (rest c.args.self.now.reader.now) _ c.requires.front (c.begins_with-negative.ensures ∙ ap (λ us. starts 94 (values us)) (c.from.ensures.units ∙ ap (drop 1) c.units.ensures.units))

pub returns-clause-turned : goal.returns-clause-turned
returns-clause-turned g c = λ yes. c.in_ok-open_bracket.ensures.added (environment_of c.args.self.now.state.now) c.requires.sets
