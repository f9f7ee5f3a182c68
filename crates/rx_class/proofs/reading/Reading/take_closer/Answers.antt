use Rattle.rx_class.proofs.Common.{environment_of, rest}
use Rattle.rx_class.proofs.Operators.{union_whole}
use Rattle.rx_class.proofs.SetReading.Fronts.{front_starts}
use Rattle.rx_class.proofs.SetReading.Refusals.{closer_begins}
use Rattle.rx_class.proofs.reading.Reading.take_closer.Goals as goal

pub close_nested-requires-clause-front : goal.close_nested-requires-clause-front
close_nested-requires-clause-front g c = closer_begins (rest c.args.self.now.reader.now) (front_starts 93 _ c.requires.front)

pub close_nested-requires-clause-nested : goal.close_nested-requires-clause-nested
close_nested-requires-clause-nested g c = λ none.
    c.requires.goes_on record { closer = front_starts 93 (rest c.args.self.now.reader.now) c.requires.front; outermost = none; whole = union_whole _ c.requires.union }

pub returns-clause-turned : goal.returns-clause-turned
returns-clause-turned g c = λ yes. c.in_ok-close_nested.ensures.added (environment_of c.args.self.now.state.now) c.requires.sets
