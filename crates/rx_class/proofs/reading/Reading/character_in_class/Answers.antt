use Rattle.std.proofs.Common.{refl}
use Rattle.rx_class.proofs.ReadingSteps.{found_reading}
use Rattle.rx_class.proofs.reading.Reading.character_in_class.Goals as goal

pub returns-clause-steps : goal.returns-clause-steps
returns-clause-steps g c =
    let found = c.any_escape_at-found in
    found_reading c.args.self.now.spans.now c.args.span_start c.args.self.now.reader.now c.answer.new.self.reader.now (g.C.Counter.count c.args.self.now.steps.now) (g.C.Counter.count found.new.steps)
    (g.C.Counter.count c.answer.new.self.steps.now) c.answer.ensures.steps _ found.result c.answer.result c.ahead-units.ensures.units c.answer.ensures.found
    (found.ensures.within c.ahead-units.ensures.code_points) (found.ensures.few refl)
