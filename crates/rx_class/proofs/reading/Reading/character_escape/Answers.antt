use Rattle.rx_class.proofs.Common.{environment_of}
use Rattle.rx_class.proofs.EscapeReading.Gives.{character_gives}
use Rattle.rx_class.proofs.ReadingSteps.{found_reading}
use Rattle.rx_class.proofs.reading.Reading.character_escape.Goals as goal

pub returns-clause-gives : goal.returns-clause-gives
returns-clause-gives g c =
    character_gives (environment_of c.args.self.now.state.now) c.args.self.now.spans.now c.args.span_start c.args.self.now.reader.now _ c.requires.backslash _ _ c.ahead.ensures.units
    c.shared_escape-found.ensures.read c.answer.ensures.found

pub returns-clause-steps : goal.returns-clause-steps
returns-clause-steps g c =
    let found = c.shared_escape-found in
    found_reading c.args.self.now.spans.now c.args.span_start c.args.self.now.reader.now c.answer.new.self.reader.now (g.C.Counter.count c.args.self.now.steps.now) (g.C.Counter.count found.new.steps)
    (g.C.Counter.count c.answer.new.self.steps.now) c.answer.ensures.steps _ found.result c.answer.result c.ahead.ensures.units c.answer.ensures.found found.ensures.within found.ensures.steps
