use Rattle.std.proofs.Common.{ap}
use Rattle.rx_class.proofs.Common.{Span}
use Rattle.rx_class.proofs.Keeping.{on_ok_three}
use Rattle.rx_class.proofs.SetReading.Steps.{open_adds}
use Rattle.rx_class.proofs.reading.Reading.open_bracket.Goals as goal

pub returns-clause-added : goal.returns-clause-added
returns-clause-added g c =
    let is = c.open.ensures in
    on_ok_three c.open.result
    (λ events held well. open_adds c.args.self.now.spans.now c.args.self.now.reader.now c.skip.new.self.reader.now c.args.builder.now c.open.new.self well c.args.negative c.here-start.result.start c.bracket_length.result
    c.requires.front held events (ap (λ (s : Span). s.start) c.here-start.ensures) c.bracket_length.ensures c.skip.ensures.reader)
    is.events is.held is.well
