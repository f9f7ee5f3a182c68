use Rattle.std.proofs.Common.{ap}
use Rattle.rx_class.proofs.Common.{Span}
use Rattle.rx_class.proofs.Keeping.{on_ok_three}
use Rattle.rx_class.proofs.Readings.{span_on}
use Rattle.rx_class.proofs.SetReading.Steps.{close_adds}
use Rattle.rx_class.proofs.reading.Reading.close_nested.Goals as goal

pub returns-clause-added : goal.returns-clause-added
returns-clause-added g c =
    let is = c.close.ensures in
    on_ok_three c.close.result
    (λ events held well. close_adds c.args.self.now.spans.now c.args.self.now.reader.now c.advance.new.self.reader.now c.args.builder.now c.close.new.self well c.here.result.start c.requires.front c.requires.whole held events
    (ap (λ (s : Span). s.start) (span_on c.advance.ensures.on _ c.here.ensures)) c.advance.ensures.reader)
    is.events is.held is.well
