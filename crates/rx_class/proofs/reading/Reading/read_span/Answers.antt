use Rattle.rx_class.proofs.PropertyReading.Spans.{ahead_span}
use Rattle.rx_class.proofs.Readings.{reads_on, span_on}
use Rattle.rx_class.proofs.reading.Reading.read_span.Goals as goal

pub returns-clause-span : goal.returns-clause-span
returns-clause-span g c =
    ahead_span c.args.self.now.reader.now c.skip.new.self.reader.now c.skip-2.new.self.reader.now c.args.ahead c.args.count c.args.self.now.spans.now _ _ c.skip.ensures.reader c.offset-start.ensures.value
    c.skip-2.ensures.reader (span_on (reads_on c.skip.ensures.on c.skip-2.ensures.on) _ c.span_from.ensures)
