use Rattle.std.proofs.Common.{refl}
use Rattle.rx_class.proofs.Readings.{span_on}
use Rattle.rx_class.proofs.SetReading.Strings.{bar_adds}
use Rattle.rx_class.proofs.reading.Reading.next_string.Goals as goal

pub returns-clause-added : goal.returns-clause-added
returns-clause-added g c = λ e sets.
    bar_adds e sets c.args.self.now.spans.now c.args.self.now.reader.now c.advance.new.self.reader.now c.args.builder.now c.end_string.new.self _ c.here.result c.here-2.result c.requires.bar c.advance.ensures.reader c.here.ensures
    (span_on c.advance.ensures.on _ c.here-2.ensures) c.in_ok-end_string.ensures refl
