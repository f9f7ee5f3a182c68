use Rattle.std.proofs.Common.{refl}
use Rattle.rx_class.proofs.Common.{many_digits}
use Rattle.rx_class.specs.EscapeReading.Found.{none, some}
use Rattle.rx_class.proofs.EscapeReading.Gives.{invalid_answered}
use Rattle.rx_class.proofs.Readings.{span_on, start_fits}
use Rattle.rx_class.proofs.reading.Reading.answer.Goals as goal

pub span_from-span-requires : goal.span_from-span-requires
span_from-span-requires g c = start_fits c.skip.ensures.on c.args.span_start c.requires.backslash

pub returns-in-Character-clause-found : goal.returns-in-Character-clause-found
returns-in-Character-clause-found g c =
    let within = rw c.in-Character.is at c.requires.within in rw c.in-Character.is (some within.1 (span_on c.skip.ensures.on _ c.span_from-span.ensures) c.skip.ensures.reader)

pub returns-in-Nothing-clause-found : goal.returns-in-Nothing-clause-found
returns-in-Nothing-clause-found g c = rw c.in-Nothing.is (none refl)

pub returns-in-TooMany-clause-found : goal.returns-in-TooMany-clause-found
returns-in-TooMany-clause-found g c = rw (c.in-TooMany.is, c.read_span-span.ensures.span) (many_digits c.read_span-span.ensures.reader)

pub returns-in-Invalid-clause-found : goal.returns-in-Invalid-clause-found
returns-in-Invalid-clause-found g c =
    rw c.in-Invalid.is (invalid_answered c.args.self.now.spans.now c.args.span_start c.args.self.now.reader.now _ _ c.read_span-span-in-Invalid.ensures.span c.read_span-span-in-Invalid.ensures.reader)
