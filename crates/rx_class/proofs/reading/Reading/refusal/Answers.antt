use Rattle.std.proofs.Common.{ap}
use Rattle.rx_class.proofs.Common.{UnterminatedPattern}
use Rattle.rx_base.specs.declared.diagnostic.Diagnostic.TheVariants.{InvalidUnicodeProperty, InvalidUnicodePropertyOfStrings, InvalidUnicodePropertyNameNegativeStrings}
use Rattle.rx_base.specs.declared.diagnostic.kinds.PropertyPart.TheVariants as part
use Rattle.rx_base.specs.declared.diagnostic.kinds.Unterminated.TheVariants as what
use Rattle.rx_class.proofs.PropertyReading.Spans.{cut_off, from_before, from_brace}
use Rattle.rx_class.proofs.Readings.{span_on, start_fits}
use Rattle.rx_class.proofs.reading.Reading.refusal.Goals as goal

pub span_from-span-requires : goal.span_from-span-requires
span_from-span-requires g c = start_fits c.skip.ensures.on c.args.span_start c.requires.backslash

pub span_from-span-requires-in-NegativeOfStrings : goal.span_from-span-requires-in-NegativeOfStrings
span_from-span-requires-in-NegativeOfStrings g c = start_fits c.skip-in-NegativeOfStrings.ensures.on c.args.span_start c.requires.backslash

pub returns-in-Unterminated-clause-refusal : goal.returns-in-Unterminated-clause-refusal
returns-in-Unterminated-clause-refusal g c =
    rw c.in-Unterminated.is (ap (λ span. UnterminatedPattern span what.PropertyEscape)
    (cut_off c.args.self.now.reader.now c.skip.new.self.reader.now _ c.args.self.now.spans.now c.args.span_start _ c.requires.backslash.following c.requires.backslash.start c.skip.ensures.reader
    (span_on c.skip.ensures.on _ c.span_from-span.ensures)))

pub returns-in-Name-clause-refusal : goal.returns-in-Name-clause-refusal
returns-in-Name-clause-refusal g c =
    rw c.in-Name.is (ap (λ span. InvalidUnicodeProperty span part.Name) (from_before c.args.self.now.reader.now c.args.self.now.spans.now _ _ _ c.requires.backslash.following c.read_span-span.ensures.span))

pub returns-in-NameOrValue-clause-refusal : goal.returns-in-NameOrValue-clause-refusal
returns-in-NameOrValue-clause-refusal g c =
    rw c.in-NameOrValue.is (ap (λ span. InvalidUnicodeProperty span part.NameOrValue)
    (from_brace c.args.self.now.reader.now c.args.self.now.spans.now _ _ c.requires.backslash.following c.read_span-span-in-NameOrValue.ensures.span))

pub returns-in-OfStrings-clause-refusal : goal.returns-in-OfStrings-clause-refusal
returns-in-OfStrings-clause-refusal g c =
    rw c.in-OfStrings.is (ap (λ span. InvalidUnicodePropertyOfStrings span c.in-OfStrings.name)
    (from_brace c.args.self.now.reader.now c.args.self.now.spans.now _ _ c.requires.backslash.following c.read_span-span-in-OfStrings.ensures.span))

pub returns-in-NegativeOfStrings-clause-refusal : goal.returns-in-NegativeOfStrings-clause-refusal
returns-in-NegativeOfStrings-clause-refusal g c =
    rw c.in-NegativeOfStrings.is (ap (λ span. InvalidUnicodePropertyNameNegativeStrings span c.in-NegativeOfStrings.name)
    (cut_off c.args.self.now.reader.now c.skip-in-NegativeOfStrings.new.self.reader.now _ c.args.self.now.spans.now c.args.span_start _ c.requires.backslash.following c.requires.backslash.start
    c.skip-in-NegativeOfStrings.ensures.reader (span_on c.skip-in-NegativeOfStrings.ensures.on _ c.span_from-span-in-NegativeOfStrings.ensures)))
