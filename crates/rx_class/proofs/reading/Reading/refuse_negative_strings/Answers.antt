use Rattle.std.proofs.Common.{sym, ap, ◌∙◌}
use Rattle.rx_class.proofs.Common.{Span, between}
use Rattle.rx_class.proofs.Readings.{span_on}
use Rattle.rx_class.proofs.SetReading.Refusals.{negative_gives}
use Rattle.rx_class.proofs.reading.Reading.refuse_negative_strings.Goals as goal

pub returns-then-is_refused-clause-gives : goal.returns-then-is_refused-clause-gives
returns-then-is_refused-clause-gives g c =
    negative_gives _ _ _ _ _ _ c.requires.front c.requires.whole (sym c.is_refused.ensures ∙ c.if-is_refused.true) c.of_negative.ensures
    (c.new-span.ensures ∙ ap (λ (s : Span). between c.args.builder.now.inner.start s.end) (span_on c.advance.ensures.on _ c.here.ensures)) c.advance.ensures.reader
