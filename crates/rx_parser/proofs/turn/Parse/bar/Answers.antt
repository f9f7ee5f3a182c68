use Rattle.std.proofs.Common.{refl}
use Rattle.rx_parser.proofs.Steps.{grown_on_ok}
use Rattle.rx_parser.proofs.Turns.{bar_turned, before, has_turned, passed}
use Rattle.rx_parser.proofs.turn.Parse.bar.Goals as goal

pub returns-clause-turned : goal.returns-clause-turned
returns-clause-turned g c =
    let h = before c.requires.more in
    let it = c.bar.ensures in
    let span = c.span_over-span in
    grown_on_ok c.bar.result it.events it.openers it.ready it.good it.fixed (λ grows.
    has_turned c.requires.more
    (bar_turned h c.bar.new.self span.new.reader span.result.start span.result.end
    (passed h c.requires.found span.ensures.start span.ensures.end span.ensures.reader) grows) refl refl)
