use Rattle.std.proofs.Common.{refl}
use Rattle.rx_parser.proofs.Common.{text_names}
use Rattle.rx_parser.proofs.Steps.{grown_on_ok}
use Rattle.rx_parser.proofs.Turns.{before, has_turned, open_turned, passed}
use Rattle.rx_parser.proofs.turn.Parse.open_group.Goals as goal

pub returns-clause-turned : goal.returns-clause-turned
returns-clause-turned g c =
    let p = c.args.self.now in
    let h = before c.requires.more in
    let opener = c.requires.found.0 in
    let found = c.requires.found.1 in
    let it = c.open.ensures in
    let span = c.span_over-span in
    grown_on_ok c.open.result it.events it.openers it.ready it.good it.fixed (λ grows.
    has_turned c.requires.more
    (open_turned h c.open.new.self span.new.reader opener c.args.group_kind found.0 c.args.length span.result.start span.result.end found.2 c.requires.found.2
    (passed h found.1 span.ensures.start span.ensures.end span.ensures.reader) (found.1.2 (text_names p.builder.mode p.reader.units)) grows) refl refl)
