use Rattle.std.proofs.Common.{◌≡◌, ap, sym, ◌∙◌, ◌+◌, subst, false}
use Rattle.rx_parser.proofs.Common.{Diagnostic, Parse, ParsePatternIncomplete, RefusesText, offset_of}
use Rattle.rx_parser.proofs.Halts.{closer_refused}
use Rattle.rx_parser.proofs.Turns.{empty_at}
use Rattle.rx_parser.proofs.turn.Parse.close.Goals as goal

pub returns-clause-refused : goal.returns-clause-refused
returns-clause-refused g c =
    let p = c.args.self.now in
    let h = c.requires.more in
    let it = c.in_ok-take_closer in
    let none : it.field-0 ≡ false = cc in
    let same : c.take_closer.new.self ≡ p = rw none at it.ensures.turned in
    subst (λ s. RefusesText p (Diagnostic (ParsePatternIncomplete s))) (sym (c.empty-span.ensures ∙ ap empty_at (c.span_over-at.ensures.start ∙ ap (λ (q : Parse _ _). offset_of q.reader + q.spans) same)))
    (closer_refused p.reader.units p.reader.first p.spans p.builder p.reader.place h.under_way.parsing h.under_way.pass.no_clash h.under_way.pass.in_limit c.requires.found (it.ensures.none none))
