use Rattle.std.proofs.Common.{◌≡◌, ap, sym, ◌∙◌, ◌+◌, subst, false}
use Rattle.rx_parser.proofs.Common.{Diagnostic, Parse, RefusesText, lone_refusal, move_on, offset_of, text_names}
use Rattle.rx_parser.proofs.Turns.{before, lone_refused, passed}
use Rattle.rx_parser.proofs.turn.Parse.quantify.Goals as goal

pub returns-clause-refused : goal.returns-clause-refused
returns-clause-refused g c =
    let p = c.args.self.now in
    let h = c.requires.more in
    let counts = c.args.counts in
    let span = c.span_over-span in
    let it = c.in_ok-quantify_last in
    let none : it.field-0 ≡ false = cc in
    let same : c.quantify_last.new.self ≡ p = rw none at it.ensures.turned in
    subst (λ it. RefusesText p (Diagnostic it)) (sym (c.lone_quantifier.ensures ∙ ap (λ (q : Parse _ _). lone_refusal q.builder.mode span.result) same))
    (lone_refused (before h) h.under_way.pass span.new.reader counts.0 counts.1 c.args.greedy c.args.length span.result.start span.result.end
    (passed (before h) c.requires.found (span.ensures.start ∙ ap (λ (q : Parse _ _). offset_of q.reader + q.spans) same) (span.ensures.end ∙ ap (λ (q : Parse _ _). offset_of span.new.reader + q.spans) same)
    (span.ensures.reader ∙ ap (λ (q : Parse _ _). move_on c.args.length q.reader) same)) (c.requires.found.2 (text_names p.builder.mode p.reader.units)) (it.ensures.none none))
