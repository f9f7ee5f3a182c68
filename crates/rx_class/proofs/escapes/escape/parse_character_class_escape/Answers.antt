use Rattle.std.proofs.Common.{◌∙◌, sym, ap, subst}
use Rattle.rx_class.proofs.Common.{values, GivesClassEscape, class_escape_front}
use Rattle.rx_class.proofs.EscapeReading.Gives.{class_gives, no_class_gives}
use Rattle.rx_class.proofs.Fitting.{moved_are_fitting, offset_here_fits, start_fits}
use Rattle.rx_class.proofs.escapes.escape.parse_character_class_escape.Goals as goal

pub create-span-requires-clause-start : goal.create-span-requires-clause-start
create-span-requires-clause-start g c = start_fits c.args.spans.now c.args.span_start c.args.reader.now c.requires.fits c.requires.backslash

pub create-span-requires-clause-end : goal.create-span-requires-clause-end
create-span-requires-clause-end g c =
    offset_here_fits c.args.spans.now _ c.advance_counted.new.self (moved_are_fitting c.args.spans.now 1 c.args.reader.now c.advance_counted.new.self c.requires.fits c.advance_counted.ensures.reader) c.offset.ensures.value

pub returns-in_err-kind-clause-gives : goal.returns-in_err-kind-clause-gives
returns-in_err-kind-clause-gives g c =
    let read = ap (λ us. class_escape_front (values us)) (sym c.ahead.ensures.units) ∙ sym c.class_escape_at.ensures ∙ c.in_err-kind.was in
    let gives = no_class_gives c.args.spans.now c.args.span_start c.args.reader.now read in
    subst (GivesClassEscape c.args.spans.now c.args.span_start c.args.reader.now c.args.reader.now) (sym c.from_residual.ensures) gives

pub returns-clause-gives : goal.returns-clause-gives
returns-clause-gives g c =
    let read = ap (λ us. class_escape_front (values us)) (sym c.ahead.ensures.units) ∙ sym c.class_escape_at.ensures ∙ c.in_ok-kind.was in
    class_gives c.args.spans.now c.args.span_start c.args.reader.now _ c.advance_counted.new.self read c.advance_counted.ensures.reader (rw c.offset.ensures.value at c.create-span.ensures)
