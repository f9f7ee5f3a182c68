use Rattle.std.proofs.Common.{◌≡◌, ◌∙◌, ap, sym, refl, ◌+◌, ◌<◌, ◌≤◌, ◌^◌, false, [], None, arith, rules}
use Rattle.rx_parser.proofs.Common.{All-weaker, CodePoint, some_units}
use Rattle.rx_parser.proofs.StandIns.{group_read, none_left}
use Rattle.rx_parser.proofs.input.some_reader.Goals as goal

pub returns-in-Ok-clause-units : goal.returns-in-Ok-clause-units
returns-in-Ok-clause-units c =
    let nothing : c.peek.result ≡ None = search rules in
    let none : c.args.own.units ≡ [] = none_left c.args.own c.requires.start (sym c.peek.ensures ∙ nothing) in
    group_read false c.args.unicode_mode c.in-Ok.reader.units (c.in-Ok.ensures.quoted refl).0 ∙ ap some_units (sym none)

pub returns-in-Ok-clause-fits : goal.returns-in-Ok-clause-fits
returns-in-Ok-clause-fits c =
    let nothing : c.peek.result ≡ None = search rules in
    let none : c.args.own.units ≡ [] = none_left c.args.own c.requires.start (sym c.peek.ensures ∙ nothing) in
    let room : c.args.span_offset + 6 < 2 ^ 32 = (c.requires.quoted none).1 in
    let fits : (u : CodePoint) → u.span.end ≤ 6 → u.span.end + c.args.span_offset < 2 ^ 32 = λ u end. omega (arith, room) in
    record {
      first = omega (arith, (c.in-Ok.ensures.quoted refl).2, room);
      ends = All-weaker (λ (u : CodePoint). u.span.end ≤ 6) (λ (u : CodePoint). u.span.end + c.args.span_offset < 2 ^ 32) fits c.in-Ok.reader.units c.in-Ok.ensures.within;
    }
