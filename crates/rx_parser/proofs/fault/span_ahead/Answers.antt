use Rattle.std.proofs.Common.{◌+◌, ◌-◌, ◌^◌, ◌<◌, ap, sym, ◌∙◌, arith, subst}
use Rattle.rx_parser.proofs.Common.{offset_of, move_on, offset_fits}
use Rattle.rx_parser.proofs.Moves.{moved_left}
use Rattle.rx_parser.proofs.fault.span_ahead.Goals as goal

pub create-requires-clause-start : goal.create-requires-clause-start
create-requires-clause-start g c =
    let r = c.args.reader.now in
    let is = c.offset-start.ensures.value ∙ ap offset_of c.skip_counted.ensures.reader in
    subst (λ n. n + c.args.spans.now < 2 ^ 32) (sym is) (offset_fits c.args.spans.now r.first r.units _ c.requires.fits.first c.requires.fits.ends)

pub create-requires-clause-end : goal.create-requires-clause-end
create-requires-clause-end g c =
    let r = c.args.reader.now in
    let is = c.offset-end.ensures.value ∙ ap offset_of (c.skip_counted-2.ensures.reader ∙ ap (move_on _) c.skip_counted.ensures.reader) in
    subst (λ n. n + c.args.spans.now < 2 ^ 32) (sym is) (offset_fits c.args.spans.now r.first r.units _ c.requires.fits.first c.requires.fits.ends)

pub returns-clause-steps : goal.returns-clause-steps
returns-clause-steps g c =
    let first = c.skip_counted.ensures in
    let more = c.skip_counted-2.ensures in
    let one = moved_left c.args.from c.args.reader.now c.skip_counted.new.self first.reader in
    let two = moved_left (c.args.to - c.args.from) c.skip_counted.new.self c.skip_counted-2.new.self more.reader in
    (omega (arith, first.steps, more.steps, one.1, two.1), omega (arith, first.steps, more.steps, one.0, two.0, c.requires.order))
