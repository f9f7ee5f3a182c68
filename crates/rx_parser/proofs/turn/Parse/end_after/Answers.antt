use Rattle.std.proofs.Common.{◌≡◌, ◌∙◌, ap, ◌+◌, length, min, arith, length-drop}
use Rattle.rx_parser.proofs.Common.{Span, offset_at}
use Rattle.rx_parser.proofs.PlainRuns.{end_ahead, end_fits}
use Rattle.rx_parser.proofs.turn.Parse.end_after.Goals as goal

pub create-requires : goal.create-requires
create-requires g c =
    let fits = end_fits c.args.length c.requires.fits c.ahead.ensures.units c.end_of-end.ensures in
    record { start = fits; end = fits }

pub returns : goal.returns
returns g c =
    let r = c.args.self.now.reader in
    let place : r.place + c.args.length ≡ min (r.place + c.args.length) (length r.units) = omega (arith, c.requires.some, c.requires.within, length-drop r.place r.units) in
    ap (λ (s : Span). s.end) c.create.ensures
    ∙ ap (λ k. k + c.args.self.now.spans) (end_ahead r c.args.length c.ahead.ensures.units c.end_of-end.ensures ∙ ap (offset_at r.first r.units) place)
