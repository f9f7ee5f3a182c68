use Rattle.std.proofs.Common.{◌≡◌, ◌+◌, ◌-◌, ◌<◌, length, take, get_or, ap, sym, ◌∙◌, arith}
use Rattle.rx_units.specs.Stored.{units_of}
use Rattle.rx_units.specs.Units.{offset_at}
use Rattle.rx_units.proofs.UnitLists.{end_at, units_length}
use Rattle.rx_units.proofs.ahead.Ahead.end_of.Goals as goal

pub returns : goal.returns
returns g c = λ first.
    let a = c.self.inside in
    let unit = g.U.Unit.unit in
    let xs = a.items.now in
    let last = c.args.count - 1 in
    let item = c.index-items-last.result in
    let counted : last + 1 ≡ c.args.count = omega (arith, c.requires.some) in
    let long : length c.args.self.now ≡ length xs = rw (← c.self.view_is) (units_length unit a.place xs) in
    let inside : last < length xs = omega (arith, long, c.requires.some, c.requires.within) in
    rw (← c.self.view_is)
    (c.end.ensures ∙ ap (λ x. (unit (a.place + last) x).span.end) c.index-items-last.is ∙ sym (end_at unit first a.place xs last item inside) ∙ ap (offset_at first (units_of unit a.place xs)) counted)
