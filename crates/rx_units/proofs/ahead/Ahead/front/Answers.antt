use Rattle.std.proofs.Common.{◌≡◌, length, length-take, arith, ap, sym, ◌∙◌}
use Rattle.std.proofs.lemmas.List.{take-map}
use Rattle.rx_units.specs.Units.{values}
use Rattle.rx_units.proofs.UnitLists.{units_length, units_take}
use Rattle.rx_units.proofs.ahead.Ahead.front.Goals as goal

pub slice_bounds-result-end : goal.slice_bounds-result-end
slice_bounds-result-end g c =
    let e = units_length g.U.Unit.unit c.self.inside.place c.self.inside.items.now in
    let f : length c.args.self.now ≡ length c.self.inside.items.now = rw (← c.self.view_is) e in
    omega (arith, f, c.requires, length-take c.args.count c.self.inside.items.now)

pub returns-clause-units : goal.returns-clause-units
returns-clause-units g c = rw (← c.self.view_is) (units_take g.U.Unit.unit c.args.count c.self.inside.place c.self.inside.items.now)

pub returns-clause-values : goal.returns-clause-values
returns-clause-values g c = ap values (returns-clause-units g c) ∙ sym (take-map (λ u. u.value) c.args.count c.args.self.now)
