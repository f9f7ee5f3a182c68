use Rattle.std.proofs.Common.{ap, sym, ◌∙◌, ◌+◌}
use Rattle.std.proofs.lemmas.List.{drop-map, take_rest}
use Rattle.rx_units.specs.Stored.{units_of}
use Rattle.rx_units.specs.Units.{values}
use Rattle.rx_units.proofs.UnitLists.{units_drop}
use Rattle.rx_units.proofs.ahead.Ahead.from.Goals as goal

pub returns-clause-units : goal.returns-clause-units
returns-clause-units g c =
    let xs = c.self.inside.items.now in
    rw (← c.self.view_is) (ap (units_of g.U.Unit.unit (c.self.inside.place + c.args.count)) (take_rest xs c.args.count) ∙ units_drop g.U.Unit.unit c.args.count c.self.inside.place xs)

pub returns-clause-values : goal.returns-clause-values
returns-clause-values g c = ap values (returns-clause-units g c) ∙ sym (drop-map (λ u. u.value) c.args.count c.args.self.now)
