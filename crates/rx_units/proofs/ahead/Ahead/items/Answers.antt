use Rattle.std.proofs.Common.{rules}
use Rattle.rx_units.proofs.UnitLists.{units_length, units_values}
use Rattle.rx_units.proofs.ahead.Ahead.items.Goals as goal

pub returns-clause-values : goal.returns-clause-values
returns-clause-values g c = rw (← c.self.view_is) (units_values g.U.Unit.unit g.U.Unit.value g.met.U.Unit.value_is c.self.inside.place c.self.inside.items.now)

pub returns-clause-length : goal.returns-clause-length
returns-clause-length g c = rw (← c.self.view_is) (units_length g.U.Unit.unit c.self.inside.place c.self.inside.items.now)
