use Rattle.std.proofs.Common.{◌≡◌, length, arith, sym}
use Rattle.rx_units.proofs.UnitLists.{first_value, one_more, units_length}
use Rattle.rx_units.proofs.ahead.Ahead.split_first.Goals as goal

pub from-requires : goal.from-requires
from-requires g c =
    let long : length c.args.self.now ≡ length c.self.inside.items.now = rw (← c.self.view_is) (units_length g.U.Unit.unit c.self.inside.place c.self.inside.items.now) in
    omega (arith, long, c.in-len1-up.len_at_least)

pub returns-in-len1-up-clause-values : goal.returns-in-len1-up-clause-values
returns-in-len1-up-clause-values g c =
    first_value g.U.Unit.unit g.U.Unit.value g.met.U.Unit.value_is c.self.inside.place c.self.inside.items.now c.args.self.now c.from.result c.first-item.result c.value.result
    (sym c.self.view_is) c.in-len1-up.len_at_least c.first-item.is c.value.ensures c.from.ensures.units

pub returns-in-len1-up-clause-counted : goal.returns-in-len1-up-clause-counted
returns-in-len1-up-clause-counted g c = one_more c.value.result c.args.self.now c.from.result (returns-in-len1-up-clause-values g c)
