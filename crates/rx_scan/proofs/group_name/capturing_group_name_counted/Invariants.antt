use Rattle.std.proofs.Common.{◌≡◌, ◌+◌, ◌*◌, ◌-◌, ◌≤◌, ◌==◌, drop, length}
use Rattle.rx_units.specs.Units.{values}
use Rattle.rx_model.specs.Groups.GroupNameReading.{name_at, row_after, row_following}
use Rattle.rx_scan.proofs.group_name.capturing_group_name_counted.Given as goal

abbrev pub invariant-loop-place : goal.invariant-loop-place
invariant-loop-place g l = record {
  within : l.place ≤ length l.units;
  read : name_at l.unicode_mode (values l.units) ≡ row_following l.name l.place (row_after l.unicode_mode (l.place == 0) 0 (drop l.place (values l.units)));
  most : g.C.Counter.count l.steps ≤ g.C.Counter.count l.fn.steps + 2 * l.place;
  least : l.place + 2 * g.C.Counter.count l.fn.steps ≤ 2 * g.C.Counter.count l.steps;
}

abbrev pub decreases-loop-place : goal.decreases-loop-place
decreases-loop-place g l = length l.units - l.place
