use Rattle.std.proofs.Common.{◌+◌, ◌*◌, ◌-◌, ◌≤◌, length}
use Rattle.rx_units.specs.Units.{values}
use Rattle.rx_scan.proofs.GroupNames.{IsRowBefore}
use Rattle.rx_scan.proofs.group_name.group_name_length_counted.Given as goal

abbrev pub invariant-loop-length : goal.invariant-loop-length
invariant-loop-length g l = record {
  within : l.length ≤ length l.units;
  read : IsRowBefore l.unicode_mode (values l.units) l.length;
  most : g.C.Counter.count l.steps ≤ g.C.Counter.count l.fn.steps + 2 * l.length;
  least : l.length + 2 * g.C.Counter.count l.fn.steps ≤ 2 * g.C.Counter.count l.steps;
}

abbrev pub decreases-loop-length : goal.decreases-loop-length
decreases-loop-length g l = length l.units - l.length
