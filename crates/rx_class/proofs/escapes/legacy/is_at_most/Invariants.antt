use Rattle.std.proofs.Common.{◌≡◌, ◌+◌, ◌≤◌, drop}
use Rattle.rx_class.proofs.Common.{prefix_len, is_decimal_digit, values}
use Rattle.rx_units.specs.Stored.{values_of}
use Rattle.rx_model.specs.Characters.LegacyEscapes.{run_number}
use Rattle.rx_class.proofs.escapes.legacy.is_at_most.Given as goal

abbrev pub invariant-loop-unit : goal.invariant-loop-unit
invariant-loop-unit g l = record {
  read : run_number l.number (values_of g.U.Unit.value (drop l.unit-index l.items)) ≡ run_number 0 (values l.units);
  within : l.number ≤ l.limit;
  digits : prefix_len is_decimal_digit (values l.units) ≡ l.unit-index + prefix_len is_decimal_digit (values_of g.U.Unit.value (drop l.unit-index l.items));
  counted : g.C.Counter.count l.steps ≡ g.C.Counter.count l.fn.steps + l.unit-index;
}
