use Rattle.std.proofs.Common.{◌≡◌, ◌+◌, ◌<◌, ◌^◌, true, take}
use Rattle.rx_units.specs.Units.{values, offset_at}
use Rattle.rx_model.specs.Inputs.Flags.{flags_ok}
use Rattle.rx_scan.proofs.flags_parser.check.Given as goal

abbrev pub invariant-loop-place : goal.invariant-loop-place
invariant-loop-place l = record {
  start : l.start ≡ offset_at l.first l.units l.place;
  fits : l.start + l.spans < 2 ^ 32;
  passed : flags_ok (values (take l.place l.units)) ≡ true;
}
