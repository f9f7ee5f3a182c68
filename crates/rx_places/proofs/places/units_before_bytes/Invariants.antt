use Rattle.std.proofs.Common.{◌≡◌, ◌+◌, ◌++◌, ◌∷◌, length, drop}
use Rattle.std.specs.Str.{chars}
use Rattle.rx_places.specs.Places.{all_units, later_units}
use Rattle.rx_places.proofs.places.units_before_bytes.Given as goal

abbrev pub invariant-loop-c : goal.invariant-loop-c
invariant-loop-c l = record {
  table : l.table ++ later_units l.units (drop (length l.yielded) (chars l.text)) ≡ 0 ∷ later_units 0 (chars l.text);
  units : l.units + all_units (drop (length l.yielded) (chars l.text)) ≡ all_units (chars l.text);
}
