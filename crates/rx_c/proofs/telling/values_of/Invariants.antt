use Rattle.std.proofs.Common.{◌≡◌, take}
use Rattle.std.specs.String.{string_bytes}
use Rattle.rx_records.specs.Ranges.{ranges_at}
use Rattle.rx_c.specs.Told.{all_bytes, each_bytes}
use Rattle.rx_c.proofs.telling.values_of.Given as goal

abbrev pub invariant-loop-text : goal.invariant-loop-text
invariant-loop-text l = record {
  texts : string_bytes l.made.texts ≡ all_bytes (take l.text-index l.text-items);
  ranges : l.ranges.items ≡ ranges_at 0 (each_bytes (take l.text-index l.text-items));
}
