use Rattle.std.proofs.Common.{◌≡◌, ◌++◌, length, drop}
use Rattle.std.specs.Str.{chars}
use Rattle.rx_trace.specs.Units.{text_values}
use Rattle.rx_trace.proofs.units.units_of.Given as goal

abbrev pub invariant-loop-c : goal.invariant-loop-c
invariant-loop-c l = l.units ++ text_values l.unicode_mode (drop (length l.yielded) (chars l.text)) ≡ text_values l.unicode_mode (chars l.text)
