use Rattle.std.proofs.Common.{◌≡◌, ◌+◌, drop}
use Rattle.rx_units.specs.Quoted.Texts.{byte_count}
use Rattle.rx_units.proofs.quoted_text.reading.byte_count.Given as goal

abbrev pub invariant-loop-c : goal.invariant-loop-c
invariant-loop-c l = l.count + byte_count (drop l.c-index l.chars) ≡ byte_count l.chars
