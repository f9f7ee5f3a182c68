use Rattle.std.proofs.Common.{◌≡◌, ◌+◌, length}
use Rattle.rx_units.proofs.Common.{Options, Literal, Leads, byte_count}
use Rattle.rx_units.proofs.quoted_text.reading.push_plain.Given as goal

abbrev pub invariant-loop-value : goal.invariant-loop-value
invariant-loop-value l = record {
  leads : (literal : Literal) (o : Options) → Leads literal o (record { units = l.fn.units; offset = l.start; rest = l.chars }) (record { units = l.units; offset = l.offset; rest = l.rest });
  bytes : l.offset + byte_count l.rest ≡ l.start + byte_count l.chars;
}

abbrev pub decreases-loop-value : goal.decreases-loop-value
decreases-loop-value l = length l.rest
