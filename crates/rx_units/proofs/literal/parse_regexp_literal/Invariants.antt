use Rattle.std.proofs.Common.{◌≡◌, ◌+◌, ◌++◌, length, drop}
use Rattle.std.specs.Prelude.{encode_utf8_all}
use Rattle.std.specs.Str.{chars}
use Rattle.rx_units.specs.Units.{literal_units}
use Rattle.rx_units.proofs.literal.parse_regexp_literal.Given as goal

abbrev pub invariant-loop-c : goal.invariant-loop-c
invariant-loop-c l = record {
  units : l.body ++ literal_units l.combine_surrogate_pair (l.span_offset + l.at) (drop (length l.yielded) (chars l.source_text)) ≡ literal_units l.combine_surrogate_pair l.span_offset (chars l.source_text);
  bytes : l.at + length (encode_utf8_all (drop (length l.yielded) (chars l.source_text))) ≡ length l.source_text;
}
