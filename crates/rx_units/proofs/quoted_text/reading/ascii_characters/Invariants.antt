use Rattle.std.proofs.Common.{◌≡◌, ◌≤◌, length, take}
use Rattle.std.specs.Vec.{vec_capacity, vec_len}
use Rattle.rx_units.proofs.quoted_text.reading.ascii_characters.Given as goal

abbrev pub invariant-loop-byte : goal.invariant-loop-byte
invariant-loop-byte l = record {
  items : l.characters.items ≡ take l.byte-index l.bytes;
  count : vec_len l.characters ≡ l.byte-index;
  room : length l.bytes ≤ vec_capacity l.characters;
}
