use Rattle.std.proofs.Common.{◌≡◌, false, take}
use Rattle.rx_parser.proofs.Common.{values, has_twice, letters_bits, HasStepped}
use Rattle.rx_parser.proofs.modifiers.bits_of.Given as goal

abbrev pub invariant-loop-letter : goal.invariant-loop-letter
invariant-loop-letter g l = record {
  once : has_twice (take l.letter-index (values l.letters)) ≡ false;
  bits : l.bits.0 ≡ letters_bits (take l.letter-index (values l.letters));
  steps : HasStepped (g.C.Counter.count l.fn.steps) (g.C.Counter.count l.steps) l.letter-index;
}
