use Rattle.std.proofs.Common.{◌≡◌, ◌+◌, drop}
use Rattle.rx_parser.proofs.Common.{values, HasStepped, letters_at}
use Rattle.rx_parser.proofs.modifiers.letters_at.Given as goal

abbrev pub invariant-loop-count : goal.invariant-loop-count
invariant-loop-count g l = record {
  letters : letters_at (values l.units) ≡ l.count + letters_at (values (drop l.count l.units));
  steps : HasStepped (g.C.Counter.count l.fn.steps) (g.C.Counter.count l.steps) l.count;
}
