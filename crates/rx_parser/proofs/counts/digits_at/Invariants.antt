use Rattle.std.proofs.Common.{◌≡◌, drop}
use Rattle.rx_parser.proofs.Common.{values, HasStepped}
use Rattle.rx_model.specs.Quantifiers.CountsReading.{digits_read_at}
use Rattle.rx_parser.proofs.counts.digits_at.Given as goal

abbrev pub invariant-loop-count : goal.invariant-loop-count
invariant-loop-count g l = record {
  read : digits_read_at l.value l.count (values (drop l.count l.units)) ≡ digits_read_at 0 0 (values l.units);
  steps : HasStepped (g.C.Counter.count l.fn.steps) (g.C.Counter.count l.steps) l.count;
}
