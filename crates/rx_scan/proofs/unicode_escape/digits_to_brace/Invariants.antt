use Rattle.std.proofs.Common.{◌≡◌, ◌+◌, drop}
use Rattle.rx_units.specs.Stored.{values_of}
use Rattle.rx_model.specs.Characters.Decoding.{run_at}
use Rattle.rx_scan.specs.DecodingSteps.{digits_of_run}
use Rattle.rx_scan.proofs.LookedDigits.{run_looked}
use Rattle.rx_scan.proofs.MarkSteps.{HasStepped}
use Rattle.rx_scan.proofs.unicode_escape.digits_to_brace.Given as goal

abbrev pub invariant-loop-count : goal.invariant-loop-count
invariant-loop-count g l = record {
  read : run_at l.number l.count (values_of g.U.Unit.value (drop l.count l.items)) ≡ run_at 0 0 (values_of g.U.Unit.value l.items);
  looked : digits_of_run (values_of g.U.Unit.value l.items) ≡ l.count + run_looked l.number (values_of g.U.Unit.value (drop l.count l.items));
  turns : HasStepped (g.C.Counter.count l.fn.steps) (g.C.Counter.count l.steps) l.count;
}
