use Rattle.std.proofs.Common.{◌≡◌, ◌+◌, drop}
use Rattle.rx_parser.proofs.Common.{digit_run, HasStepped}
use Rattle.rx_parser.proofs.NumberFound.{NumberRead}
use Rattle.rx_parser.proofs.ahead.number_at.Given as goal

abbrev pub invariant-loop-count : goal.invariant-loop-count
invariant-loop-count g l = record {
  read : NumberRead l.units l.number l.count;
  run : digit_run l.units ≡ l.count + digit_run (drop l.count l.units);
  steps : HasStepped (g.C.Counter.count l.fn.steps) (g.C.Counter.count l.steps) l.count;
}
