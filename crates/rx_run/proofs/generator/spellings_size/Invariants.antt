use Rattle.std.proofs.Common.{◌≤◌, ◌*◌}
use Rattle.rx_run.proofs.PatternsMade.{Answered}
use Rattle.rx_run.proofs.generator.spellings_size.Given as goal

abbrev pub invariant-loop : goal.invariant-loop
invariant-loop l = record {
  answered : Answered l.count l.counter l.seed l.draws.state l.bytes;
  bytes : l.bytes ≤ 18446744073709551615 * l.counter;
}
