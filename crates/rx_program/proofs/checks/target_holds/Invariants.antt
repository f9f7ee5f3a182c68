use Rattle.std.proofs.Common.{◌≡◌, ◌≤◌, length}
use Rattle.rx_program.specs.Checks.{target_holds, answer}
use Rattle.rx_program.proofs.checks.target_holds.Given as goal

abbrev pub invariant-loop-target : goal.invariant-loop-target
invariant-loop-target l = record {
  within : l.below ≤ length l.checks;
  same : answer l.checks l.fn.first l.c ≡ target_holds l.checks l.below l.target l.c;
}

abbrev pub decreases-loop-target : goal.decreases-loop-target
decreases-loop-target l = l.below
