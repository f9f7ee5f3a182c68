use Rattle.std.proofs.Common.{◌≡◌, ℕ, false, ◌+◌, ◌≤◌, ◌<◌, Some, length}
use Rattle.rx_match.specs.Runs.{unit_to}
use Rattle.rx_program.specs.Steps.{test_holds}
use Rattle.rx_match.proofs.holds.place_after_units.Given as goal

abbrev pub invariant-loop-left : goal.invariant-loop-left
invariant-loop-left l = record {
  order : l.place ≤ l.here;
  within : l.here ≤ length l.input;
  sum : l.here + l.left ≡ l.place + l.most;
  held : (i : ℕ) → l.place ≤ i → i < l.here → unit_to l.input false (test_holds l.test) i ≡ Some (i + 1);
}

abbrev pub decreases-loop-left : goal.decreases-loop-left
decreases-loop-left l = l.left
