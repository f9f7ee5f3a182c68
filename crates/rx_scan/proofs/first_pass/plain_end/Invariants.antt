use Rattle.std.proofs.Common.{◌-◌, ◌≤◌, ℕ, Bool, length}
use Rattle.rx_units.specs.Units.{values}
use Rattle.rx_model.specs.declared.mode.Mode.{Mode}
use Rattle.rx_scan.specs.Walked.{IsAt}
use Rattle.rx_scan.specs.declared.first_pass.FirstPass.{FirstPass}
use Rattle.rx_scan.proofs.MarkSteps.{HasStepped}
use Rattle.rx_scan.proofs.first_pass.plain_end.Given as goal

abbrev pub invariant-loop-end : goal.invariant-loop-end
invariant-loop-end g l = record {
  from : l.place ≤ l.end;
  inside : l.end ≤ length l.units;
  passed : (mode : Mode) (duplicate_names : Bool) (inner : ℕ) (pass : FirstPass) → inner ≤ l.place → IsAt mode duplicate_names (values l.units) l.place (l.place - inner) pass → IsAt mode duplicate_names (values l.units) l.end (l.end - inner) pass;
  units_over : HasStepped (g.C.Counter.count l.fn.steps) (g.C.Counter.count l.steps) (l.end - l.place);
}

abbrev pub decreases-loop-end : goal.decreases-loop-end
decreases-loop-end g l = length l.units - l.end
