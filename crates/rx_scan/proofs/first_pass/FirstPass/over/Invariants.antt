use Rattle.std.proofs.Common.{◌-◌, ◌≤◌, length}
use Rattle.rx_units.specs.Units.{values}
use Rattle.rx_scan.specs.Walked.{IsAt}
use Rattle.rx_scan.proofs.MarkSteps.{HasStepped}
use Rattle.rx_scan.proofs.first_pass.FirstPass.over.Given as goal

abbrev pub invariant-loop-unit : goal.invariant-loop-unit
invariant-loop-unit g l = record {
  at : IsAt l.mode l.duplicate_names (values l.units) l.place (l.place - l.inner) l.pass;
  few : l.inner ≤ l.place;
  inside : l.place ≤ length l.units;
  units_over : HasStepped (g.C.Counter.count l.fn.steps) (g.C.Counter.count l.steps) l.place;
}

abbrev pub decreases-loop-unit : goal.decreases-loop-unit
decreases-loop-unit g l = length l.units - l.place
