use Rattle.std.proofs.Common.{◌≡◌, ◌+◌, ◌-◌, ◌≤◌, false, length}
use Rattle.rx_units.specs.Units.{values}
use Rattle.rx_model.specs.declared.mode.Mode.{Mode}
use Rattle.rx_model.specs.Inputs.Environment.{is_sets}
use Rattle.rx_model.specs.FirstPass.Marks.{class_rest}
use Rattle.rx_scan.proofs.MarkSteps.{HasStepped}
use Rattle.rx_scan.proofs.mark.flat_class_rest.Given as goal

abbrev pub invariant-loop-unit : goal.invariant-loop-unit
invariant-loop-unit g l = record {
  inside : (mode : Mode) → is_sets mode ≡ false → class_rest mode false 0 (values l.units) ≡ length l.units - length l.left + class_rest mode false 0 (values l.left);
  within : length l.left ≤ length l.units;
  turns : HasStepped (g.C.Counter.count l.fn.steps) (g.C.Counter.count l.steps) (length l.units - length l.left);
}

abbrev pub decreases-loop-unit : goal.decreases-loop-unit
decreases-loop-unit g l = length l.left
