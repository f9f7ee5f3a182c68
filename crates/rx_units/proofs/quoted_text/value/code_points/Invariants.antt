use Rattle.std.proofs.Common.{◌≡◌, ◌++◌, length}
use Rattle.rx_units.specs.Quoted.Values.{code_points}
use Rattle.rx_units.proofs.quoted_text.value.code_points.Given as goal

abbrev pub invariant-loop-unit : goal.invariant-loop-unit
invariant-loop-unit l = l.body ++ code_points l.rest ≡ code_points l.units

abbrev pub decreases-loop-unit : goal.decreases-loop-unit
decreases-loop-unit l = length l.rest
