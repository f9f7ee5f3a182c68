use Rattle.std.proofs.Common.{arith}
use Rattle.rx_scan.proofs.UnitRuns.{run_of_units}
use Rattle.rx_class.proofs.Common.{is_unicode_property_value_character}
use Rattle.rx_class.proofs.properties.form.value_length.Goals as goal

pub loop-length-init : goal.loop-length-init
loop-length-init g c = (omega (arith, run_of_units g.U.Unit.value is_unicode_property_value_character _ _ c.items-items.ensures.values), omega arith, omega arith)
