use Rattle.rx_class.proofs.Common.{is_unicode_property_value_character}
use Rattle.rx_class.proofs.PropertyReading.Runs.{run_within, value_run}
use Rattle.rx_class.proofs.properties.form.run_at.Goals as goal

pub from-requires : goal.from-requires
from-requires g c = run_within is_unicode_property_value_character c.args.units.now _ c.value_length-length.ensures.value

pub front-requires : goal.front-requires
front-requires g c = run_within is_unicode_property_value_character c.args.units.now _ c.value_length-length.ensures.value

pub returns-clause-run : goal.returns-clause-run
returns-clause-run g c = value_run c.args.units.now _ _ _ c.value_length-length.ensures.value c.front.ensures.units c.from.ensures.units
