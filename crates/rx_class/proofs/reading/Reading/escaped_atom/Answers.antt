use Rattle.std.proofs.Common.{subst}
use Rattle.rx_class.proofs.Common.{environment_of, is_unicode, rest, values}
use Rattle.rx_class.specs.ClassReading.Items.{StandsOneUnit}
use Rattle.rx_class.proofs.ClassReading.Atoms.{one_unit_stands}
use Rattle.rx_class.proofs.reading.Reading.escaped_atom.Goals as goal

pub take_one_unit-requires-clause-stands : goal.take_one_unit-requires-clause-stands
take_one_unit-requires-clause-stands g c =
    subst (StandsOneUnit (is_unicode (environment_of c.args.self.now.state.now).mode) (values (rest c.args.self.now.reader.now))) c.in-Some.is (one_unit_stands c.one_unit_at.result c.is_unicode.ensures c.units.ensures.units c.one_unit_at.ensures)

pub longer_atom-requires-clause-none : goal.longer_atom-requires-clause-none
longer_atom-requires-clause-none g c =
    subst (StandsOneUnit (is_unicode (environment_of c.args.self.now.state.now).mode) (values (rest c.args.self.now.reader.now))) c.in-None.is (one_unit_stands c.one_unit_at.result c.is_unicode.ensures c.units.ensures.units c.one_unit_at.ensures)
