use Rattle.rx_class.proofs.Common.{environment_of, GivesItem}
use Rattle.rx_class.proofs.ClassReading.Ranges.{first_gives, one_gives}
use Rattle.rx_class.proofs.Keeping.{handed}
use Rattle.rx_class.proofs.reading.Reading.class_item.Goals as goal

pub returns-in_err-low-clause-gives : goal.returns-in_err-low-clause-gives
returns-in_err-low-clause-gives g c =
    handed (GivesItem (environment_of c.args.self.now.state.now) c.args.self.now.spans.now c.args.self.now.reader.now c.class_atom.new.self.reader.now) c.from_residual.ensures.1 (first_gives _ _ _ c.requires.no_sets c.in_err-low.ensures.gives)

pub returns-clause-gives : goal.returns-clause-gives
returns-clause-gives g c = one_gives _ _ _ _ c.requires.no_sets c.in_ok-low.ensures.gives c.units.ensures.units c.is_dashed.ensures c.if-is_dashed.false c.one_atom.ensures
