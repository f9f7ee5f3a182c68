use Rattle.std.proofs.Common.{refl}
use Rattle.rx_class.proofs.Common.{GivesTurn}
use Rattle.rx_class.proofs.Keeping.{handed}
use Rattle.rx_class.proofs.SetReading.Operands.{property_refused, property_sound, property_turns}
use Rattle.rx_class.proofs.reading.Reading.property_operand.Goals as goal

pub returns-in_err-escape-clause-gives : goal.returns-in_err-escape-clause-gives
returns-in_err-escape-clause-gives g c =
    handed (GivesTurn _ _ _ _ _ _) c.from_residual.ensures.1 (property_refused c.args.self.now.reader.now _ c.requires.front refl c.requires.takes c.requires.sets c.in_err-escape.ensures.gives)

pub push_property-requires-clause-sound : goal.push_property-requires-clause-sound
push_property-requires-clause-sound g c = property_sound c.in_ok-escape.ensures.gives

pub returns-clause-gives : goal.returns-clause-gives
returns-clause-gives g c = property_turns c.args.self.now.reader.now _ c.requires.front refl c.push_property.result c.requires.takes c.requires.sets refl c.in_ok-escape.ensures.gives c.push_property.ensures
