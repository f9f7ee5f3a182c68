use Rattle.std.proofs.Common.{arith}
use Rattle.rx_class.proofs.Common.{rest}
use Rattle.rx_class.proofs.ReadingSteps.{looked_then_moved}
use Rattle.rx_class.proofs.Readings.{span_on}
use Rattle.rx_class.proofs.SetReading.Characters.{character_gives, set_character_within}
use Rattle.rx_class.proofs.reading.Reading.take_character.Goals as goal

pub returns-clause-gives : goal.returns-clause-gives
returns-clause-gives g c =
    let it = c.args.found in
    character_gives c.args.self.now.spans.now c.args.self.now.reader.now c.skip.new.self.reader.now it.kind it.value it.length _ _ c.requires.found c.requires.code_points c.offset-start.ensures.value c.skip.ensures.reader
    (span_on c.skip.ensures.on _ c.span_from.ensures)

pub returns-clause-steps : goal.returns-clause-steps
returns-clause-steps g c =
    let old = c.args.self.now in
    looked_then_moved c.args.found.length old.reader.now c.skip.new.self.reader.now (g.C.Counter.count old.steps.now) (g.C.Counter.count c.add.new.self) (g.C.Counter.count c.skip.new.self.steps.now)
    (set_character_within (rest old.reader.now) c.requires.found) c.skip.ensures.reader (omega (arith, c.add.ensures)) (omega (arith, c.add.ensures)) c.skip.ensures.steps
