use Rattle.std.proofs.Common.{arith, refl}
use Rattle.rx_class.proofs.ClassReading.Atoms.{common_gives, common_within}
use Rattle.rx_class.proofs.Readings.{span_on}
use Rattle.rx_class.proofs.ReadingSteps.{looked_then_moved}
use Rattle.rx_class.proofs.reading.Reading.take_common.Goals as goal

pub returns-clause-gives : goal.returns-clause-gives
returns-clause-gives g c =
    common_gives c.requires c.args.self.now.spans.now c.offset-start.result c.args.self.now.reader.now c.skip.new.self.reader.now _ refl c.offset-start.ensures.value c.skip.ensures.reader (span_on c.skip.ensures.on _ c.span_from.ensures)

pub returns-clause-steps : goal.returns-clause-steps
returns-clause-steps g c =
    let old = c.args.self.now in
    looked_then_moved c.args.atom.length old.reader.now c.skip.new.self.reader.now (g.C.Counter.count old.steps.now) (g.C.Counter.count c.add.new.self) (g.C.Counter.count c.skip.new.self.steps.now)
    (common_within c.requires) c.skip.ensures.reader (omega (arith, c.add.ensures)) (omega (arith, c.add.ensures)) c.skip.ensures.steps
