use Rattle.std.proofs.Common.{refl}
use Rattle.rx_class.proofs.Common.{environment_of}
use Rattle.rx_class.proofs.ClassReading.Atoms.{alone_gives, class_escape_gives}
use Rattle.rx_class.proofs.Readings.{span_on, start_fits}
use Rattle.rx_class.proofs.ReadingSteps.{only_moved}
use Rattle.rx_class.proofs.reading.Reading.take_one_unit.Goals as goal

pub span_from-span-requires : goal.span_from-span-requires
span_from-span-requires g c = start_fits c.advance.ensures.on c.args.start c.requires.backslash

pub returns-in-Character-clause-gives : goal.returns-in-Character-clause-gives
returns-in-Character-clause-gives g c =
    alone_gives (environment_of c.args.self.now.state.now) c.requires.no_sets c.args.self.now.spans.now c.args.start c.args.self.now.reader.now c.requires.backslash _ _ c.advance.new.self.reader.now (rw c.in-Character.is at c.requires.stands)
    (span_on c.advance.ensures.on _ c.span_from-span.ensures) c.advance.ensures.reader

pub returns-in-Class-clause-gives : goal.returns-in-Class-clause-gives
returns-in-Class-clause-gives g c =
    class_escape_gives (environment_of c.args.self.now.state.now) c.requires.no_sets c.args.self.now.spans.now c.args.start c.args.self.now.reader.now c.requires.backslash _ c.advance.new.self.reader.now refl (rw c.in-Class.is at c.requires.stands)
    (span_on c.advance.ensures.on _ c.span_from-span.ensures) c.advance.ensures.reader

pub returns-in-Character-clause-steps : goal.returns-in-Character-clause-steps
returns-in-Character-clause-steps g c =
    only_moved 1 c.args.self.now.reader.now c.advance.new.self.reader.now (g.C.Counter.count c.args.self.now.steps.now) (g.C.Counter.count c.advance.new.self.steps.now) c.advance.ensures.reader c.advance.ensures.steps

pub returns-in-Class-clause-steps : goal.returns-in-Class-clause-steps
returns-in-Class-clause-steps g c =
    only_moved 1 c.args.self.now.reader.now c.advance.new.self.reader.now (g.C.Counter.count c.args.self.now.steps.now) (g.C.Counter.count c.advance.new.self.steps.now) c.advance.ensures.reader c.advance.ensures.steps
