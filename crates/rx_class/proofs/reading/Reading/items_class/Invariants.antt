use Rattle.std.proofs.Common.{◌-◌, length}
use Rattle.rx_class.proofs.Common.{IsPaced, environment_of, contents, ReadsOn}
use Rattle.rx_class.proofs.ClassReading.Ends.{IsInClass}
use Rattle.rx_class.proofs.reading.Reading.items_class.Given as goal

abbrev pub invariant-loop-self : goal.invariant-loop-self
invariant-loop-self g l = record {
  inside : IsInClass (environment_of l.fn.self.state.now) l.fn.self.spans.now l.fn.self.reader.now l.self.reader.now l.negative (contents l.contents);
  paced : IsPaced 6 (g.C.Counter.count l.fn.self.steps.now) (g.C.Counter.count l.self.steps.now) l.fn.self.reader.now l.self.reader.now;
  on : ReadsOn l.fn.self l.self;
}

abbrev pub decreases-loop-self : goal.decreases-loop-self
decreases-loop-self g l = length l.self.reader.now.units - l.self.reader.now.place
