use Rattle.std.proofs.Common.{◌≡◌, ◌-◌, true, length}
use Rattle.rx_class.proofs.Common.{IsPaced, Environment, is_sets, ReadsOn}
use Rattle.rx_class.proofs.SetReading.Strings.{IsInStrings}
use Rattle.rx_class.proofs.reading.Reading.class_strings.Given as goal

abbrev pub invariant-loop-self : goal.invariant-loop-self
invariant-loop-self g l = record {
  strings : (e : Environment) → is_sets e.mode ≡ true → IsInStrings e l.fn.self.spans.now l.fn.self.reader.now l.self.reader.now l.builder;
  paced : IsPaced 6 (g.C.Counter.count l.fn.self.steps.now) (g.C.Counter.count l.self.steps.now) l.fn.self.reader.now l.self.reader.now;
  on : ReadsOn l.fn.self l.self;
}

abbrev pub decreases-loop-self : goal.decreases-loop-self
decreases-loop-self g l = length l.self.reader.now.units - l.self.reader.now.place
