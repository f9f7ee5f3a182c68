use Rattle.rx_class.specs.SetReading.Progress.{range, out_of_order}
use Rattle.rx_class.proofs.sets.operand.range.Goals as goal

pub returns-then-min-max : goal.returns-then-min-max
returns-then-min-max c = rw c.new-span.ensures (range c.if-min-max.true)

pub returns-else-min-max : goal.returns-else-min-max
returns-else-min-max c = rw c.new-span.ensures (out_of_order c.if-min-max.false)
