use Rattle.std.proofs.Common.{◌≡◌, ◌+◌}
use Rattle.rx_model.specs.Trees.Names.{groups}
use Rattle.rx_example.specs.Parts.{waiting_groups, waiting_size}
use Rattle.rx_example.proofs.groups.capturing_groups.Given as goal

abbrev pub invariant-loop-part : goal.invariant-loop-part
invariant-loop-part l = l.count + waiting_groups l.waiting ≡ groups l.fn.pattern

abbrev pub decreases-loop-part : goal.decreases-loop-part
decreases-loop-part l = waiting_size l.waiting
