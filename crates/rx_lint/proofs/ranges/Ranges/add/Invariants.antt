use Rattle.std.specs.BTreeMap.{get, btree_map_len}
use Rattle.std.specs.Ordering.{nat_cmp}
use Rattle.rx_lint.proofs.Stairs.{IsThinned}
use Rattle.rx_lint.proofs.ranges.Ranges.add.Given as goal

abbrev pub invariant-loop-key : goal.invariant-loop-key
invariant-loop-key l = IsThinned l.low l.high (get nat_cmp l.fn.self.ends) (get nat_cmp l.self.ends)

abbrev pub decreases-loop-key : goal.decreases-loop-key
decreases-loop-key l = btree_map_len l.self.ends
