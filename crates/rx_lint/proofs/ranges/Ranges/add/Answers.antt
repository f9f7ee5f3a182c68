use Rattle.std.proofs.Common.{arith}
use Rattle.std.proofs.lemmas.Grind.{common_steps}
use Rattle.std.specs.BTreeMap.{get}
use Rattle.std.specs.Ordering.{nat_cmp}
use Rattle.rx_lint.proofs.Stairs.{range_added, still_rising}
use Rattle.rx_lint.proofs.ranges.Ranges.add.Goals as goal

pub returns-in-Ok : goal.returns-in-Ok
returns-in-Ok c = λ rs s fresh.
    range_added c.args.low c.args.high (get nat_cmp c.args.self.now.ends) (get nat_cmp c.loop-key.self.ends) _ rs s fresh c.loop-key.invariant
    (c.in_default.ensures (still_rising _ _ _ _ s.rising c.loop-key.invariant)) (λ q. grind (arith, common_steps, c.in-Ok.ensures.updates.0 q))
