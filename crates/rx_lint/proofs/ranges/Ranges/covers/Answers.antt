use Rattle.std.proofs.Common.{arith, refl, subst, sym}
use Rattle.std.proofs.lemmas.Grind.{common_steps}
use Rattle.std.specs.BTreeMap.{get}
use Rattle.std.specs.Option.{IsSome}
use Rattle.std.specs.Ordering.{nat_cmp}
use Rattle.rx_lint.proofs.Stairs.{answer_of_last}
use Rattle.rx_lint.proofs.ranges.Ranges.covers.Goals as goal

pub returns-in-Some : goal.returns-in-Some
returns-in-Some c = λ rs s.
    let last = (c.range.ensures.in_range tt).3 _ _ c.in-Some.ensures.steps in
    let most = (c.range.ensures.in_range tt).4 _ _ c.in-Some.ensures.steps in
    answer_of_last (get nat_cmp c.args.self.now.ends) rs c.args.low c.args.high c.in-Some.field-0-0.now c.in-Some.end.now s last.1 (let h = last.0.1 in grind (arith, common_steps, h))
    (λ q b le is. let some : IsSome (get nat_cmp c.args.self.now.ends q) = subst IsSome (sym is) refl in let h = most q (tt, grind (arith, common_steps)) some in grind (arith, common_steps, h))
