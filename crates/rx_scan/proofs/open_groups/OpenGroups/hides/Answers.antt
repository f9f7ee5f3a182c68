use Rattle.std.proofs.Common.{◌≡◌, ◌∙◌, ap, subst, ◌-◌, get_or, arith}
use Rattle.std.specs.Prelude.{nat_lt}
use Rattle.rx_scan.specs.OpenGroups.{pair, no_group, Splits}
use Rattle.rx_scan.proofs.GroupSteps.{hides_top, hides_before, hides_split}
use Rattle.rx_scan.proofs.open_groups.OpenGroups.hides.Goals as goal

pub returns-then-self-mark : goal.returns-then-self-mark
returns-then-self-mark c = hides_top c.args.mark (pair c.args.self.now.innermost) c.args.self.now.outer c.requires c.if-self-mark.true

pub returns-then-before-gt0 : goal.returns-then-before-gt0
returns-then-before-gt0 c =
    let a = c.args.mark in let cs = c.args.self.now.outer in let k = c.count_before-before.result in
    ap (λ ds. nat_lt a (get_or ds (k - 1) no_group).bar) c.as_slice-outer.ensures ∙
    hides_split a (pair c.args.self.now.innermost) cs k c.requires c.if-self-mark.false (subst (λ ds. Splits a ds k) c.as_slice-outer.ensures c.count_before-before.ensures) c.if-before-gt0.true

pub returns-else-before-gt0 : goal.returns-else-before-gt0
returns-else-before-gt0 c =
    let a = c.args.mark in let k = c.count_before-before.result in
    let e : k ≡ 0 = omega arith in
    ap (λ j. nat_lt 0 j) e ∙
    hides_before a (pair c.args.self.now.innermost) c.args.self.now.outer c.requires c.if-self-mark.false (subst (Splits a c.args.self.now.outer) e (subst (λ ds. Splits a ds k) c.as_slice-outer.ensures c.count_before-before.ensures))
