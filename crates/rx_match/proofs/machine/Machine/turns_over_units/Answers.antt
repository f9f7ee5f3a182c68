use Rattle.std.proofs.Common.{◌≡◌, ap, sym, subst, ◌∙◌, suc, ◌-◌, ◌+◌, arith}
use Rattle.rx_match.specs.declared.machine.Machine.{Machine}
use Rattle.rx_match.specs.declared.machine.Action.TheVariants as action
use Rattle.rx_match.specs.Runs.{AreHeld}
use Rattle.rx_match.specs.Kinds.{fewer}
use Rattle.rx_program.specs.Steps.{test_holds}
use Rattle.rx_match.specs.MachineSteps.{run_ahead, with_earlier, TakesMarks}
use Rattle.rx_match.proofs.UnitTurns.{payable}
use Rattle.rx_match.proofs.UnitMoves.{budget_with_earlier, takes_turns}
use Rattle.rx_match.proofs.machine.Machine.turns_over_units.Goals as goal

pub returns : goal.returns
returns c =
    let m = c.args.self.now in
    let a = c.args in
    let q = c.place_after_units-place.result in
    let k = q - m.place in
    let free = c.if-turns-eq0.false in
    let held = subst (λ most. AreHeld m.input.now (test_holds a.test) m.place most q) c.most_turns-most.ensures c.place_after_units-place.ensures in
    let order = held.order in
    let few = held.most_of in
    let most = payable a.it.max m.budget in
    let some : k ≡ suc (k - 1) = omega arith in
    let at : q ≡ m.place + suc (k - 1) = omega arith in
    let left : c.saturating_sub-earlier.result ≡ suc (k - 1) - a.it.min = c.saturating_sub-earlier.ensures ∙ ap (λ n. n - a.it.min) some in
    let v : Machine = with_earlier m q (suc (k - 1) - a.it.min) a.it.parts.next in
    let same : c.leave_earlier.new.self ≡ v = c.in_ok-leave_earlier.ensures ∙ ap (λ free. with_earlier m q free a.it.parts.next) left in
    let kept = budget_with_earlier m q (suc (k - 1) - a.it.min) a.it.parts.next in
    subst (λ x. TakesMarks m (record x { place = q; budget = x.budget - k }) (run_ahead m (action.Repeat a.it.repeat a.it.min a.it.max)) (run_ahead (record x { place = q; budget = x.budget - k }) (action.Repeat a.it.repeat c.saturating_sub.result c.less_by.result)))
    (sym same)
    (takes_turns m a.it.repeat a.it.parts a.test a.it.min a.it.max c.requires.stands.sound c.requires.stands.step c.requires.units (k - 1) q c.saturating_sub.result (v.budget - k) c.less_by.result held at
    (c.saturating_sub.ensures ∙ ap (λ n. a.it.min - n) some) (c.less_by.ensures ∙ ap (fewer a.it.max) some) (omega arith))
