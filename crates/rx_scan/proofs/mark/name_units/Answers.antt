use Rattle.std.proofs.Common.{◌≡◌, ◌∙◌, ◌==◌, ap, sym, length, subst, ne_eqb, arith}
use Rattle.rx_scan.proofs.MarkSteps.{Passed, passed_none, passed_more, closed_found, closed_none}
use Rattle.rx_scan.proofs.mark.name_units.Goals as goal

pub loop-place-init : goal.loop-place-init
loop-place-init g c = record { passed = passed_none g.U.Unit.value c.items-items.result.now; turns = omega arith }

pub returns-then-value-clause-value : goal.returns-then-value-clause-value
returns-then-value-clause-value g c =
    closed_found g.U.Unit.value _ c.loop-place.place _ c.items-items.ensures.values c.front.ensures.values c.loop-place-test.true (sym (c.value.ensures ∙ ap g.U.Unit.value c.index-items-place.is) ∙ c.if-value.true) c.loop-place.invariant.passed

pub loop-place-preserved : goal.loop-place-preserved
loop-place-preserved g c = record {
  passed = passed_more g.U.Unit.value _ c.loop-place.place _ c.loop-place-test.true (ap (λ v. v == 62) (sym (c.value.ensures ∙ ap g.U.Unit.value c.index-items-place.is)) ∙ ne_eqb _ _ c.if-value.false) c.loop-place.invariant.passed;
  turns = omega arith;
}

pub returns-clause-value : goal.returns-clause-value
returns-clause-value g c =
    let e : c.loop-place.place ≡ length c.items-items.result.now = omega arith in
    closed_none g.U.Unit.value _ c.items-items.ensures.values (subst (Passed g.U.Unit.value c.items-items.result.now) e c.loop-place.invariant.passed)
