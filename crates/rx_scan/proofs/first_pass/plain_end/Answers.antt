use Rattle.std.proofs.Common.{◌+◌, ◌-◌, ◌≡◌, ◌∙◌, ap, subst, sym, arith}
use Rattle.rx_units.specs.Units.{values}
use Rattle.rx_scan.specs.Walked.{IsAt}
use Rattle.rx_scan.proofs.Passes.{passed}
use Rattle.rx_scan.proofs.MarkSteps.{value_at, values_length}
use Rattle.rx_scan.proofs.first_pass.plain_end.Goals as goal

pub loop-end-init : goal.loop-end-init
loop-end-init g c = record {
  from = omega arith;
  inside = c.requires;
  passed = λ _ _ _ _ _ is. is;
  units_over = omega arith;
}

pub loop-end-preserved : goal.loop-end-preserved
loop-end-preserved g c =
    let us = c.args.units.now in
    let from = c.loop-end.invariant.from in
    let inside = c.loop-end-test.true in
    let here = value_at g.U.Unit.value _ c.loop-end.end _ c.items-items.ensures.values inside (c.value.ensures ∙ ap g.U.Unit.value c.index-items-end.is) in
    record {
      from = omega arith;
      inside = omega (arith, inside, c.items-items.ensures.length);
      passed = λ mode duplicate_names inner pass few is.
          let next : c.loop-end.end - inner + 1 ≡ c.loop-end.end + 1 - inner = omega (arith, few, from) in
          subst (λ k. IsAt mode duplicate_names (values us) (c.loop-end.end + 1) k pass) next (passed _ _ _ here (sym c.is_plain.ensures ∙ c.if-is_plain.true) (omega (arith, inside, values_length us, c.items-items.ensures.length)) (c.loop-end.invariant.passed mode duplicate_names inner pass few is));
      units_over = omega (arith, from, c.loop-end.invariant.units_over);
    }
