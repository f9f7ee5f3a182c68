use Rattle.std.proofs.Common.{inl, inr, sym, ◌∙◌, arith}
use Rattle.rx_class.proofs.Common.{is_unicode_property_name_character}
use Rattle.rx_class.proofs.PropertyReading.Runs.{looked, name_count, name_inside, no_units, none_without, none_without_equals, pair_here, run_within, unclosed}
use Rattle.rx_class.proofs.properties.form.pair_at.Goals.{then-is_empty-via-then-is_empty, then-is_empty-via-else-is_empty+then-is_empty-2, then-is_empty-via-else-is_empty+else-is_empty-2+then-is_empty-3}
use Rattle.rx_class.proofs.properties.form.pair_at.Goals as goal

pub from-requires : goal.from-requires
from-requires g c = run_within is_unicode_property_name_character c.args.units.now _ c.name_length-length.ensures.value

pub front-name-requires : goal.front-name-requires
front-name-requires g c = run_within is_unicode_property_name_character c.args.units.now _ c.name_length-length.ensures.value

pub returns-in_err-following-clause-found : goal.returns-in_err-following-clause-found
returns-in_err-following-clause-found g c =
    rw c.from_residual.ensures (none_without_equals c.args.units.now _ _ _ c.name_length-length.ensures.value c.front-name.ensures.units c.from.ensures.units c.in_err-following.ensures.found)

pub returns-in_err-following-clause-run : goal.returns-in_err-following-clause-run
returns-in_err-following-clause-run g c = λ run following is closed.
    let inside = name_inside c.args.units.now _ _ _ c.name_length-length.ensures.value c.front-name.ensures.units c.from.ensures.units is in
    let count = name_count c.args.units.now _ _ _ c.name_length-length.ensures.value c.front-name.ensures.units c.from.ensures.units in
    omega (arith, c.name_length-length.ensures.steps.1, inside, count)

pub returns-then-is_empty : goal.returns-then-is_empty
returns-then-is_empty g c =
    let most = looked c.args.units.now _ _ _ c.name_length-length.ensures.value c.front-name.ensures.units c.from.ensures.units _ _ _ c.in_ok-following.ensures.found c.run_at-run.ensures.run in
    record {
      found =
          none_without c.args.units.now _ _ _ c.name_length-length.ensures.value c.front-name.ensures.units c.from.ensures.units _ _ _ c.in_ok-following.ensures.found c.run_at-run.ensures.run
          (elim c.then-is_empty.branch [
            | then-is_empty-via-then-is_empty b ↦ inl (no_units _ (sym c.is_empty.ensures ∙ b.if-is_empty.true))
            | then-is_empty-via-else-is_empty+then-is_empty-2 b ↦ inr (inl (no_units _ (sym b.is_empty-else-is_empty.ensures ∙ b.if-is_empty-2.true)))
            | then-is_empty-via-else-is_empty+else-is_empty-2+then-is_empty-3 b ↦ inr (inr (no_units _ (sym b.is_empty-else-is_empty-2.ensures ∙ b.if-is_empty-3.true)))
          ]);
      steps = (omega (arith, c.name_length-length.ensures.steps.0, c.run_at-run.ensures.steps.0), omega (arith, c.name_length-length.ensures.steps.1, c.run_at-run.ensures.steps.1, most));
      pair = tt;
      run = λ run following is closed.
          absurd (unclosed c.args.units.now _ _ _ c.name_length-length.ensures.value c.front-name.ensures.units c.from.ensures.units _ _ _ c.in_ok-following.ensures.found c.run_at-run.ensures.run is closed);
    }

pub returns : goal.returns
returns g c =
    let count = name_count c.args.units.now _ _ _ c.name_length-length.ensures.value c.front-name.ensures.units c.from.ensures.units in
    let most = looked c.args.units.now _ _ _ c.name_length-length.ensures.value c.front-name.ensures.units c.from.ensures.units _ _ _ c.in_ok-following.ensures.found c.run_at-run.ensures.run in
    record {
      found =
          pair_here c.args.units.now _ _ _ c.name_length-length.ensures.value c.front-name.ensures.units c.from.ensures.units _ _ _ c.in_ok-following.ensures.found c.run_at-run.ensures.run
          (sym c.is_empty.ensures ∙ c.if-is_empty.false) (sym c.is_empty-else-is_empty.ensures ∙ c.if-is_empty-2.false) (sym c.is_empty-else-is_empty-2.ensures ∙ c.if-is_empty-3.false);
      steps = (omega (arith, c.name_length-length.ensures.steps.0, c.run_at-run.ensures.steps.0), omega (arith, c.name_length-length.ensures.steps.1, c.run_at-run.ensures.steps.1, most));
      pair = omega (arith, c.name_length-length.ensures.steps.1, c.run_at-run.ensures.steps.1, count);
      run = λ run following is closed.
          absurd (unclosed c.args.units.now _ _ _ c.name_length-length.ensures.value c.front-name.ensures.units c.from.ensures.units _ _ _ c.in_ok-following.ensures.found c.run_at-run.ensures.run is closed);
    }

pub returns-in_err-following-clause-steps : goal.returns-in_err-following-clause-steps
returns-in_err-following-clause-steps g c =
    let within = run_within is_unicode_property_name_character c.args.units.now _ c.name_length-length.ensures.value in
    (omega (arith, c.name_length-length.ensures.steps.0), omega (arith, c.name_length-length.ensures.steps.1, within))
