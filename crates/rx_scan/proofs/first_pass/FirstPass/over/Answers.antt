use Rattle.std.proofs.Common.{◌+◌, ◌-◌, ◌≤◌, ◌≡◌, ◌∙◌, length, subst, sym, arith, rules}
use Rattle.rx_units.specs.Units.{values}
use Rattle.rx_model.specs.Refusals.Reached.{text_groups, text_names}
use Rattle.rx_scan.specs.FirstPass.{IsPassFault}
use Rattle.rx_scan.specs.MarkReading.{seen_front}
use Rattle.rx_scan.specs.Walked.{IsAt}
use Rattle.rx_scan.proofs.Passes.{start_at, advanced, counted_all, named_all, nests_at, tells, refused, all_clean}
use Rattle.rx_scan.proofs.MarkSteps.{stepped_all, stepped_over, stepped_within, units_left, values_length}
use Rattle.rx_scan.proofs.first_pass.FirstPass.over.Given.{Over}
use Rattle.rx_scan.proofs.first_pass.FirstPass.over.Goals.{After-read_mark-mark}
use Rattle.rx_scan.proofs.first_pass.FirstPass.over.Goals as goal

-- the mark that begins at the place ends within the units
inside : (g : Over) (c : After-read_mark-mark g) → c.loop-unit.place + (c.read_mark-mark.result.1 + 1) ≤ length c.args.units.now
inside g c = omega (arith, units_left c.loop-unit.place c.args.units.now _ _ (sym c.from.ensures.values ∙ c.in-Some.ensures.values), c.read_mark-mark.ensures.within)

pub loop-unit-init : goal.loop-unit-init
loop-unit-init g c = record {
  at = c.plain_end-place.ensures.passed _ _ 0 _ (omega arith) (start_at c.args.mode c.args.duplicate_names (values c.args.units.now) c.new-pass.result c.new-pass.ensures);
  few = omega arith;
  inside = omega arith;
  units_over = omega arith;
}

pub returns-clause-clean : goal.returns-clause-clean
returns-clause-clean g c = all_clean _ _ _ _ _ _ (sym c.from.ensures.values ∙ c.in_default.ensures.values) c.loop-unit.invariant.at

pub step-requires-clause-tells : goal.step-requires-clause-tells
step-requires-clause-tells g c = tells _ _ _ _ _ _ c.loop-unit.invariant.at

pub step-requires-clause-nests : goal.step-requires-clause-nests
step-requires-clause-nests g c = nests_at _ _ _ _ _ _ c.loop-unit.invariant.at

pub returns-in_err-step-clause-fault : goal.returns-in_err-step-clause-fault
returns-in_err-step-clause-fault g c =
    let us = c.args.units.now in
    let told : IsPassFault c.args.mode c.args.duplicate_names (values us) c.in_err-step.field-0.0 =
    refused _ _ _ _ _ _ _ (seen_front c.read_mark-mark.result) _ _ (sym c.from.ensures.values ∙ c.in-Some.ensures.values) c.read_mark-mark.ensures.value c.in_err-step.ensures.err c.loop-unit.invariant.at in
    search rules

pub loop-unit-preserved : goal.loop-unit-preserved
loop-unit-preserved g c =
    let us = c.args.units.now in
    let place = c.loop-unit.place in
    let inner = c.loop-unit.inner in
    let more = c.read_mark-mark.result.1 in
    let few = c.loop-unit.invariant.few in
    let here = sym c.from.ensures.values ∙ c.in-Some.ensures.values in
    let inside : place + (more + 1) ≤ length us = omega (arith, units_left place us _ _ here, c.read_mark-mark.ensures.within) in
    let next : place - inner + 1 ≡ place + (more + 1) - (inner + more) = omega (arith, few) in
    let turned = advanced _ _ _ _ _ _ _ (seen_front c.read_mark-mark.result) _ _ here c.read_mark-mark.ensures.value (omega (arith, inside, values_length us)) c.in_ok-step.ensures.ok c.loop-unit.invariant.at in
    record {
      at = c.plain_end-place-in-Some.ensures.passed _ _ (inner + more) _ (omega (arith, few)) (subst (λ k. IsAt c.args.mode c.args.duplicate_names (values us) (place + (more + 1)) k c.step.new.self) next turned);
      few = omega arith;
      inside = omega arith;
      units_over = omega arith;
    }

pub returns-clause-mode : goal.returns-clause-mode
returns-clause-mode g c = c.loop-unit.invariant.at.mode_is

pub returns-clause-count : goal.returns-clause-count
unfolding text_groups
returns-clause-count g c = counted_all _ _ _ _ _ _ (sym c.from.ensures.values ∙ c.in_default.ensures.values) c.loop-unit.invariant.at

pub returns-clause-names : goal.returns-clause-names
unfolding text_names
returns-clause-names g c = named_all _ _ _ _ _ _ (sym c.from.ensures.values ∙ c.in_default.ensures.values) c.loop-unit.invariant.at

pub returns-clause-all : goal.returns-clause-all
returns-clause-all g c = stepped_all c.args.units.now _ _ c.loop-unit.place c.loop-unit.invariant.units_over (sym c.from.ensures.values ∙ c.in_default.ensures.values) c.loop-unit.invariant.inside

pub returns-clause-most : goal.returns-clause-most
returns-clause-most g c = stepped_within c.args.units.now _ _ c.loop-unit.place c.loop-unit.invariant.units_over c.loop-unit.invariant.inside

pub returns-in_err-step-clause-most : goal.returns-in_err-step-clause-most
returns-in_err-step-clause-most g c =
    stepped_over c.args.units.now _ _ c.loop-unit.place c.loop-unit.invariant.units_over _ _ _ _ _ (sym c.from.ensures.values ∙ c.in-Some.ensures.values) c.read_mark-mark.ensures.within c.tick.ensures
    c.read_mark-mark.ensures.steps

pub step-requires-clause-few : goal.step-requires-clause-few
step-requires-clause-few g c = let at = c.loop-unit.invariant.at in omega (arith, at.fewer, at.few, c.loop-unit.invariant.inside, c.len.ensures.value, c.len.ensures.short)

pub step-requires-clause-room : goal.step-requires-clause-room
step-requires-clause-room g c = omega (arith, units_left c.loop-unit.place c.args.units.now _ _ (sym c.from.ensures.values ∙ c.in-Some.ensures.values), c.read_mark-mark.ensures.within, c.read_mark-mark.ensures.name, c.len.ensures.value, c.len.ensures.short)

pub step-requires-clause-after : goal.step-requires-clause-after
step-requires-clause-after g c = omega (arith, c.loop-unit.invariant.inside, c.len.ensures.value, c.len.ensures.short)

pub step-requires-clause-knows : goal.step-requires-clause-knows
step-requires-clause-knows g c = c.loop-unit.invariant.at.knows

pub overflow_add-inner : goal.overflow_add-inner
overflow_add-inner g c =
    let within = inside g (goal.at.overflow_add-inner g c).After-read_mark-mark in
    omega (arith, within, c.loop-unit.invariant.few, c.len.ensures.value, c.len.ensures.short)

pub overflow_add-more : goal.overflow_add-more
overflow_add-more g c =
    let within = inside g (goal.at.overflow_add-more g c).After-read_mark-mark in
    omega (arith, within, c.loop-unit.invariant.few, c.len.ensures.value, c.len.ensures.short)

pub overflow_add-place : goal.overflow_add-place
overflow_add-place g c =
    let within = inside g (goal.at.overflow_add-place g c).After-read_mark-mark in
    omega (arith, within, c.loop-unit.invariant.few, c.len.ensures.value, c.len.ensures.short)

pub plain_end-place-requires-in-Some : goal.plain_end-place-requires-in-Some
plain_end-place-requires-in-Some g c = inside g (goal.at.plain_end-place-requires-in-Some g c).After-read_mark-mark

pub loop-unit-smaller : goal.loop-unit-smaller
loop-unit-smaller g c =
    let within = inside g (goal.at.loop-unit-smaller g c).After-read_mark-mark in
    omega (arith, within, c.plain_end-place-in-Some.ensures.from)
